use Rattle.std.proofs.Common.{◌≡◌, ◌≤◌, ℕ, List, length, slice_get, Some, refl, sym, ap, ◌∙◌, subst, arith}
use Rattle.std.proofs.lemmas.List.{length-set}
use Rattle.std.proofs.lemmas.Option.{slice_get_read}
use Rattle.requests.specs.Tickets.{sessions}
use Rattle.intake.specs.Outcomes.{outcome_on}
use Rattle.event_model.specs.declared.session.Session.{Session}
use Rattle.event_model.specs.declared.reply.Reply.TheVariants.{Looked}
use Rattle.event_model.specs.Machines.{Machine, board_at, with_session}
use Rattle.event_model.specs.Answers.{answer, look, further}
use Rattle.interleave.specs.WorldWords.{machine_of}
use Rattle.interleave.proofs.Steps.{answered, looks}
use Rattle.interleave.proofs.Tickets.{look_lasts}
use Rattle.interleave.proofs.world.World.look.Goals as goal

pub invariant_of-self-clause-lasts : goal.invariant_of-self-clause-lasts
invariant_of-self-clause-lasts g c =
    let world = c.args.self.now in
    let xs : List Session = world.stored.sessions.items in
    let x : Session = c.index.result.now in
    let y : Session = record { seen = c.further-seen.result; last = x.last } in
    let known = world.stored.sessions.ok.0 in
    let there : slice_get xs c.args.session ≡ Some x = slice_get_read xs (length xs) c.args.session x refl (let a = c.if-place-len.false in let b = c.len.ensures in omega (arith, a, b, known)) c.index.ensures in
    look_lasts world.stored.starts world.stored.asked.items xs c.args.session x y world.lasts there refl

pub invariant_of-self-clause-few : goal.invariant_of-self-clause-few
invariant_of-self-clause-few g c =
    let world = c.args.self.now in
    let xs : List Session = world.stored.sessions.items in
    let y : Session = record { seen = c.further-seen.result; last = c.index.result.now.last } in
    subst (λ (k : ℕ). k ≤ sessions) (sym (length-set xs c.args.session y)) world.few

pub returns-clause-answers : goal.returns-clause-answers
returns-clause-answers g c =
    let world = c.args.self.now in
    let m : Machine = machine_of world in
    let s : ℕ = c.args.session in
    let xs : List Session = world.stored.sessions.items in
    let x : Session = c.index.result.now in
    let known = world.stored.sessions.ok.0 in
    let there : slice_get xs s ≡ Some x = slice_get_read xs (length xs) s x refl (let a = c.if-place-len.false in let b = c.len.ensures in omega (arith, a, b, known)) c.index.ensures in
    let seen : c.further-seen.result ≡ further m x.seen c.args.at = c.further-seen.ensures in
    let board : c.in-Ok.board ≡ board_at m (further m x.seen c.args.at) = c.in-Ok.ensures ∙ ap (board_at m) seen in
    let told : c.outcome_of.result ≡ outcome_on (board_at m (further m x.seen c.args.at)) s x.last = c.outcome_of.ensures ∙ ap (λ b. outcome_on b s x.last) board in
    answered (look m s c.args.at) (answer (Looked (outcome_on (board_at m (further m x.seen c.args.at)) s x.last)) (with_session m s (record { seen = further m x.seen c.args.at; last = x.last }))) m (Looked c.outcome_of.result) _
    (looks m s c.args.at x there) (ap Looked told) (ap (λ (k : ℕ). with_session m s (record { seen = k; last = x.last })) seen)
