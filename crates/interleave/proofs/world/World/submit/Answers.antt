use Rattle.std.proofs.Common.{rules, ◌≡◌, ◌<◌, ◌≤◌, ◌-◌, ◌++◌, ◌∷◌, [], ℕ, List, length, take, drop, set, slice_set, Some, refl, sym, ap, ◌∙◌, subst, arith, length-append}
use Rattle.std.proofs.lemmas.List.{take-append-le, length-set}
use Rattle.std.proofs.Math.Nat.{le_trans}
use Rattle.checkpoint.specs.StoreWords.{state_of}
use Rattle.requests.specs.declared.request.Request.{Request}
use Rattle.requests.specs.Tickets.{sessions, tickets_after}
use Rattle.layout_2.specs.State.{asked, AreInTurn}
use Rattle.group_commit.specs.DeskWords.{store_of}
use Rattle.group_commit.specs.Turns.{AreBehind}
use Rattle.intake.specs.declared.outcome.SubmitRefused.TheVariants.{QueueFull}
use Rattle.event_model.specs.declared.session.Session.{Session}
use Rattle.event_model.specs.declared.reply.Reply.TheVariants.{Submitted, NotSubmitted}
use Rattle.event_model.specs.Machines.{Machine, board_at, let_in}
use Rattle.event_model.specs.Answers.{answer, submit}
use Rattle.event_laws.proofs.Refusing.{let_in_turn}
use Rattle.interleave.specs.Stores.{AreLasts}
use Rattle.interleave.specs.WorldWords.{machine_of}
use Rattle.interleave.proofs.Steps.{answered, finds_full, waits}
use Rattle.interleave.proofs.Tickets.{lets_in_as_read, with_copy, let_in_lasts}
use Rattle.interleave.proofs.world.World.submit.Goals as goal

pub returns-then-len-self-clause-answers : goal.returns-then-len-self-clause-answers
returns-then-len-self-clause-answers g c =
    let world = c.args.self.now in
    let m : Machine = machine_of world in
    let r : Request = record { session = c.args.session; ticket = c.args.ticket; change = c.args.change.now } in
    let x : Session = c.index.result.now in
    let is = lets_in_as_read m r x c.in-Ok.board c.start_of-start.result c.refusal_of.result (omega (arith, c.if-place-len.false, c.len.ensures, world.stored.sessions.ok.0)) c.index.ensures
    c.in-Ok.ensures c.start_of-start.ensures c.refusal_of.ensures (search rules) in
    let full : m.capacity ≤ length m.asked - m.taken = omega (arith, c.if-len-self.true, c.len-2.ensures, world.stored.asked.ok.0) in
    answered (submit m r) (answer (NotSubmitted QueueFull) m) m (NotSubmitted QueueFull) m (finds_full m r x is.0 is.1 full) refl refl

pub invariant_of-self-2-clause-within : goal.invariant_of-self-2-clause-within
invariant_of-self-2-clause-within g c =
    let world = c.args.self.now in
    let old : List Request = world.stored.asked.items in
    let q : Request = record { session = c.args.session; ticket = c.args.ticket; change = c.copy.result } in
    let items : c.push.new.self.items ≡ old ++ q ∷ [] = search rules in
    let long = ap length items in
    let within = world.within in
    omega (arith, length-append old (q ∷ []), long, within)

pub invariant_of-self-2-clause-split : goal.invariant_of-self-2-clause-split
invariant_of-self-2-clause-split g c =
    let world = c.args.self.now in
    let old : List Request = world.stored.asked.items in
    let q : Request = record { session = c.args.session; ticket = c.args.ticket; change = c.copy.result } in
    let items : c.push.new.self.items ≡ old ++ q ∷ [] = search rules in
    world.split ∙ (ap (drop world.stored.done) (sym (take-append-le world.stored.taken old (q ∷ []) world.within)) ∙ ap (λ (l : List Request). drop world.stored.done (take world.stored.taken l)) (sym items))

pub invariant_of-self-2-clause-few : goal.invariant_of-self-2-clause-few
invariant_of-self-2-clause-few g c =
    let world = c.args.self.now in
    let y : Session = record { seen = c.index.result.now.seen; last = Some c.args.ticket } in
    subst (λ (k : ℕ). k ≤ sessions) (sym (length-set world.stored.sessions.items c.args.session y)) world.few

pub invariant_of-self-2-clause-in_turn : goal.invariant_of-self-2-clause-in_turn
invariant_of-self-2-clause-in_turn g c =
    let world = c.args.self.now in
    let m : Machine = machine_of world in
    let r : Request = record { session = c.args.session; ticket = c.args.ticket; change = c.args.change.now } in
    let x : Session = c.index.result.now in
    let is = lets_in_as_read m r x c.in-Ok.board c.start_of-start.result c.refusal_of.result (omega (arith, c.if-place-len.false, c.len.ensures, world.stored.sessions.ok.0)) c.index.ensures
    c.in-Ok.ensures c.start_of-start.ensures c.refusal_of.ensures (search rules) in
    let all = with_copy m.asked c.push.new.self.items r c.copy.result (search rules) c.copy.ensures in
    subst (λ (l : List Request). AreInTurn m.starts l) (sym all)
    (let_in_turn m.starts m.asked (board_at m x.seen) x.last r world.in_turn (omega (arith, c.if-place-len.false, c.len.ensures, world.stored.sessions.ok.0, world.few)) (world.lasts r.session x is.0) is.1)

pub invariant_of-self-2-clause-lasts : goal.invariant_of-self-2-clause-lasts
invariant_of-self-2-clause-lasts g c =
    let world = c.args.self.now in
    let m : Machine = machine_of world in
    let r : Request = record { session = c.args.session; ticket = c.args.ticket; change = c.args.change.now } in
    let y : Session = record { seen = c.index.result.now.seen; last = Some r.ticket } in
    let all = with_copy m.asked c.push.new.self.items r c.copy.result (search rules) c.copy.ensures in
    subst (λ (l : List Request). AreLasts m.starts l (set m.sessions r.session y)) (sym all)
    (let_in_lasts m.starts m.asked m.sessions y r world.wide world.lasts (omega (arith, c.if-place-len.false, c.len.ensures, world.stored.sessions.ok.0, world.few)) refl)

pub invariant_of-self-2-clause-behind : goal.invariant_of-self-2-clause-behind
invariant_of-self-2-clause-behind g c =
    let world = c.args.self.now in
    let old : List Request = world.stored.asked.items in
    let q : Request = record { session = c.args.session; ticket = c.args.ticket; change = c.copy.result } in
    let items : c.push.new.self.items ≡ old ++ q ∷ [] = search rules in
    let tickets = (state_of (store_of world.desk)).tickets in
    let first : take world.stored.done old ≡ take world.stored.done c.push.new.self.items =
    sym (take-append-le world.stored.done old (q ∷ []) (le_trans world.started world.within)) ∙ ap (take world.stored.done) (sym items) in
    subst (λ (l : List Request). AreBehind tickets (tickets_after world.stored.starts (asked l))) first world.behind

pub returns-clause-answers : goal.returns-clause-answers
returns-clause-answers g c =
    let world = c.args.self.now in
    let m : Machine = machine_of world in
    let r : Request = record { session = c.args.session; ticket = c.args.ticket; change = c.args.change.now } in
    let x : Session = c.index.result.now in
    let y : Session = record { seen = x.seen; last = Some r.ticket } in
    let is = lets_in_as_read m r x c.in-Ok.board c.start_of-start.result c.refusal_of.result (omega (arith, c.if-place-len.false, c.len.ensures, world.stored.sessions.ok.0)) c.index.ensures
    c.in-Ok.ensures c.start_of-start.ensures c.refusal_of.ensures (search rules) in
    let room : length m.asked - m.taken < m.capacity = omega (arith, c.if-len-self.false, c.len-2.ensures, world.stored.asked.ok.0) in
    let all = with_copy m.asked c.push.new.self.items r c.copy.result (search rules) c.copy.ensures in
    answered (submit m r) (answer (Submitted r.ticket) (let_in m y r)) m (Submitted r.ticket) _ (waits m r x is.0 is.1 room) refl
    (ap (λ (l : List Request). record m { sessions = slice_set m.sessions r.session y; asked = l }) all)
