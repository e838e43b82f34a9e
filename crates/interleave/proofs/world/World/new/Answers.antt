use Rattle.std.proofs.Common.{◌≡◌, ◌≤◌, ℕ, List, length, replicate, sym, ap, ◌∙◌, subst}
use Rattle.std.proofs.lemmas.List.{length-replicate}
use Rattle.event_model.specs.declared.session.Session.{Session}
use Rattle.event_model.specs.Machines.{fresh_session}
use Rattle.interleave.specs.Begun.{HasBegun}
use Rattle.interleave.proofs.world.World.new.Goals as goal

many : (xs : List Session) (n : ℕ) → xs ≡ replicate n fresh_session → length xs ≡ n
many xs n e = ap length e ∙ length-replicate n fresh_session

pub with_sessions-requires-clause-sessions : goal.with_sessions-requires-clause-sessions
with_sessions-requires-clause-sessions g c =
    let n : length c.in_ok-sessions.sessions.items ≡ c.args.sessions = many c.in_ok-sessions.sessions.items c.args.sessions c.in_ok-sessions.ensures in
    subst (λ (k : ℕ). (1 ≤ k) × (k ≤ 64)) (sym n) c.requires.sessions

pub with_sessions-requires-clause-fresh : goal.with_sessions-requires-clause-fresh
with_sessions-requires-clause-fresh g c =
    let xs : List Session = c.in_ok-sessions.sessions.items in
    let n : length xs ≡ c.args.sessions = many xs c.args.sessions c.in_ok-sessions.ensures in
    c.in_ok-sessions.ensures ∙ ap (λ (k : ℕ). replicate k fresh_session) (sym n)

pub returns : goal.returns
returns g c =
    let n : length c.in_ok-sessions.sessions.items ≡ c.args.sessions = many c.in_ok-sessions.sessions.items c.args.sessions c.in_ok-sessions.ensures in
    subst (λ (k : ℕ). HasBegun c.args.desk c.args.capacity k c.with_sessions.result) n c.with_sessions.ensures
