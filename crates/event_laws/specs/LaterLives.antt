-- Lives of one device, one after another, and the joined list that their accepted changes make.
use Rattle.std.specs.Prelude.{◌≡◌, ◌⊎◌, ◌≤◌, ◌-◌, ℕ, List, [], ◌∷◌, ◌++◌, length, take, Contains}
use mathlib.Core.List.{IsPrefix}
use Rattle.requests.specs.Tickets.{sessions}
use Rattle.requests.specs.declared.request.Request.{Request}
use Rattle.layout_2.specs.State.{State, AreInTurn}
use Rattle.generations.specs.declared.posting.Verdict.TheVariants.{Accepted}
use Rattle.generations.specs.declared.posting.Notice.{Notice}
use Rattle.generations.specs.Notices.{marks_in}
use Rattle.group_commit.specs.Settling.{Settled, settle}

-- The lists of a life: the state that it opened to, the requests that the committer took, those that wait behind them, how many
-- of the taken ones are settled, and what was posted.
pub record LifeLists : Type 0 where
  pub opened : State
  pub taken : List Request
  pub waiting : List Request
  pub done : ℕ
  pub posted : List Notice

-- all requests that were let in, in order
abbrev pub let_in : LifeLists → List Request
let_in life = life.taken ++ life.waiting

-- what became of the first n requests that were taken
abbrev pub settled_at : LifeLists → ℕ → Settled
settled_at life n = settle life.opened (take n life.taken)

-- what became of those whose commit answered Ok
abbrev pub answered : LifeLists → Settled
answered life = settled_at life life.done

-- What a life keeps: it began with a last ticket for each session, the requests that were let in are in turn from there, and the
-- marks that were posted are the first of those that were answered.
pub record IsLife (life : LifeLists) : Type 0 where
  pub wide : length life.opened.tickets ≡ sessions
  pub in_turn : AreInTurn life.opened.tickets (let_in life)
  pub told : IsPrefix (marks_in life.posted) (answered life).marks

-- the next life opened to the state after some of the requests that were taken, with all that a commit answered Ok for
pub record Follows (life next : LifeLists) : Type 0 where
  pub at : ℕ
  pub state : next.opened ≡ (settled_at life at).state
  pub holds : (answered life).state.count ≤ next.opened.count

-- lives, each of which but the first follows the one before
abbrev pub AreChained : LifeLists → List LifeLists → Type 0
AreChained life [] = IsLife life
AreChained life (next ∷ rest) = IsLife life × Follows life next × AreChained next rest

-- the last one of some lives
abbrev pub last_life : LifeLists → List LifeLists → LifeLists
last_life life [] = life
last_life life (next ∷ rest) = last_life next rest

-- the accepted changes of a life that the next one opened to: the first ones, as many as the count went up
abbrev pub kept : LifeLists → LifeLists → List Request
kept life next = take (next.opened.count - life.opened.count) (settle life.opened life.taken).accepted

-- the changes that are in when the last of these lives opens
abbrev pub in_before : LifeLists → List LifeLists → List Request
in_before life [] = []
in_before life (next ∷ rest) = kept life next ++ in_before next rest

-- the joined list: these, and then the accepted changes of the last life that a commit answered Ok for
abbrev pub joined : LifeLists → List LifeLists → List Request
joined life rest = in_before life rest ++ (answered (last_life life rest)).accepted

-- a life posted an Accepted mark of the session's ticket
abbrev pub HasTold : ℕ → ℕ → LifeLists → Type 0
HasTold s t life = (count : ℕ) × Contains (marks_in life.posted) (record { session = s; ticket = t; verdict = Accepted count })

-- one of these lives did
abbrev pub IsAcknowledged : ℕ → ℕ → LifeLists → List LifeLists → Type 0
IsAcknowledged s t life [] = HasTold s t life
IsAcknowledged s t life (next ∷ rest) = HasTold s t life ⊎ IsAcknowledged s t next rest
