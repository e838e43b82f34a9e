-- The history of a life, and the states that are prefixes of it.
use Rattle.std.specs.Prelude.{◌≡◌, ◌<◌, ◌≤◌, ℕ, List, [], ◌∷◌, length, take, Bool, false}
use Rattle.std.specs.List.{AllByRecursion}
use Rattle.requests.specs.declared.request.Request.{Request}
use Rattle.layout_2.specs.State.{State}
use Rattle.layout_2.specs.Standing.{StandsFor}
use Rattle.group_commit.specs.Settling.{settle}

-- What a life has come to: the requests that were taken, how many of them are settled, the groups that were given to a commit
-- (each from one place of the requests up to another), the store's state, and whether the store is down.
pub record Lists : Type 0 where
  pub taken : List Request
  pub done : ℕ
  pub groups : List (ℕ × ℕ)
  pub state : State
  pub down : Bool

-- a life that opened to this state has come to nothing yet
abbrev pub lists_begun : State → Lists
lists_begun first = record { taken = []; done = 0; groups = []; state = first; down = false }

-- the state after requests
abbrev pub settled : State → List Request → State
settled state requests = (settle state requests).state

-- the state after the first j of them
abbrev pub state_at : State → List Request → ℕ → State
state_at first taken j = settled first (take j taken)

-- the cut after j requests falls inside no group
abbrev pub Whole : ℕ → List (ℕ × ℕ) → Type 0
Whole j [] = Unit {0}
Whole j (g ∷ gs) = ((g.0 < j) × (j < g.1) → ⊥) × Whole j gs

-- Prefix state: the image stands for the state after some of the requests. No group is in it in part, and its count is at least this.
pub record IsPrefixState (first : State) (lists : Lists) (least : ℕ) (image : List ℕ) : Type 0 where
  pub at : ℕ
  pub within : at ≤ length lists.taken
  -- while the store is up, no more than was answered
  pub answered : lists.down ≡ false → at ≤ lists.done
  pub holds : least ≤ (state_at first lists.taken at).count
  pub whole : Whole at lists.groups
  pub stands : StandsFor (state_at first lists.taken at) image

-- each group ends at n or before
abbrev pub EndBy : ℕ → List (ℕ × ℕ) → Type 0
EndBy n groups = AllByRecursion (λ g. g.1 ≤ n) groups

-- the store's state is that after the settled requests
pub record IsTied (first : State) (lists : Lists) : Type 0 where
  pub within : lists.done ≤ length lists.taken
  pub state : lists.state ≡ state_at first lists.taken lists.done
  pub whole : Whole lists.done lists.groups
  pub ends : EndBy (length lists.taken) lists.groups
