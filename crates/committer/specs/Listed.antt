-- The one list of requests that a committer took, and what it posted of it.
use Rattle.std.specs.Prelude.{ℕ, ◌≡◌, ◌+◌, ◌≤◌, Bool, List, length, drop, take}
use Rattle.requests.specs.declared.request.Request.{Request}
use Rattle.layout_2.specs.State.{State}
use Rattle.checkpoint.specs.StoreWords.{state_of, is_down}
use Rattle.schemes.specs.declared.parts.Parts.{Parts}
use Rattle.schemes.specs.Tables.{tables}
use Rattle.schemes.specs.Service.{Serves}
use Rattle.group_commit.specs.Settling.{settle}
use Rattle.request_lists.specs.declared.builds.Builds.{Builds}
use Rattle.request_lists.specs.declared.builds.Builds.TheVariants.{Beside}
use Rattle.request_lists.specs.Lists.{AreListed}
use Rattle.committer.specs.declared.committer.Committer.{Committer}
use Rattle.committer.specs.Outboxes.{Outgoing, all_of}
use Rattle.committer.specs.CommitterWords.{begun_of, store_of, held_of, got_of, posts_of}

-- From the state `first` on these requests were taken, in each session's order: those before a place are settled, and the others held.
pub record IsListed (builds : Builds) (first : State) (posts : Outgoing) (held got : List Request) (state : State) (down : Bool) : Type 0 where
  -- the board begins there too
  pub begins : (posts.opening.starts ≡ first.tickets) × (posts.opening.count ≡ first.count)
  pub done : ℕ
  pub rest : held ≡ drop done got
  -- the state is that after the settled ones; what is posted and due has just their marks, and each generation in it serves the state that its number names
  pub lists : AreListed builds first (all_of posts) got done (length got) state down

-- so it is of a committer whose generations are built so
abbrev pub IsListedFrom : {D R : Type 0} {V : _} → Builds → State → Committer D R V → Type 0
IsListedFrom builds first c = IsListed builds first (posts_of c) (held_of c) (got_of c) (state_of (store_of c)) (is_down (store_of c))

-- what is listed at one moment, from any state on, still is at another
abbrev pub StaysListedSo : {D R : Type 0} {V : _} → Builds → Committer D R V → Committer D R V → Type 0
StaysListedSo builds old new = (first : State) → IsListedFrom builds first old → IsListedFrom builds first new

-- however its generations are built
abbrev pub StaysListed : {D R : Type 0} {V : _} → Committer D R V → Committer D R V → Type 0
StaysListed old new = (builds : Builds) → StaysListedSo builds old new

-- A generation is of an earlier state: the first so many of the requests that a committer settled from `first` on led to it.
pub record IsEarlier {D R : Type 0} {V : _} (first : State) (c : Committer D R V) (number : ℕ) (scheme : Parts) : Type 0 where
  pub at : ℕ
  pub settled : at + length (held_of c) ≤ length (got_of c)
  pub number_is : number ≡ (settle first (take at (got_of c))).state.count
  pub named : scheme.generation ≡ number
  pub serves : Serves (settle first (take at (got_of c))).state.graph (tables scheme)

-- from the committer's beginning on, what was listed at one moment still is at another, where generations are built beside the rounds
abbrev pub StaysListedBegun : {D R : Type 0} {V : _} → Committer D R V → Committer D R V → Type 0
StaysListedBegun old new = IsListedFrom Beside (begun_of old) old → IsListedFrom Beside (begun_of old) new
