-- What the lists of a life keep: what was told, what was asked, and how far that is settled.
use Rattle.std.specs.Prelude.{◌≡◌, ◌<◌, ◌≤◌, ℕ, List, length, take, Bool, true, Some}
use Rattle.schemes.specs.declared.parts.Parts.{Parts}
use Rattle.requests.specs.declared.request.Request.{Request}
use Rattle.layout_2.specs.State.{State, AreInTurn}
use Rattle.generations.specs.declared.posting.Notice.{Notice}
use Rattle.generations.specs.Notices.{marks_in, newest_in, says_down}
use Rattle.generations.specs.Lawful.{IsLawful}
use Rattle.group_commit.specs.Settling.{settle}
use Rattle.request_lists.specs.declared.builds.Builds.{Builds}
use Rattle.request_lists.specs.Durable.{AreDurable}

-- The lists of a life that opened to `first` and builds its generations so: what was told, all requests that were let in, how many of these
-- are settled and how many left the queue, and the store's state.
pub record AreListed (builds : Builds) (first : State) (told : List Notice) (asked : List Request) (done taken : ℕ) (state : State) (down : Bool) : Type 0 where
  pub started : done ≤ taken
  pub within : taken ≤ length asked
  -- each session's tickets rise above its last one in the opened state, up to the limit
  pub in_turn : AreInTurn first.tickets asked
  -- the store's state is that after the settled requests
  pub state_is : state ≡ (settle first (take done asked)).state
  -- what was told has just their marks
  pub marks : marks_in told ≡ (settle first (take done asked)).marks
  pub lawful : IsLawful first.tickets first.count told
  -- that the device failed was told only where the store is down
  pub ended : says_down told ≡ true → down ≡ true
  -- no generation is ahead of the store
  pub behind : (g : ℕ × Parts) → newest_in told ≡ Some g → g.0 ≤ state.count
  pub durable : AreDurable builds first asked told

-- this number is above that of the newest generation
abbrev pub IsAhead : ℕ → List Notice → Type 0
IsAhead number told = (g : ℕ × Parts) → newest_in told ≡ Some g → g.0 < number
