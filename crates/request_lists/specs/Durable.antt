-- Which posted generations are durable.
use Rattle.std.specs.Prelude.{◌≡◌, ◌≤◌, ℕ, List, ◌∷◌, ◌++◌, length, take}
use mathlib.Core.List.{IsPrefix}
use Rattle.schemes.specs.declared.parts.Parts.{Parts}
use Rattle.schemes.specs.Tables.{tables}
use Rattle.schemes.specs.Service.{Serves}
use Rattle.requests.specs.declared.request.Request.{Request}
use Rattle.layout_2.specs.State.{State}
use Rattle.generations.specs.declared.posting.Mark.{Mark}
use Rattle.generations.specs.declared.posting.Notice.{Notice}
use Rattle.generations.specs.declared.posting.Notice.TheVariants.{Built}
use Rattle.generations.specs.Notices.{marks_in}
use Rattle.group_commit.specs.Settling.{settle}
use Rattle.request_lists.specs.declared.builds.Builds.{Builds}
use Rattle.request_lists.specs.declared.builds.Builds.TheVariants.{InTurn, Beside}

-- the marks that were told before a generation are just those of what it has, or these come first
abbrev pub HaveMarks : Builds → List Mark → List Mark → Type 0
HaveMarks InTurn marks told = told ≡ marks
HaveMarks Beside marks told = IsPrefix marks told

-- A generation is durable: what was posted before it tells the marks of just the first so many requests, or more where it was built beside
-- the rounds; its number is the count of the state after these; and its scheme has that number, and serves the graph of that state.
pub record IsDurable (builds : Builds) (first : State) (asked : List Request) (before : List Notice) (number : ℕ) (scheme : Parts) : Type 0 where
  pub at : ℕ
  pub within : at ≤ length asked
  pub marks : HaveMarks builds (settle first (take at asked)).marks (marks_in before)
  pub number_is : number ≡ (settle first (take at asked)).state.count
  pub named : scheme.generation ≡ number
  pub serves : Serves (settle first (take at asked)).state.graph (tables scheme)

-- so is each generation of a list, by what stands before it
abbrev pub AreDurable : Builds → State → List Request → List Notice → Type 0
AreDurable builds first asked log = (before after : List Notice) (number : ℕ) (scheme : Parts) → log ≡ before ++ Built number scheme ∷ after → IsDurable builds first asked before number scheme
