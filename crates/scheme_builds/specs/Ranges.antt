-- Ranges of roots: each has so many roots, but for the last ones, which end with the nodes.
use Rattle.std.specs.Prelude.{ℕ, ◌+◌, ◌*◌, min, Result, IfOk, List, [], ◌∷◌}
use Rattle.std.specs.declared.alloc.AllocError.{AllocError}
use Rattle.graph_edits.specs.Edges.{Network}
use Rattle.schemes.specs.declared.parts.Parts.{Parts}
use Rattle.node_table.specs.Building.{IsBuiltFrom}
use Rattle.scheme_builds.specs.declared.ranges.Task.{Task}

-- the root with which a range begins
abbrev pub bound_at : Network → ℕ → ℕ → ℕ
bound_at m size i = min (i * size) m.nodes

-- what a build by this task has of the roots from the first to below the last
abbrev pub IsBuilt : Task → Parts → ℕ → ℕ → Type 0
IsBuilt task = IsBuiltFrom task.survey

-- the same, unless memory was refused
abbrev pub HasBuilt : Task → ℕ → ℕ → Result Parts AllocError → Type 0
HasBuilt task first last made = IfOk made (λ p. IsBuilt task p first last)

-- the same of the roots of the range i
abbrev pub IsRange : Task → ℕ → ℕ → Result Parts AllocError → Type 0
IsRange task size i made = HasBuilt task (bound_at task.survey.graph.now size i) (bound_at task.survey.graph.now size (i + 1)) made

-- the same of the range i and of those that follow it, in their order
abbrev pub AreRanges : Task → ℕ → ℕ → List (Result Parts AllocError) → Type 0
AreRanges task size i [] = Unit {0}
AreRanges task size i (made ∷ rest) = IsRange task size i made × AreRanges task size (i + 1) rest
