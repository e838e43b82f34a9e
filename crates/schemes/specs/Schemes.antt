-- What a build answers.
use Rattle.std.specs.Prelude.{◌≡◌, ℕ, Bool, List}
use Rattle.graph_edits.specs.Edges.{Network}
use Rattle.schemes.specs.declared.parts.Parts.{Parts}
use Rattle.schemes.specs.Checks.{IsChecked}
use Rattle.schemes.specs.Laws.{HasNearest, HasTrees}
use Rattle.schemes.specs.Service.{Serves}
use Rattle.schemes.specs.Tables.{tables}

-- It is the scheme of a network under these landmarks, with this generation.
pub record IsSchemeUnder (m : Network) (flags : List Bool) (given : ℕ) (p : Parts) : Type 0 where
  -- all eight rules hold
  pub checked : IsChecked m p
  -- so it serves the network
  pub serves : Serves m (tables p)
  -- its landmarks are those that were given
  pub landmarks : p.landmarks.items ≡ flags
  -- and so is its generation
  pub generation : p.generation ≡ given
  -- a node has an entry exactly for each root in whose tree it is
  pub trees : HasTrees m p
  -- each node has its nearest landmark
  pub nearest : HasNearest m p
