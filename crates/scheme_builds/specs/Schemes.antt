-- The scheme of a network by landmark words.
use Rattle.std.specs.Prelude.{◌≡◌, ℕ, List, count_by}
use Rattle.graph_edits.specs.Edges.{Network}
use Rattle.landmarks.specs.Chosen.{IsBound, chosen}
use Rattle.schemes.specs.declared.parts.Parts.{Parts}
use Rattle.schemes.specs.Checks.{IsChecked}
use Rattle.schemes.specs.Service.{Serves}
use Rattle.schemes.specs.Tables.{tables}
use Rattle.scheme_builds.specs.Words.{IsByWords, first_of}

-- a scheme of the network: all rules hold, it serves the network, the words give its landmarks, and it has the generation
pub record IsSchemeOf (m : Network) (words : List ℕ) (generation : ℕ) (p : Parts) : Type 0 where
  pub checked : IsChecked m p
  pub serves : Serves m (tables p)
  pub landmarks : IsByWords m.nodes words p
  pub given : p.generation ≡ generation

-- so many landmarks are given by the words
abbrev pub IsLandmarkCount : Network → List ℕ → ℕ → Type 0
IsLandmarkCount m words count = (bound : ℕ) × (IsBound m.nodes bound × (count ≡ count_by (λ flag. flag) (chosen bound (first_of m.nodes words))))
