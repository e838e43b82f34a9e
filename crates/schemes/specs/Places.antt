-- Where the nodes of a list stand in it.
use Rattle.std.specs.Prelude.{◌≡◌, ℕ, ◌<◌, List, length, slice_index}

-- a table has for each of the first n nodes of a list a place at which the list has that node
abbrev pub ArePlacesTo : List ℕ → ℕ → List ℕ → Type 0
ArePlacesTo list n table = (i : ℕ) → i < n → (slice_index table (slice_index list i) < length list) × (slice_index list (slice_index table (slice_index list i)) ≡ slice_index list i)

-- the same for each node of the list
abbrev pub ArePlaces : List ℕ → List ℕ → Type 0
ArePlaces list table = ArePlacesTo list (length list) table
