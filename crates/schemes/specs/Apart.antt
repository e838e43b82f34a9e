-- The numbers of every eighth item of a list, apart, and what a search by halving has to find.
use Rattle.std.specs.Prelude.{◌≡◌, ℕ, ◌+◌, ◌*◌, ◌/◌, ◌<◌, ◌≤◌, List, Result, Ok, Err, length, map, slice_index}
use Rattle.std.specs.declared.vec.Vec.{Vec}
use Rattle.schemes.specs.Tables.{items_at}
use Rattle.schemes.specs.declared.key_columns.KeyColumns.{KeyColumns}
use Rattle.schemes.specs.declared.parts.Parts.{Parts}

-- these are every eighth of the numbers: those at the places 7, 15, 23 and so on
pub record AreEighths (ks fs : List ℕ) : Type 0 where
  pub size : length fs ≡ length ks / 8
  pub each : (i : ℕ) → i < length fs → slice_index fs i ≡ slice_index ks (8 * i + 7)

-- these are every eighth of the numbers of each list
abbrev pub AreEighthsOf : {X A B : Type 0} → (X → ℕ) → List (Vec X A) → List (Vec ℕ B) → Type 0
AreEighthsOf key lists all = (x : ℕ) → AreEighths (map key (items_at lists x)) (items_at all x)

-- these are the roots of every eighth entry of each node
abbrev pub AreApart : Parts → KeyColumns → Type 0
AreApart p a = AreEighthsOf (λ e. e.root) p.entries.items a.roots.items

-- the number lies at low or later and before high, if it's there
pub record LiesBetween (ks : List ℕ) (r low high : ℕ) : Type 0 where
  pub ordered : low ≤ high
  pub within : high ≤ length ks
  pub below : (i : ℕ) → i < low → slice_index ks i < r
  pub above : (i : ℕ) → high ≤ i → i < length ks → r < slice_index ks i

-- the number stands at this place; or it isn't there, and this is the place of the first greater one
abbrev pub IsLocated : List ℕ → ℕ → Result ℕ ℕ → Type 0
IsLocated ks r (Ok i) = (i < length ks) × (slice_index ks i ≡ r)
IsLocated ks r (Err i) = LiesBetween ks r i i
