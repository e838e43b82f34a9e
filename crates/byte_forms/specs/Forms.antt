-- Forms: how values are spelled in bytes, which of them fit their places, and what is read.
use Rattle.std.specs.Prelude.{◌≡◌, ℕ, ◌<◌, List, ◌∷◌, ◌++◌, length, get_or, Option, Some}
use Rattle.std.specs.List.{flat_map}
use Rattle.std.specs.Int.{w16, to_be_bytes}

-- each of these numbers is a byte
abbrev pub IsBytes : List ℕ → Type 0
IsBytes bytes = (i : ℕ) → get_or bytes i 0 < 256

-- the form of values
pub record FormOf (X : Type 0) : Type 1 where
  -- a value's spelling
  pub text : X → List ℕ
  -- the values that fit their places
  pub Fits : X → Type 0
  -- the value at the front of bytes, and the bytes behind it
  pub at : List ℕ → Option (X × List ℕ)

-- what was taken from the front
pub record Takes (bytes text rest : List ℕ) : Type 0 where
  pub parts : bytes ≡ text ++ rest
  pub rest_fits : IsBytes rest

-- The spelling law: what is read is spelled so, and fits; and what fits is read from its spelling, whatever stands behind it.
pub record IsForm {X : Type 0} (form : FormOf X) : Type 0 where
  pub takes : (bytes : List ℕ) (x : X × List ℕ) → IsBytes bytes → form.at bytes ≡ Some x → Takes bytes (form.text x.0) x.1 × form.Fits x.0
  pub again : (x : X) (rest : List ℕ) → form.Fits x → form.at (form.text x ++ rest) ≡ Some (x, rest)

-- a list: how many there are, and each of them
abbrev pub list_text : {X : Type 0} → (X → List ℕ) → List X → List ℕ
list_text text xs = to_be_bytes w16 (length xs) ++ flat_map text xs

-- a short list: how many there are, in one byte, and each of them
abbrev pub short_text : {X : Type 0} → (X → List ℕ) → List X → List ℕ
short_text text xs = length xs ∷ flat_map text xs
