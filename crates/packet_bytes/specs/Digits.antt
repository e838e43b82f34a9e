-- Hex digits of so many bytes.
use Rattle.std.specs.Prelude.{◌≡◌, ◌≢◌, ◌*◌, ℕ, Result, Ok, Err, List, length}
use Rattle.hex.specs.Hex.{decode_sized}
use Rattle.packet_bytes.specs.declared.digits.HexError.{HexError}
use Rattle.packet_bytes.specs.declared.digits.HexError.TheVariants.{OtherLength, NoDigits}

-- digits are the hex of bytes that spell a value
pub record AreDigitsOf {X : Type 0} (size : ℕ) (spells : List ℕ → X → Type 0) (digits : List ℕ) (x : X) : Type 0 where
  pub bytes : List ℕ
  pub decoded : decode_sized digits size ≡ Ok bytes
  pub spelled : spells bytes x

-- digits are as many as those of so many bytes, and the hex of none
abbrev pub HasNoBytes : ℕ → List ℕ → Type 0
HasNoBytes size digits = (length digits ≡ 2 * size) × ((bytes : List ℕ) → decode_sized digits size ≢ Ok bytes)

-- so many bytes of digits, exactly
abbrev pub IsDecoded : ℕ → List ℕ → Result (List ℕ) HexError → Type 0
IsDecoded size digits (Ok bytes) = (length digits ≡ 2 * size) × (decode_sized digits size ≡ Ok bytes)
IsDecoded size digits (Err OtherLength) = length digits ≢ 2 * size
IsDecoded size digits (Err NoDigits) = HasNoBytes size digits
