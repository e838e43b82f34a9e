-- Texts of which a beginning was printed.
use Rattle.std.specs.Prelude.{◌≡◌, ◌++◌, ℕ, List, Option}
use Rattle.std.specs.Io.KnownBytes.{Appends}

-- A beginning of this text was printed, and nothing else.
pub record Begins (old new : Option (List ℕ)) (text : List ℕ) : Type 0 where
  pub front : List ℕ
  pub rest : List ℕ
  pub whole : text ≡ front ++ rest
  pub printed : Appends old new front

-- and all of it unless this holds
abbrev pub PrintsUnless : Type 0 → Option (List ℕ) → Option (List ℕ) → List ℕ → Type 0
PrintsUnless failed old new text = Begins old new text × ((failed → ⊥) → Appends old new text)
