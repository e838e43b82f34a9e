-- What is said of a device that a command had, and of a file that it read.
use Rattle.std.specs.Prelude.{◌≡◌, ◌≤◌, ℕ, List, Option, Some, codes}
use Rattle.clap.specs.Walk.{Row, Text, first_of}

-- The device that the words name was had and given back, and this holds of its path, and of what it was when it was opened and when it was
-- given back.
pub record OfDevice {D : Type 0} (opened : Text → D → Type 0) (closed : D → Type 0) (rows : List Row) (P : Text → D → D → Type 0) : Type 0 where
  pub path : Text
  pub disk : D
  pub left : D
  pub named : first_of (codes "device") rows ≡ Some path
  pub was_opened : opened path disk
  pub was_closed : closed left
  pub holds : P path disk left

-- The file that the words name was read, and this holds of its text.
pub record OfFile (stands : Text → Option Text → Type 0) (rows : List Row) (P : Text → Type 0) : Type 0 where
  pub path : Text
  pub text : Text
  pub named : first_of (codes "file") rows ≡ Some path
  pub was_read : stands path (Some text)
  pub holds : P text

-- the exit status of a command that is refused
abbrev pub IsRefusal : ℕ → Type 0
IsRefusal status = (1 ≤ status) × (status ≤ 2)
