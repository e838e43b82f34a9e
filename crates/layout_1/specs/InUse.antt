-- The slot that counts.
use Rattle.std.specs.Prelude.{ℕ, List}
use Rattle.layout_reader.specs.Standing.{IsInUse as IsInUseByForm}
use Rattle.layout_1.specs.Records.{Entry}
use Rattle.layout_1.specs.State.{State}
use Rattle.layout_1.specs.Form.{layout_form}

-- This slot's checkpoint and records count. The other slot is closed where this byte isn't 1; where it is, the epoch behind its gate is smaller.
abbrev pub IsInUse : ℕ → ℕ → ℕ → State → List (List Entry) → List ℕ → Type 0
IsInUse = IsInUseByForm layout_form
