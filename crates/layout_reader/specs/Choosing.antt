-- Which slot is in use, by the heads of both.
use Rattle.std.specs.Prelude.{ℕ, List, Option, None, Some}
use Rattle.layout_reader.specs.declared.heads.SlotHead.{SlotHead}
use Rattle.layout_reader.specs.declared.heads.Chosen.{Chosen}
use Rattle.layout_reader.specs.Heads.{HasHeadIn, IsNewestIn, HasNoNewest}

-- a slot has this head
abbrev pub HasHead : ℕ → ℕ → SlotHead → List ℕ → Type 0
HasHead room slot head image = HasHeadIn room slot head.gate head.epoch head.count head.nodes head.edges image

-- the two slots have these heads
abbrev pub HaveHeads : ℕ → SlotHead → SlotHead → List ℕ → Type 0
HaveHeads room first second image = HasHead room 0 first image × HasHead room 1 second image

-- The slot that was chosen is in use.
pub record IsChosen (room : ℕ) (chosen : Chosen) (image : List ℕ) : Type 0 where
  -- it has this head
  pub head : HasHead room chosen.slot chosen.head image
  -- it is the newest open one, and this is the other's gate byte
  pub newest : IsNewestIn room chosen.slot chosen.other_gate image

-- the choice is the slot in use, or none where none is
abbrev pub IsChoice : ℕ → Option Chosen → List ℕ → Type 0
IsChoice room (Some chosen) image = IsChosen room chosen image
IsChoice room None image = HasNoNewest room image
