-- What a format writes.
use Rattle.std.specs.Prelude.{ℕ, List, [], ◌∷◌}
use Rattle.disk_trait.specs.Disk.{overwritten}
use Rattle.layout_2.specs.Layout.{header, journal_start, slot_start}
use Rattle.layout_2.specs.State.{first_state, checkpoint_text}

-- the front of a slot: an open gate, and the checkpoint of epoch 1 with no changes, so many nodes, no edges and all tickets 0
abbrev pub first_slot : ℕ → List ℕ
first_slot nodes = 1 ∷ checkpoint_text 1 (first_state nodes)

-- old with this header, and with this front of slot 0
unfoldable pub with_front : ℕ → List ℕ → List ℕ
with_front nodes old = overwritten (overwritten old 0 (header nodes)) (slot_start 0) (first_slot nodes)

-- old with the gate of slot 0's first record closed, and that of slot 1
unfoldable pub with_gates : List ℕ → List ℕ
with_gates old = overwritten (overwritten old (journal_start 0) (0 ∷ [])) (slot_start 1) (0 ∷ [])

-- old with all that a format writes; each other byte is that of old
unfoldable pub formatted : ℕ → List ℕ → List ℕ
formatted nodes old = with_gates (with_front nodes old)
