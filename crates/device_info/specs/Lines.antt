-- A device's figures, and their lines.
use Rattle.std.specs.Prelude.{ℕ, List, [], ◌∷◌, ◌++◌, Bool, true, false, codes, decimal, flat_map}
use Rattle.device_info.specs.declared.figures.DeviceInfo.{DeviceInfo}

-- a name and its number: as `"NAME":N` and a comma, or as a line
abbrev pub figure_text : Bool → List ℕ → ℕ → List ℕ
figure_text true name number = codes "\"" ++ (name ++ (codes "\":" ++ (decimal number ++ codes ",")))
figure_text false name number = name ++ (61 ∷ (decimal number ++ 10 ∷ []))

-- the line of a session that has a last ticket
abbrev pub held_line : ℕ × ℕ → List ℕ
held_line held = codes "session=" ++ (decimal held.0 ++ (codes " ticket=" ++ (decimal held.1 ++ 10 ∷ [])))

-- the figures of the network
abbrev pub network_text : Bool → DeviceInfo → List ℕ
network_text as_json info =
    figure_text as_json (codes "nodes") info.nodes ++ (figure_text as_json (codes "edges") info.edges ++ figure_text as_json (codes "count") info.count)

-- those of its layout, and of the checkpoint in use
abbrev pub place_text : Bool → DeviceInfo → List ℕ
place_text as_json info =
    figure_text as_json (codes "layout") 2 ++ (figure_text as_json (codes "slot") info.slot ++ figure_text as_json (codes "epoch") info.epoch)

-- those of the journal behind that checkpoint
abbrev pub journal_text : Bool → DeviceInfo → List ℕ
journal_text as_json info =
    figure_text as_json (codes "since_checkpoint") info.since_checkpoint ++ figure_text as_json (codes "journal_room_left") info.journal_room_left

-- all figures but the tickets
abbrev pub figures_text : Bool → DeviceInfo → List ℕ
figures_text as_json info = network_text as_json info ++ (place_text as_json info ++ journal_text as_json info)

-- all lines
abbrev pub info_lines : DeviceInfo → List ℕ
info_lines info = figures_text false info ++ flat_map held_line info.held.items
