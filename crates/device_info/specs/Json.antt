-- A device's figures as JSON.
use Rattle.std.specs.Prelude.{true, ℕ, List, [], ◌∷◌, ◌++◌, codes, decimal, flat_map}
use Rattle.device_suspects.specs.declared.suspect.Suspect.{Suspect}
use Rattle.device_suspects.specs.Suspects.{suspect_text}
use Rattle.device_info.specs.declared.figures.DeviceInfo.{DeviceInfo}
use Rattle.device_info.specs.Lines.{figures_text}

-- a session that has a last ticket, as an object
abbrev pub ticket_text : ℕ × ℕ → List ℕ
ticket_text one = codes "{\"session\":" ++ (decimal one.0 ++ (codes ",\"ticket\":" ++ (decimal one.1 ++ codes "}")))

-- the same behind another one
abbrev pub other_text : ℕ × ℕ → List ℕ
other_text one = codes "," ++ ticket_text one

-- one for each, with commas between
abbrev pub tickets_text : List (ℕ × ℕ) → List ℕ
tickets_text [] = []
tickets_text (one ∷ more) = ticket_text one ++ flat_map other_text more

-- the array of the tickets
abbrev pub array_text : List (ℕ × ℕ) → List ℕ
array_text held = codes "\"tickets\":[" ++ (tickets_text held ++ codes "]")

-- the first suspect, with the key of their array, and each other one
abbrev pub first_text : Suspect → List ℕ
first_text suspect = codes ",\"suspects\":[\"" ++ (suspect_text suspect ++ codes "\"")

abbrev pub next_text : Suspect → List ℕ
next_text suspect = codes ",\"" ++ (suspect_text suspect ++ codes "\"")

-- the array of suspects, where there are any
abbrev pub suspects_member : List Suspect → List ℕ
suspects_member [] = []
suspects_member (suspect ∷ more) = first_text suspect ++ (flat_map next_text more ++ codes "]")

-- the object up to the tickets, and what is behind them up to the end of the line
abbrev pub front_text : DeviceInfo → List ℕ
front_text info = codes "{" ++ (figures_text true info ++ array_text info.held.items)

abbrev pub back_text : List Suspect → List ℕ
back_text suspects = suspects_member suspects ++ codes "}\n"

-- the object of all figures and of suspects
abbrev pub json_line : DeviceInfo → List Suspect → List ℕ
json_line info suspects = front_text info ++ back_text suspects
