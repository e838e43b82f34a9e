-- The lines that `route`, `check` and `tables` print.
use Rattle.std.specs.Prelude.{ℕ, List, ◌∷◌, ◌++◌, codes, decimal}
use Rattle.std.specs.List.{flat_map}

-- a node of a route, behind a space
abbrev pub node_on_route : ℕ → List ℕ
node_on_route node = 32 ∷ decimal node

-- the nodes of a route
abbrev pub stops_text : List ℕ → List ℕ
stops_text nodes = flat_map node_on_route nodes

-- a route: the nodes from the first to the last, and its length
abbrev pub route_text : ℕ → List ℕ → ℕ → List ℕ
route_text generation nodes length = codes "generation=" ++ (decimal generation ++ (codes " route" ++ (stops_text nodes ++ (codes " length " ++ decimal length))))

-- the destination can't be reached
abbrev pub unreachable_text : ℕ → List ℕ
unreachable_text generation = codes "generation=" ++ (decimal generation ++ codes " unreachable")

-- a node of a route isn't there
abbrev pub absent_text : List ℕ
absent_text = codes "no node"

-- all checks hold, of a scheme with so many landmarks
abbrev pub checked_text : ℕ → ℕ → List ℕ
checked_text generation landmarks = codes "ok generation=" ++ (decimal generation ++ (codes " landmarks=" ++ decimal landmarks))

-- so many tables were put, so many bytes in all, and the greatest has so many
abbrev pub tables_text : ℕ → ℕ → ℕ → ℕ → List ℕ
tables_text generation tables bytes greatest =
    codes "generation=" ++ (decimal generation ++ (codes " tables=" ++ (decimal tables ++ (codes " bytes=" ++ (decimal bytes ++ (codes " greatest=" ++ decimal greatest))))))

-- the first check that doesn't hold, by its name
abbrev pub broken_text : List ℕ → List ℕ
broken_text check = codes "fault " ++ check
