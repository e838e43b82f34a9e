-- The lines that `format`, `show`, `edit`, `resume` and `migrate` print.
use Rattle.std.specs.Prelude.{ℕ, List, [], ◌∷◌, ◌++◌, codes, decimal, cond, nat_lt}
use Rattle.std.specs.List.{flat_map}
use Rattle.std.specs.FinMap.{len, entries}
use Rattle.graph_edits.specs.declared.edits.Code.{Code}
use Rattle.graph_edits.specs.declared.edits.Code.TheVariants.{NoNode, Loop, BadWeight, EdgeThere, NoEdge, TooManyEdges}
use Rattle.graph_edits.specs.Edges.{Network}

-- a device was made for so many nodes
abbrev pub formatted_text : ℕ → List ℕ
formatted_text nodes = codes "formatted nodes=" ++ decimal nodes

-- how many changes and edges there are
abbrev pub totals_text : ℕ → ℕ → List ℕ
totals_text count edges = codes "count=" ++ (decimal count ++ (codes " edges=" ++ decimal edges))

-- an edge
abbrev pub edge_text : ℕ → ℕ → ℕ → List ℕ
edge_text a b weight = decimal a ++ (32 ∷ (decimal b ++ (32 ∷ decimal weight)))

-- a change counts, and with it so many do
abbrev pub accepted_text : ℕ → List ℕ
accepted_text count = codes "accepted count=" ++ decimal count

-- the number that a code is printed as
abbrev pub code_number : Code → ℕ
code_number NoNode = 1
code_number Loop = 2
code_number BadWeight = 3
code_number EdgeThere = 4
code_number NoEdge = 5
code_number TooManyEdges = 6

-- the op at this place is the first of a change that is refused, and why
abbrev pub refused_text : ℕ → Code → List ℕ
refused_text op code = codes "refused op=" ++ (decimal op ++ (codes " code=" ++ decimal (code_number code)))

-- the last ticket of a session
abbrev pub ticket_text : ℕ → ℕ → List ℕ
ticket_text session ticket = codes "session=" ++ (decimal session ++ (codes " ticket=" ++ decimal ticket))

-- what a device holds that was brought over
abbrev pub migrated_text : ℕ → ℕ → List ℕ
migrated_text count edges = codes "migrated " ++ totals_text count edges

-- a text as a line
abbrev pub line : List ℕ → List ℕ
line text = text ++ 10 ∷ []

-- the line of an edge
abbrev pub edge_line : (ℕ × ℕ) × ℕ → List ℕ
edge_line e = line (edge_text e.0.0 e.0.1 e.1)

-- what `show` prints: the totals, then the edges in ascending order
abbrev pub listing_text : ℕ → Network → List ℕ
listing_text count graph = line (totals_text count (len graph.edges)) ++ flat_map edge_line (entries graph.edges)

-- what a node's row adds to it for a neighbour: the edge, where the neighbour is the greater node
abbrev pub line_up : ℕ → ℕ × ℕ → List ℕ
line_up node neighbour = cond (nat_lt node neighbour.0) (edge_line ((node, neighbour.0), neighbour.1)) []
