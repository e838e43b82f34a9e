-- How an op is written.
use Rattle.std.specs.Prelude.{ℕ, ◌≡◌, ◌<◌, ◌^◌, List, ◌∷◌, ◌++◌, codes, decimal}
use Rattle.graph_edits.specs.declared.edits.Op.{Op}
use Rattle.graph_edits.specs.declared.edits.Op.TheVariants.{Add, Set, Cut}

-- two numbers in decimal, with a colon between
abbrev pub pair_text : ℕ → ℕ → List ℕ
pair_text a b = decimal a ++ 58 ∷ decimal b

-- an edge with its weight
abbrev pub edge_text : ℕ → ℕ → ℕ → List ℕ
edge_text a b w = decimal a ++ 58 ∷ pair_text b w

-- the text is a number, a colon and this rest
abbrev pub LeadsWith : List ℕ → ℕ → List ℕ → Type 0
LeadsWith text n rest = text ≡ decimal n ++ 58 ∷ rest

-- the text is this edge
abbrev pub IsEdge : List ℕ → ℕ → ℕ → ℕ → Type 0
IsEdge text a b w = text ≡ edge_text a b w

-- the kind, the nodes and the weight, if there is one, with colons between
abbrev pub op_text : Op → List ℕ
op_text (Add a b w) = codes "add" ++ 58 ∷ edge_text a b w
op_text (Set a b w) = codes "set" ++ 58 ∷ edge_text a b w
op_text (Cut a b) = codes "cut" ++ 58 ∷ pair_text a b

-- the numbers fit their types
abbrev pub Fits : Op → Type 0
Fits (Add a b w) = (a < 2 ^ 16) × (b < 2 ^ 16) × (w < 2 ^ 32)
Fits (Set a b w) = (a < 2 ^ 16) × (b < 2 ^ 16) × (w < 2 ^ 32)
Fits (Cut a b) = (a < 2 ^ 16) × (b < 2 ^ 16)
