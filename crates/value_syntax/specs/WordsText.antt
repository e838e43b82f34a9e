-- How landmark words are asked for.
use Rattle.std.specs.Prelude.{◌≡◌, ℕ, ◌<◌, ◌^◌, ◌≢◌, List, [], ◌∷◌, ◌++◌, codes, decimal, All}
use Rattle.value_syntax.specs.declared.words.LandmarkWords.{LandmarkWords}
use Rattle.value_syntax.specs.declared.words.LandmarkWords.TheVariants.{Greatest, ZeroAt, Drawn}

-- nodes in decimal, with a comma between each two
abbrev pub nodes_text : List ℕ → List ℕ
nodes_text [] = []
nodes_text (node ∷ []) = decimal node
nodes_text (node ∷ next ∷ nodes) = decimal node ++ 44 ∷ nodes_text (next ∷ nodes)

-- what is asked for, and behind a colon the nodes or the seed
abbrev pub words_text : LandmarkWords → List ℕ
words_text Greatest = codes "none"
words_text (ZeroAt nodes) = codes "at" ++ 58 ∷ nodes_text nodes.items
words_text (Drawn seed) = codes "draw" ++ 58 ∷ decimal seed

-- there are nodes, and each fits its type
abbrev pub AreNodes : List ℕ → Type 0
AreNodes nodes = (nodes ≢ []) × All (λ node. node < 2 ^ 16) nodes

-- the numbers fit their types, and nodes are named where they are asked for
abbrev pub IsAsked : LandmarkWords → Type 0
IsAsked Greatest = Unit {0}
IsAsked (ZeroAt nodes) = AreNodes nodes.items
IsAsked (Drawn seed) = seed < 2 ^ 64

-- the same is asked for
abbrev pub IsSame : LandmarkWords → LandmarkWords → Type 0
IsSame Greatest Greatest = Unit {0}
IsSame (ZeroAt nodes) (ZeroAt others) = nodes.items ≡ others.items
IsSame (Drawn seed) (Drawn other) = seed ≡ other
IsSame asked other = ⊥
