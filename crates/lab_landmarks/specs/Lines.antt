-- How chosen landmarks are written.
use Rattle.std.specs.Prelude.{ℕ, List, [], ◌∷◌, ◌++◌, codes}
use Rattle.value_syntax.specs.WordsText.{nodes_text}

-- as landmark words: `none`, or `at` with the nodes behind a colon
abbrev pub choice_text : List ℕ → List ℕ
choice_text [] = codes "none"
choice_text (node ∷ nodes) = codes "at" ++ 58 ∷ nodes_text (node ∷ nodes)
