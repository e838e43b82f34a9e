-- Landmarks that are named.
use Rattle.std.specs.Prelude.{ℕ, ◌-◌, ◌^◌, ◌==◌, Bool, cond, List, map}
use Rattle.std.specs.List.{list_any, range_with_len}

-- whether a node is named
abbrev pub is_named : List ℕ → ℕ → Bool
is_named at node = list_any (λ n. n == node) at

-- its landmark word: 0 where it is named, and else the greatest
abbrev pub word_at : List ℕ → ℕ → ℕ
word_at at node = cond (is_named at node) 0 (2 ^ 64 - 1)

-- a word for each of so many nodes
abbrev pub words_at : ℕ → List ℕ → List ℕ
words_at nodes at = map (word_at at) (range_with_len 0 nodes)

-- whether each of so many nodes is named
abbrev pub flags_at : ℕ → List ℕ → List Bool
flags_at nodes at = map (is_named at) (range_with_len 0 nodes)
