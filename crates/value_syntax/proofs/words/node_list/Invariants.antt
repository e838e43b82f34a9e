use Rattle.std.proofs.Common.{◌≡◌, ◌++◌, ◌<◌, ◌^◌, ℕ, List, All, length}
use denote.Text.{Utf8}
use denote.Shadow.{shadow}
use Rattle.value_syntax.specs.WordsText.{AreNodes, nodes_text}
use Rattle.value_syntax.proofs.NodeTexts.{front_text}
use Rattle.value_syntax.proofs.words.node_list.Given as goal

-- the nodes so far are those in front of the rest, and what the text may list begins with them
abbrev pub invariant-loop-front : goal.invariant-loop-front
invariant-loop-front l =
    shadow (Utf8 l.rest)
    × (l.text ≡ front_text l.nodes.items ++ l.rest)
    × ((all : List ℕ) → AreNodes all → l.text ≡ nodes_text all → (left : List ℕ) × (all ≡ l.nodes.items ++ left) × AreNodes left × (l.rest ≡ nodes_text left))
    × All (λ node. node < 2 ^ 16) l.nodes.items

abbrev pub decreases-loop-front : goal.decreases-loop-front
decreases-loop-front l = length l.rest
