use Rattle.std.proofs.Common.{◌≡◌, map}
use Rattle.std.specs.List.{range_with_len}
use Rattle.sample_networks.specs.Named.{word_at}
use Rattle.sample_networks.proofs.named.words_once.Given as goal

-- there is a word for each node so far
abbrev pub invariant-loop-node : goal.invariant-loop-node
invariant-loop-node l = l.words.items ≡ map (word_at l.at) (range_with_len 0 l.node)
