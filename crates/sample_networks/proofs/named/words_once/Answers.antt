use Rattle.sample_networks.proofs.NamedLemmas.{one_word_more}
use Rattle.sample_networks.proofs.named.words_once.Goals as goal

pub loop-node-preserved : goal.loop-node-preserved
loop-node-preserved c = one_word_more c.loop-node.node c.args.at.now c.loop-node.words.items c.push.new.self.items c.word_of.result c.loop-node.invariant c.word_of.ensures c.in_ok-push.ensures.items
