use Rattle.std.proofs.Common.{arith, ◌<◌, sym, subst, take, length, slice_set, get_or}
use Rattle.std.proofs.lemmas.List.{take_more}
use Rattle.value_syntax.specs.Words.{AreZeroAt}
use Rattle.value_syntax.proofs.WordLemmas.{zero_at_more}
use Rattle.value_syntax.proofs.words.zero_at.Goals as goal

pub loop-node-preserved : goal.loop-node-preserved
loop-node-preserved c =
    let named = c.args.named.now in
    let at = c.loop-node.node-index in
    let within : at < length named = omega arith in
    let node = get_or named at 0 in
    let small : node < c.args.nodes = c.requires at 0 within in
    subst (λ listed. AreZeroAt listed c.args.nodes (slice_set c.loop-node.words.items node 0)) (sym (take_more named at 0 within))
    (zero_at_more (take at named) c.loop-node.words.items c.args.nodes node small c.loop-node.invariant)
