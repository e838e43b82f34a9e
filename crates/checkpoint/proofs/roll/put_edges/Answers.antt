use Rattle.std.proofs.Common.{◌≡◌, ◌++◌, ◌∙◌, ap, ℕ, List, arith}
use Rattle.checkpoint.proofs.EdgeRows.{rows_text, all_rows}
use Rattle.checkpoint.proofs.roll.put_edges.Goals as goal

pub returns : goal.returns
returns c lawful =
    let g = c.args.graph.now in
    let at_end : c.loop-node.node ≡ g.nodes = omega (arith, c.loop-node-test.false, c.loop-node.auto.node-end, c.nodes-node-end.ensures.nodes) in
    c.loop-node.invariant ∙ ap (λ (l : List ℕ). c.args.text.now.items ++ l) (ap (rows_text g) at_end ∙ all_rows g lawful)
