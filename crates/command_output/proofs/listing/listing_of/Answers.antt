use Rattle.std.proofs.Common.{◌≡◌, ◌∙◌, ap, ◌++◌, List, ℕ, arith}
use Rattle.std.specs.FinMap.{len}
use Rattle.std.specs.List.{flat_map}
use Rattle.command_output.specs.Lines.{line, totals_text, line_up}
use Rattle.command_output.proofs.Listings.{lines_below, lines_more, all_lines}
use Rattle.command_output.proofs.listing.listing_of.Goals as goal

pub loop-node-preserved : goal.loop-node-preserved
loop-node-preserved c =
    let graph = c.args.graph.now in
    let totals = line (totals_text c.args.count (len graph.edges)) in
    c.in_ok-push_edges.ensures
    ∙ ap (λ (text : List ℕ). text ++ flat_map (line_up c.loop-node.node) c.neighbours.result.now) c.loop-node.invariant
    ∙ ap (λ row. (totals ++ lines_below graph c.loop-node.node) ++ flat_map (line_up c.loop-node.node) row) c.neighbours.ensures.list
    ∙ lines_more totals graph c.loop-node.node

pub returns : goal.returns
returns c =
    let graph = c.args.graph.now in
    let at_end : c.loop-node.node ≡ graph.nodes = omega (arith, c.loop-node-test.false, c.loop-node.auto.node-end, c.nodes-node-end.ensures.nodes) in
    c.loop-node.invariant
    ∙ ap (λ (rows : List ℕ). line (totals_text c.args.count (len graph.edges)) ++ rows) (ap (lines_below graph) at_end ∙ all_lines graph c.nodes-node-end.ensures.sound)
