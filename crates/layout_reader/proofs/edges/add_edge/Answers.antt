use Rattle.std.proofs.Common.{◌∙◌, ap}
use Rattle.std.specs.FinMap.{insert, entries}
use Rattle.graph_edits.specs.Edges.{Network}
use Rattle.graph_edits.proofs.EdgeRows.{pair_in_order}
use Rattle.layout_reader.proofs.EdgeLemmas.{passed, entries_added}
use Rattle.layout_reader.proofs.edges.add_edge.Goals as goal

pub add-requires : goal.add-requires
add-requires c =
    let g = c.args.graph.now in
    let e = c.args.edge in
    passed g e.a e.b e.weight c.requires.sound c.requires.last c.requires.room

pub returns-in-Ok-clause-edges : goal.returns-in-Ok-clause-edges
returns-in-Ok-clause-edges c =
    let g = c.args.graph.now in
    let e = c.args.edge in
    ap (λ (h : Network). entries h.edges) c.in-Ok.ensures.ok ∙ ap (λ k. entries (insert g.edges k e.weight)) (pair_in_order e.a e.b c.requires.sound.0) ∙ entries_added g.edges (e.a, e.b) e.weight c.requires.last
