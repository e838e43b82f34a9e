use Rattle.std.proofs.Common.{◌≡◌, arith, length}
use Rattle.std.proofs.lemmas.List.{length-map}
use Rattle.graph_edits.specs.Rows.{lists}
use Rattle.graph_edits.proofs.Networks.{rows_none, edges_none}
use Rattle.graph_edits.proofs.graph.Graph.with_room.Goals as goal

pub invariant_of-result : goal.invariant_of-result
invariant_of-result c =
    let e : length (lists c.loop-degree.rows.items) ≡ length c.loop-degree.rows.items = length-map c.loop-degree.rows.items (λ row. row.items) in
    rows_none (lists c.loop-degree.rows.items) c.loop-degree.invariant.none (omega arith) (omega arith)

pub returns : goal.returns
returns c =
    let e : length (lists c.loop-degree.rows.items) ≡ length c.loop-degree.rows.items = length-map c.loop-degree.rows.items (λ row. row.items) in
    let n : length (lists c.loop-degree.rows.items) ≡ length c.args.degrees.now = omega arith in
    let none = edges_none (lists c.loop-degree.rows.items) c.loop-degree.invariant.none in
    λ i. record { nodes = n i; edges = none i }
