use Rattle.std.proofs.Common.{◌≡◌, arith, length}
use Rattle.std.proofs.lemmas.List.{length-map}
use Rattle.graph_edits.specs.Rows.{lists}
use Rattle.graph_edits.proofs.Networks.{rows_none, edges_none}
use Rattle.graph_edits.proofs.graph.Graph.empty.Goals as goal

pub invariant_of-result : goal.invariant_of-result
invariant_of-result c =
    let e : length (lists c.loop.rows.items) ≡ length c.loop.rows.items = length-map c.loop.rows.items (λ row. row.items) in
    rows_none (lists c.loop.rows.items) c.loop.invariant.none (omega arith) (omega arith)

pub returns : goal.returns
returns c =
    let e : length (lists c.loop.rows.items) ≡ length c.loop.rows.items = length-map c.loop.rows.items (λ row. row.items) in
    let n : length (lists c.loop.rows.items) ≡ c.args.nodes = omega arith in
    let none = edges_none (lists c.loop.rows.items) c.loop.invariant.none in
    λ i. record { nodes = n i; edges = none i }
