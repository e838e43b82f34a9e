use Rattle.std.proofs.Common.{sym, subst, T, nat_cmp}
use Rattle.std.specs.FinMap.{is_sorted}
use Rattle.graph_edits.proofs.Networks.{sorted_neighbours}
use Rattle.graph_edits.proofs.graph.Graph.port_to.Goals as goal

pub port_of-requires : goal.port_of-requires
port_of-requires c = subst (λ row. T (is_sorted nat_cmp row)) (sym c.neighbours.ensures.list) (sorted_neighbours c.args.self.now c.args.x)
