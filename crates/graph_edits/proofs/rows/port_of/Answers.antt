use Rattle.std.proofs.Common.{◌≤◌, arith}
use Rattle.graph_edits.proofs.Entries.{has_port, misses_port, port_le}
use Rattle.graph_edits.proofs.rows.port_of.Goals as goal

pub overflow_cast-result : goal.overflow_cast-result
overflow_cast-result c = let le : c.in-Ok.port ≤ c.args.node = port_le c.args.row.now c.args.node c.in-Ok.port c.requires c.in-Ok.ensures.found in omega arith

pub returns-in-Ok : goal.returns-in-Ok
returns-in-Ok c = has_port c.args.row.now c.args.node c.in-Ok.port c.requires c.in-Ok.ensures.found

pub returns-in-Err : goal.returns-in-Err
returns-in-Err c = misses_port c.args.row.now c.args.node _ c.requires c.in-Err.ensures.missing
