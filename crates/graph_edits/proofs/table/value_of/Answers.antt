use Rattle.std.proofs.Common.{sym}
use Rattle.graph_edits.proofs.Entries.{has_find, misses_find}
use Rattle.graph_edits.proofs.table.value_of.Goals as goal

pub returns-in-Ok : goal.returns-in-Ok
returns-in-Ok g c = sym (has_find g.K.Ord.cmp g.met.K.Ord.total c.args.entries.now c.args.key c.in-Ok.i c.index-entries-i.result c.in-Ok.ensures.found)

pub returns-in-Err : goal.returns-in-Err
returns-in-Err g c = sym (misses_find g.K.Ord.cmp g.met.K.Ord.total c.args.entries.now c.args.key _ c.requires c.in-Err.ensures.missing)
