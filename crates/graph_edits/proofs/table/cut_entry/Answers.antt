use Rattle.std.proofs.Common.{◌∙◌}
use Rattle.graph_edits.proofs.Entries.{has_cut, misses_cut}
use Rattle.graph_edits.proofs.table.cut_entry.Goals as goal

pub returns-in-Ok-clause-items : goal.returns-in-Ok-clause-items
returns-in-Ok-clause-items g c = c.remove.ensures.items ∙ has_cut g.K.Ord.cmp g.met.K.Ord.total c.args.entries.now.items c.args.key c.in-Ok.i c.remove.result c.requires (rw c.deref.ensures.value at c.in-Ok.ensures.found)

pub returns-in_default-clause-items : goal.returns-in_default-clause-items
returns-in_default-clause-items g c = misses_cut g.K.Ord.cmp g.met.K.Ord.total c.args.entries.now.items c.args.key _ c.requires (rw c.deref.ensures.value at c.in_default.ensures.missing)
