use Rattle.std.proofs.Common.{arith, set, cond, ◌≡◌, true, ◌∙◌, ap}
use Rattle.std.specs.Result.{is_ok}
use Rattle.std.specs.List.{insert}
use Rattle.graph_edits.specs.Rows.{MissesAt}
use Rattle.graph_edits.proofs.Entries.{has_put, misses_put, misses_find}
use Rattle.graph_edits.proofs.table.put_entry.Goals as goal

pub unreachable-requires : goal.unreachable-requires
unreachable-requires g c =
    let missing : MissesAt g.K.Ord.cmp c.args.entries.now.items c.args.key c.in-Err.i = rw c.deref.ensures.value at c.in-Err.ensures.missing in
    grind (arith, c.insert.ensures.succeeds (c.requires.room (misses_find g.K.Ord.cmp g.met.K.Ord.total c.args.entries.now.items c.args.key _ c.requires.sorted missing)), c.is_err.ensures.value, c.if-is_err.true)

pub returns-in-Ok-clause-items : goal.returns-in-Ok-clause-items
returns-in-Ok-clause-items g c =
    let entries = c.args.entries.now.items in
    ap (λ e. set entries c.in-Ok.i (e.0, c.args.value)) c.index_mut.ensures.value
    ∙ has_put g.K.Ord.cmp g.met.K.Ord.total entries c.args.key c.in-Ok.i c.args.value c.index_mut.result.now (rw c.deref.ensures.value at c.in-Ok.ensures.found)

pub returns-else-is_err-clause-items : goal.returns-else-is_err-clause-items
returns-else-is_err-clause-items g c =
    let missing : MissesAt g.K.Ord.cmp c.args.entries.now.items c.args.key c.in-Err.i = rw c.deref.ensures.value at c.in-Err.ensures.missing in
    let fits : is_ok c.insert.result ≡ true = grind (arith, c.is_err.ensures.value, c.is_err.ensures.negation, c.if-is_err.false) in
    c.insert.ensures.items
    ∙ ap (λ b. cond b (insert c.args.entries.now.items c.in-Err.i (c.args.key, c.args.value)) c.args.entries.now.items) fits
    ∙ misses_put g.K.Ord.cmp g.met.K.Ord.total c.args.entries.now.items c.args.key c.in-Err.i c.args.value (c.args.key, c.args.value) missing
