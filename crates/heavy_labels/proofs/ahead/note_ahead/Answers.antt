use Rattle.std.proofs.Common.{◌+◌, ap, arith}
use Rattle.std.specs.Prelude.{slice_index}
use Rattle.heavy_labels.proofs.AheadSteps.{root_beside, root_ahead, place_there, parent_there, turn_heavy_beside, turn_heavy_ahead, turn_light_beside, turn_light_ahead, turn_fits}
use Rattle.heavy_labels.proofs.ahead.note_ahead.Goals as goal

pub returns-then-place-eq0-clause-beside : goal.returns-then-place-eq0-clause-beside
returns-then-place-eq0-clause-beside c = root_beside _ _ _ c.args.j c.requires.measured.members c.requires.there (omega arith) c.requires.beside

pub returns-then-place-eq0-clause-ahead : goal.returns-then-place-eq0-clause-ahead
returns-then-place-eq0-clause-ahead c = root_ahead _ _ _ c.args.j c.requires.measured.members (omega arith) c.requires.ahead

pub bounds-tree-place : goal.bounds-tree-place
bounds-tree-place c = (let i = place_there _ _ _ _ _ _ _ c.args.j c.requires.measured c.requires.heavy c.requires.beside c.requires.ahead c.requires.there (omega arith) in omega (arith, i, c.requires.measured.above.length_is))

pub bounds-tree-parent : goal.bounds-tree-parent
bounds-tree-parent c = (let i = parent_there _ _ _ _ _ _ _ c.args.j c.requires.measured c.requires.heavy c.requires.beside c.requires.ahead c.requires.there (omega arith) in omega (arith, i, c.requires.heavy.length_is))

pub returns-then-best-place-clause-beside : goal.returns-then-best-place-clause-beside
returns-then-best-place-clause-beside c = turn_heavy_beside _ _ _ _ _ _ _ c.args.j c.requires.measured c.requires.heavy c.requires.beside c.requires.ahead c.requires.there (omega arith) (omega arith)

pub returns-then-best-place-clause-ahead : goal.returns-then-best-place-clause-ahead
returns-then-best-place-clause-ahead c = turn_heavy_ahead _ _ _ _ _ _ _ c.args.j c.requires.measured c.requires.heavy c.requires.beside c.requires.ahead c.requires.there (omega arith) (omega arith)

pub overflow_add-ahead : goal.overflow_add-ahead
overflow_add-ahead c = (let i = turn_fits _ _ _ _ _ _ _ c.args.j c.requires.measured c.requires.heavy c.requires.beside c.requires.ahead c.requires.there (omega arith) in let e = c.heavy_size.ensures in omega (arith, i.0, i.1, e, c.requires.measured.members.few))

pub bounds-beside-parent : goal.bounds-beside-parent
bounds-beside-parent c = (let i = parent_there _ _ _ _ _ _ _ c.args.j c.requires.measured c.requires.heavy c.requires.beside c.requires.ahead c.requires.there (omega arith) in omega (arith, i, c.requires.beside.length_is))

pub overflow_add-ahead-2 : goal.overflow_add-ahead-2
overflow_add-ahead-2 c = (let i = turn_fits _ _ _ _ _ _ _ c.args.j c.requires.measured c.requires.heavy c.requires.beside c.requires.ahead c.requires.there (omega arith) in let e = c.heavy_size.ensures in omega (arith, i.0, i.1, e, c.requires.measured.members.few))

pub bounds-ahead-place-2 : goal.bounds-ahead-place-2
bounds-ahead-place-2 c = (let i = place_there _ _ _ _ _ _ _ c.args.j c.requires.measured c.requires.heavy c.requires.beside c.requires.ahead c.requires.there (omega arith) in omega (arith, i, c.requires.ahead.length_is))

pub bounds-tree-place-2 : goal.bounds-tree-place-2
bounds-tree-place-2 c = (let i = place_there _ _ _ _ _ _ _ c.args.j c.requires.measured c.requires.heavy c.requires.beside c.requires.ahead c.requires.there (omega arith) in omega (arith, i, c.requires.measured.length_is))

pub bounds-beside-parent-2 : goal.bounds-beside-parent-2
bounds-beside-parent-2 c = (let i = parent_there _ _ _ _ _ _ _ c.args.j c.requires.measured c.requires.heavy c.requires.beside c.requires.ahead c.requires.there (omega arith) in omega (arith, i, c.requires.beside.length_is))

pub overflow_add-beside : goal.overflow_add-beside
overflow_add-beside c = (let i = turn_fits _ _ _ _ _ _ _ c.args.j c.requires.measured c.requires.heavy c.requires.beside c.requires.ahead c.requires.there (omega arith) in omega (arith, i.0, c.requires.measured.members.few))

pub bounds-beside-parent-3 : goal.bounds-beside-parent-3
bounds-beside-parent-3 c = (let i = parent_there _ _ _ _ _ _ _ c.args.j c.requires.measured c.requires.heavy c.requires.beside c.requires.ahead c.requires.there (omega arith) in omega (arith, i, c.requires.beside.length_is))

pub returns-clause-beside : goal.returns-clause-beside
returns-clause-beside c = turn_light_beside _ _ _ _ _ _ _ c.args.j c.requires.measured c.requires.heavy c.requires.beside c.requires.ahead c.requires.there (omega arith) (λ e. c.if-best-place.false e)

pub returns-clause-ahead : goal.returns-clause-ahead
returns-clause-ahead c = turn_light_ahead _ _ _ _ _ _ _ c.args.j c.requires.measured c.requires.heavy c.requires.beside c.requires.ahead c.requires.there (omega arith) _ (λ e. c.if-best-place.false e) (ap (λ z. 1 + z + slice_index c.args.beside.now (slice_index c.args.tree.now.above.now (slice_index c.args.tree.now.by_node.now c.args.j))) c.heavy_size.ensures)
