use Rattle.std.proofs.Common.{arith}
use Rattle.heavy_labels.proofs.HeavySteps.{turn_inside, turn_root, turn_taken, turn_kept, parent_there}
use Rattle.heavy_labels.proofs.heavy_kids.meet.Goals as goal

pub returns-then-place-eq0 : goal.returns-then-place-eq0
returns-then-place-eq0 c = turn_root _ _ _ _ _ c.args.j c.requires.measured c.requires.heavy c.requires.there (omega arith)

pub bounds-above-place : goal.bounds-above-place
bounds-above-place c =
    let i = turn_inside _ _ _ _ _ c.args.j c.requires.measured c.requires.heavy c.requires.there in
    omega (arith, i, c.requires.measured.above.length_is)

pub bounds-sizes-place : goal.bounds-sizes-place
bounds-sizes-place c =
    let i = turn_inside _ _ _ _ _ c.args.j c.requires.measured c.requires.heavy c.requires.there in
    omega (arith, i, c.requires.measured.length_is)

pub bounds-heavy-parent : goal.bounds-heavy-parent
bounds-heavy-parent c =
    let i = parent_there _ _ _ _ _ c.args.j c.requires.measured c.requires.heavy c.requires.there (omega arith) in
    omega (arith, i, c.requires.heavy.length_is)

pub bounds-heavy-parent-then-sizes-place : goal.bounds-heavy-parent-then-sizes-place
bounds-heavy-parent-then-sizes-place c =
    let i = parent_there _ _ _ _ _ c.args.j c.requires.measured c.requires.heavy c.requires.there (omega arith) in
    omega (arith, i, c.requires.heavy.length_is)

pub returns-then-sizes-place : goal.returns-then-sizes-place
returns-then-sizes-place c =
    turn_taken _ _ _ _ _ c.args.j c.requires.measured c.requires.heavy c.requires.there (omega arith)
    (let e = c.heavy_size.ensures in let t = c.if-sizes-place.true in omega (arith, e, t))

pub returns-else-sizes-place : goal.returns-else-sizes-place
returns-else-sizes-place c =
    turn_kept _ _ _ _ _ c.args.j c.requires.measured c.requires.heavy c.requires.there (omega arith)
    (let e = c.heavy_size.ensures in let t = c.if-sizes-place.false in omega (arith, e, t))
