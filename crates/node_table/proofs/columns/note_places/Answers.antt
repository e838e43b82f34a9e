use Rattle.std.proofs.Common.{arith}
use Rattle.node_table.specs.RowLists.{nobody}
use Rattle.node_table.proofs.Builds.RowSteps.{node_at, place_noted, linked_length}
use Rattle.node_table.proofs.columns.note_places.Goals as goal

pub bounds-places-there : goal.bounds-places-there
bounds-places-there c =
    let many = linked_length c.args.reached.now in
    let inside = c.requires.nodes c.loop-place.place 0 (omega (arith, many, c.loop-place-test.true)) in
    let e = node_at c.args.reached.now c.loop-place.place nobody c.loop-place-test.true in
    omega (arith, inside, e, c.loop-place.auto.places)

pub loop-place-preserved : goal.loop-place-preserved
loop-place-preserved c =
    let many = linked_length c.args.reached.now in
    let inside = c.requires.nodes c.loop-place.place 0 (omega (arith, many, c.loop-place-test.true)) in
    let e = node_at c.args.reached.now c.loop-place.place nobody c.loop-place-test.true in
    place_noted c.args.reached.now c.loop-place.place nobody c.loop-place.places c.loop-place.invariant c.loop-place-test.true (omega (arith, inside, e, c.loop-place.auto.places))
