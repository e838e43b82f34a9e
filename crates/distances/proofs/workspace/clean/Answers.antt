use Rattle.std.proofs.Common.{◌≡◌, ◌<◌, None, false, [], ◌∷◌, ◌++◌, length, arith, ◌∙◌, length-set}
use Rattle.std.specs.BinaryHeap.{heap_items}
use Rattle.distances.specs.Search.{flag_at}
use Rattle.distances.proofs.Queues.{entry_of, popped_as, tracked_listed, tracked_entry, last_listed, first_entry}
use Rattle.distances.proofs.workspace.clean.Goals as goal

pub loop-listed-preserved : goal.loop-listed-preserved
loop-listed-preserved c =
    let i = c.loop-listed.invariant in
    let x = c.in-Some.listed in
    let n = length c.args.search.now.tentative.items in
    let last : c.loop-listed.search.order.items ≡ c.pop.new.self.items ++ c.in-Some.listed ∷ [] = c.in-Some.ensures.items in
    let lt = last_listed n c.loop-listed.search.order.items c.pop.new.self.items x last i.tracked.listed in
    let within : c.in-Some.listed.node < length c.loop-listed.search.tentative.items = omega (arith, lt, i.places.tentative) in
    let flagged : c.in-Some.listed.node < length c.loop-listed.search.settled.items = omega (arith, lt, i.places.settled) in
    let numbers = length-set c.loop-listed.search.tentative.items x.node None in
    let flags = length-set c.loop-listed.search.settled.items x.node false in
    record {
      places = record { tentative = numbers ∙ i.places.tentative; settled = flags ∙ i.places.settled; arrivals = i.places.arrivals };
      tracked = tracked_listed n c.loop-listed.search.tentative.items c.loop-listed.search.settled.items c.loop-listed.search.order.items c.pop.new.self.items x (heap_items c.loop-listed.search.waiting) within flagged last i.tracked;
    }

pub loop-open-preserved : goal.loop-open-preserved
loop-open-preserved c =
    let i = c.loop-open.invariant in
    let x = entry_of c.settled-open.result in
    let before = heap_items c.loop-open.search.waiting in
    let after = heap_items c.pop-in-loop-open.new.self in
    let moved = popped_as c.settled-open.result _ before after c.settled-open.ensures c.in-Some-pop.ensures.permutation in
    let n = length c.args.search.now.tentative.items in
    let lt = first_entry n before after x moved i.tracked.entries in
    let within : c.settled-open.result.node < length c.loop-open.search.tentative.items = omega (arith, lt, i.places.tentative) in
    let same = length-set c.loop-open.search.tentative.items x.0.node None in
    record {
      places = record { tentative = same ∙ i.places.tentative; settled = i.places.settled; arrivals = i.places.arrivals };
      none = i.none;
      tracked = tracked_entry n c.loop-open.search.tentative.items (flag_at c.loop-open.search.settled.items) c.loop-open.search.order.items before after x within moved i.tracked;
    }
