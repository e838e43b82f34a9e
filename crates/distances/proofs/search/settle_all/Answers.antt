use Rattle.std.proofs.Common.{◌≡◌, ◌<◌, ◌+◌, ◌-◌, Some, length, set, replicate, true, false, arith, subst, sym, ap, ◌∙◌, length-set, [], ◌∷◌, ◌++◌}
use Rattle.std.specs.BinaryHeap.{heap_items}
use Rattle.std.specs.Vec.{with_items}
use Rattle.std.proofs.lemmas.List.{get_or_read, length_push, with_items_is}
use Rattle.std.proofs.lemmas.List.Elements.{All-nil, All-push, All-same}
use Rattle.distances.specs.Search.{number_at, flag_at, IsAtZero, IsRelaxed, degrees}
use Rattle.distances.specs.Arrivals.{arrival_at, AreArrivals, IsArrival, IsArriving}
use Rattle.distances.proofs.Arrived.{arrivals_turn, arrivals_done}
use Rattle.distances.specs.Waiting.{IsQueue, IsTracked}
use Rattle.graph_edits.specs.Edges.{all_degrees, degree_of}
use Rattle.distances.proofs.OpenDegrees.{open_degrees, open_degrees_start, open_degrees_set}
use Rattle.distances.proofs.Progress.{Progress, progress_done, table_done, listing_done}
use Rattle.distances.proofs.Turns.{count_open, progress_start, progress_turn, count_set, count_replicate, no_flags, flag_set_same, flag_set_other}
use Rattle.distances.proofs.Queues.{entry_of, popped_as, greatest_as, popped_within, popped_nearest, popped_rest, popped_length, degrees_push, open_before, none_waits, tracked_by, complete_push}
use Rattle.distances.proofs.search.settle_all.Goals as goal

pub loop-next-init : goal.loop-next-init
loop-next-init c =
    let g = c.args.graph.now in
    let none : c.reserve.new.self.items ≡ [] = c.in_ok-reserve.ensures.items ∙ c.requires.none_listed in
    let flags : c.args.search.now.settled.items ≡ replicate c.args.graph.now.nodes false = no_flags c.args.search.now.settled.items c.requires.none_settled ∙ ap (λ k. replicate k false) c.requires.places.settled in
    let empty : length c.reserve.new.self.items ≡ 0 = ap length none in
    let listed : degrees c.args.graph.now c.reserve.new.self.items ≡ 0 = ap (degrees c.args.graph.now) none in
    let left : open_degrees c.args.graph.now c.args.search.now.settled.items ≡ all_degrees c.args.graph.now = ap (open_degrees c.args.graph.now) flags ∙ open_degrees_start c.args.graph.now in
    let opened : count_open c.args.search.now.settled.items ≡ c.args.graph.now.nodes = ap count_open flags ∙ count_replicate c.args.graph.now.nodes in
    record {
      progress = subst (λ l. Progress g.edges (IsAtZero c.args.search.now.tentative.items) (number_at c.args.limits.now) (number_at c.args.search.now.tentative.items) (flag_at c.args.search.now.settled.items) l) (sym none)
          (progress_start g.edges c.args.search.now.tentative.items c.args.search.now.settled.items (number_at c.args.limits.now) c.requires.zero c.requires.none_settled c.requires.within_limits);
      places = record { tentative = c.requires.places.tentative; settled = c.requires.places.settled; arrivals = c.requires.places.arrivals };
      few = c.nodes-sound.ensures.sound.nodes_fit.1;
      counted = omega (arith, empty, opened);
      listed = All-same (λ s. s.node < g.nodes) c.reserve.new.self.items [] none (All-nil (λ s. s.node < g.nodes));
      room = omega (arith, c.in_ok-reserve.ensures.ok);
      arrived = λ y e is.
          let z = c.requires.zero y e is in
          subst (IsArrival g (number_at c.args.search.now.tentative.items) (flag_at c.args.search.now.settled.items) y e) (sym (c.requires.none_arrived y (is ∙ ap Some z))) z;
      queue = c.requires.queue;
      order = c.requires.heap;
      pops = omega (arith, listed);
      degrees_left = omega (arith, listed, left);
      no_fewer = omega (arith, empty);
    }

pub loop-next-preserved-then-index : goal.loop-next-preserved-then-index
loop-next-preserved-then-index c =
    let i = c.loop-next.invariant in
    let x = entry_of c.settled-next.result in
    let xs = heap_items c.loop-next.search.waiting in
    let ys = heap_items c.pop.new.self in
    let moved = popped_as c.settled-next.result _ xs ys c.settled-next.ensures c.in-Some.ensures.permutation in
    let one = popped_length x xs ys moved in
    let done = c.loop-next.search.settled.items in
    let lt : x.0.node < length c.loop-next.search.settled.items = omega (arith, popped_within c.args.graph.now.nodes (number_at c.loop-next.search.tentative.items) (flag_at done) xs ys x i.queue moved, i.places.settled) in
    let is_done : flag_at c.loop-next.search.settled.items x.0.node ≡ true = sym (get_or_read done x.0.node c.index.result.now lt c.index.ensures false) ∙ c.if-index.true in
    record {
      progress = i.progress;
      places = record { tentative = i.places.tentative; settled = i.places.settled; arrivals = i.places.arrivals };
      few = i.few;
      counted = i.counted;
      listed = i.listed;
      room = i.room;
      arrived = i.arrived;
      queue = popped_rest c.args.graph.now.nodes (number_at c.loop-next.search.tentative.items) (flag_at c.loop-next.search.settled.items) xs ys x i.queue moved (flag_at c.loop-next.search.settled.items) is_done (λ y o. o);
      order = (c.in-Some.ensures.heap_order i.order).0;
      pops = omega (arith, one, i.pops);
      degrees_left = i.degrees_left;
      no_fewer = omega (arith, i.no_fewer);
    }

pub relax-requires-clause-fits : goal.relax-requires-clause-fits
relax-requires-clause-fits c =
    let i = c.loop-next.invariant in
    let x = entry_of c.settled-next.result in
    let xs = heap_items c.loop-next.search.waiting in
    let ys = heap_items c.pop.new.self in
    let moved = popped_as c.settled-next.result _ xs ys c.settled-next.ensures c.in-Some.ensures.permutation in
    let done = c.loop-next.search.settled.items in
    let lt : x.0.node < length c.loop-next.search.settled.items = omega (arith, popped_within c.args.graph.now.nodes (number_at c.loop-next.search.tentative.items) (flag_at done) xs ys x i.queue moved, i.places.settled) in
    let is_open : flag_at c.loop-next.search.settled.items x.0.node ≡ false = sym (get_or_read done x.0.node c.index.result.now lt c.index.ensures false) ∙ c.if-index.false in
    let nearest = popped_nearest c.args.graph.now.nodes (number_at c.loop-next.search.tentative.items) (flag_at c.loop-next.search.settled.items) xs ys x i.queue moved (greatest_as c.settled-next.result _ xs c.settled-next.ensures (c.in-Some.ensures.heap_order i.order).1) i.few is_open in
    let le = i.progress.bounded x.0.node x.0.distance nearest.has in
    omega (arith, le, i.counted, i.few)

pub returns-in_err-relax-clause-tracked : goal.returns-in_err-relax-clause-tracked
returns-in_err-relax-clause-tracked c =
    let i = c.loop-next.invariant in
    let g = c.args.graph.now in
    let x = entry_of c.settled-next.result in
    let xs = heap_items c.loop-next.search.waiting in
    let ys = heap_items c.pop.new.self in
    let moved = popped_as c.settled-next.result _ xs ys c.settled-next.ensures c.in-Some.ensures.permutation in
    let done = c.loop-next.search.settled.items in
    let done_after = set c.loop-next.search.settled.items c.settled-next.result.node true in
    let within = popped_within g.nodes (number_at c.loop-next.search.tentative.items) (flag_at done) xs ys x i.queue moved in
    let lt : x.0.node < length c.loop-next.search.settled.items = omega (arith, within, i.places.settled) in
    let rest = popped_rest g.nodes (number_at c.loop-next.search.tentative.items) (flag_at done) xs ys x i.queue moved (flag_at done_after) (flag_set_same done x.0.node lt) (λ y o. open_before done x.0.node y lt o) in
    let wrote = with_items_is c.loop-next.search.tentative c.relax.new.tentative (c.relax.auto.tentative ∙ ap length c.as_mut_slice.ensures.value ∙ sym c.loop-next.search.tentative.ok.0) in
    let queue = c.in_err-relax.ensures.queue (flag_at done_after) (subst (λ l. IsQueue g.nodes (number_at l) (flag_at done_after) ys) (sym c.as_mut_slice.ensures.value) rest) in
    subst (λ l. IsTracked g.nodes (number_at l) (flag_at done_after) c.enlist.new.order.items (heap_items c.relax.new.waiting)) (sym wrote)
    (subst (λ l. IsTracked g.nodes (number_at c.relax.new.tentative) (flag_at done_after) l (heap_items c.relax.new.waiting)) (sym c.enlist.ensures)
    (tracked_by g.nodes (number_at c.relax.new.tentative) (flag_at done_after) (c.loop-next.search.order.items ++ x.0 ∷ []) (heap_items c.relax.new.waiting) queue
    (complete_push done c.loop-next.search.order.items x.0 lt i.progress.complete) (All-push (λ s. s.node < g.nodes) c.loop-next.search.order.items x.0 i.listed within)))

pub returns-in_err-reserve-2-clause-tracked : goal.returns-in_err-reserve-2-clause-tracked
returns-in_err-reserve-2-clause-tracked c =
    let i = c.loop-next.invariant in
    let g = c.args.graph.now in
    let x = entry_of c.settled-next.result in
    let xs = heap_items c.loop-next.search.waiting in
    let ys = heap_items c.pop.new.self in
    let moved = popped_as c.settled-next.result _ xs ys c.settled-next.ensures c.in-Some.ensures.permutation in
    let done = c.loop-next.search.settled.items in
    let done_after = set c.loop-next.search.settled.items c.settled-next.result.node true in
    let within = popped_within g.nodes (number_at c.loop-next.search.tentative.items) (flag_at done) xs ys x i.queue moved in
    let lt : x.0.node < length c.loop-next.search.settled.items = omega (arith, within, i.places.settled) in
    let rest = popped_rest g.nodes (number_at c.loop-next.search.tentative.items) (flag_at done) xs ys x i.queue moved (flag_at done_after) (flag_set_same done x.0.node lt) (λ y o. open_before done x.0.node y lt o) in
    let wrote = with_items_is c.loop-next.search.tentative c.relax.new.tentative (c.relax.auto.tentative ∙ ap length c.as_mut_slice.ensures.value ∙ sym c.loop-next.search.tentative.ok.0) in
    let queue = c.in_ok-relax.ensures.queue (flag_at done_after) (subst (λ l. IsQueue g.nodes (number_at l) (flag_at done_after) ys) (sym c.as_mut_slice.ensures.value) rest) in
    subst (λ l. IsTracked g.nodes (number_at l) (flag_at done_after) c.reserve-in-Some.new.self.items (heap_items c.relax.new.waiting)) (sym wrote)
    (subst (λ l. IsTracked g.nodes (number_at c.relax.new.tentative) (flag_at done_after) l (heap_items c.relax.new.waiting)) (sym (c.in_err-reserve-2.ensures.items ∙ c.enlist.ensures))
    (tracked_by g.nodes (number_at c.relax.new.tentative) (flag_at done_after) (c.loop-next.search.order.items ++ x.0 ∷ []) (heap_items c.relax.new.waiting) queue
    (complete_push done c.loop-next.search.order.items x.0 lt i.progress.complete) (All-push (λ s. s.node < g.nodes) c.loop-next.search.order.items x.0 i.listed within)))

pub loop-next-preserved : goal.loop-next-preserved
loop-next-preserved c =
    let i = c.loop-next.invariant in
    let g = c.args.graph.now in
    let Source = IsAtZero c.args.search.now.tentative.items in
    let limit = number_at c.args.limits.now in
    let x = entry_of c.settled-next.result in
    let xs = heap_items c.loop-next.search.waiting in
    let ys = heap_items c.pop.new.self in
    let moved = popped_as c.settled-next.result _ xs ys c.settled-next.ensures c.in-Some.ensures.permutation in
    let done = c.loop-next.search.settled.items in
    let done_after = set c.loop-next.search.settled.items c.settled-next.result.node true in
    let after = c.relax.new.tentative in
    let within = popped_within g.nodes (number_at c.loop-next.search.tentative.items) (flag_at done) xs ys x i.queue moved in
    let lt : x.0.node < length c.loop-next.search.settled.items = omega (arith, within, i.places.settled) in
    let is_open : flag_at c.loop-next.search.settled.items x.0.node ≡ false = sym (get_or_read done x.0.node c.index.result.now lt c.index.ensures false) ∙ c.if-index.false in
    let nearest = popped_nearest g.nodes (number_at c.loop-next.search.tentative.items) (flag_at done) xs ys x i.queue moved (greatest_as c.settled-next.result _ xs c.settled-next.ensures (c.in-Some.ensures.heap_order i.order).1) i.few is_open in
    let count = count_set c.loop-next.search.settled.items x.0.node lt is_open in
    let wrote = with_items_is c.loop-next.search.tentative c.relax.new.tentative (c.relax.auto.tentative ∙ ap length c.as_mut_slice.ensures.value ∙ sym c.loop-next.search.tentative.ok.0) in
    let noted = with_items_is c.loop-next.search.arrivals c.relax.new.arrivals (c.relax.auto.arrivals ∙ ap length c.as_mut_slice-in-Some.ensures.value ∙ sym c.loop-next.search.arrivals.ok.0) in
    let relaxed = subst (λ l. IsRelaxed g.edges limit x.0.node x.0.distance (number_at l) (number_at c.relax.new.tentative)) c.as_mut_slice.ensures.value c.in_ok-relax.ensures.relaxed in
    let arriving = subst (λ l. IsArriving g limit x.0.node x.0.distance (number_at c.loop-next.search.tentative.items) (arrival_at l) (arrival_at c.relax.new.arrivals)) c.as_mut_slice-in-Some.ensures.value
    (subst (λ l. IsArriving g limit x.0.node x.0.distance (number_at l) (arrival_at c.as_mut_slice-in-Some.result.now) (arrival_at c.relax.new.arrivals)) c.as_mut_slice.ensures.value c.in_ok-relax.ensures.arriving) in
    let turn = progress_turn g Source limit c.loop-next.search.tentative.items after done c.loop-next.search.order.items x.0 c.nodes-sound.ensures.sound i.progress nearest lt relaxed in
    let pushed : c.reserve-in-Some.new.self.items ≡ c.loop-next.search.order.items ++ x.0 ∷ [] = c.in_ok-reserve-2.ensures.items ∙ c.enlist.ensures in
    let one : length (c.loop-next.search.order.items ++ x.0 ∷ []) ≡ length c.loop-next.search.order.items + 1 = length_push c.loop-next.search.order.items x.0 in
    let len : length c.reserve-in-Some.new.self.items ≡ length c.loop-next.search.order.items + 1 = ap length pushed ∙ one in
    let sum : degrees g c.reserve-in-Some.new.self.items ≡ degrees g c.loop-next.search.order.items + degree_of g x.0.node = ap (degrees g) pushed ∙ degrees_push g c.loop-next.search.order.items x.0 in
    let rest = popped_rest g.nodes (number_at c.loop-next.search.tentative.items) (flag_at done) xs ys x i.queue moved (flag_at done_after) (flag_set_same done x.0.node lt) (λ y o. open_before done x.0.node y lt o) in
    let popped = popped_length x xs ys moved in
    record {
      progress = subst (λ l. Progress g.edges Source limit (number_at l) (flag_at done_after) c.reserve-in-Some.new.self.items) (sym wrote)
          (subst (Progress g.edges Source limit (number_at after) (flag_at done_after)) (sym pushed) turn);
      places = record {
        tentative = ap length wrote ∙ c.relax.auto.tentative ∙ ap length c.as_mut_slice.ensures.value ∙ i.places.tentative;
        settled = length-set c.loop-next.search.settled.items x.0.node true ∙ i.places.settled;
        arrivals = ap length noted ∙ c.relax.auto.arrivals ∙ ap length c.as_mut_slice-in-Some.ensures.value ∙ i.places.arrivals;
      };
      few = i.few;
      counted = omega (arith, len, count, i.counted);
      listed = All-same (λ s. s.node < g.nodes) c.reserve-in-Some.new.self.items (c.loop-next.search.order.items ++ x.0 ∷ []) pushed (All-push (λ s. s.node < g.nodes) c.loop-next.search.order.items x.0 i.listed within);
      room = omega (arith, c.in_ok-reserve-2.ensures.ok);
      arrived = subst (λ l. AreArrivals g (number_at (with_items c.loop-next.search.tentative c.relax.new.tentative).items) (flag_at done_after) (arrival_at l)) (sym noted) (subst (λ l. AreArrivals g (number_at l) (flag_at done_after) (arrival_at c.relax.new.arrivals)) (sym wrote)
          (arrivals_turn g c.nodes-sound.ensures.sound Source limit (number_at c.loop-next.search.tentative.items) (number_at after) (flag_at done) (flag_at done_after) c.loop-next.search.order.items i.progress x.0.node x.0.distance nearest relaxed
          (flag_set_same done x.0.node lt) (λ y ne. flag_set_other done x.0.node y ne) (arrival_at c.loop-next.search.arrivals.items) (arrival_at c.relax.new.arrivals) i.arrived arriving));
      queue = subst (λ l. IsQueue g.nodes (number_at l) (flag_at done_after) (heap_items c.relax.new.waiting)) (sym wrote)
          (c.in_ok-relax.ensures.queue (flag_at done_after) (subst (λ l. IsQueue g.nodes (number_at l) (flag_at done_after) ys) (sym c.as_mut_slice.ensures.value) rest));
      order = c.in_ok-relax.ensures.order (c.in-Some.ensures.heap_order i.order).0;
      pops = omega (arith, c.in_ok-relax.ensures.length, popped, sum, i.pops);
      degrees_left = let left = open_degrees_set g done x.0.node lt is_open in omega (arith, sum, left, i.degrees_left);
      no_fewer = omega (arith, len, i.no_fewer);
    }

pub returns-clause-order : goal.returns-clause-order
returns-clause-order c = progress_done c.args.graph.now.edges (IsAtZero c.args.search.now.tentative.items) (number_at c.args.limits.now) (number_at c.loop-next.search.tentative.items) (flag_at c.loop-next.search.settled.items) c.loop-next.search.order.items c.requires.gentle c.loop-next.invariant.progress
    (none_waits c.args.graph.now.nodes (number_at c.loop-next.search.tentative.items) (flag_at c.loop-next.search.settled.items) (heap_items c.loop-next.search.waiting) c.loop-next.invariant.queue (omega (arith, c.in_default.ensures.none, c.loop-next.search.waiting.data.ok.0)))

pub returns-clause-distances : goal.returns-clause-distances
returns-clause-distances c = table_done c.args.graph.now.edges (IsAtZero c.args.search.now.tentative.items) (number_at c.args.limits.now) (number_at c.loop-next.search.tentative.items) (flag_at c.loop-next.search.settled.items) c.loop-next.search.order.items c.requires.gentle c.loop-next.invariant.progress
    (none_waits c.args.graph.now.nodes (number_at c.loop-next.search.tentative.items) (flag_at c.loop-next.search.settled.items) (heap_items c.loop-next.search.waiting) c.loop-next.invariant.queue (omega (arith, c.in_default.ensures.none, c.loop-next.search.waiting.data.ok.0)))

pub returns-clause-listing : goal.returns-clause-listing
returns-clause-listing c = listing_done c.args.graph.now.edges (IsAtZero c.args.search.now.tentative.items) (number_at c.args.limits.now) (number_at c.loop-next.search.tentative.items) (flag_at c.loop-next.search.settled.items) c.loop-next.search.order.items c.requires.gentle c.loop-next.invariant.progress
    (none_waits c.args.graph.now.nodes (number_at c.loop-next.search.tentative.items) (flag_at c.loop-next.search.settled.items) (heap_items c.loop-next.search.waiting) c.loop-next.invariant.queue (omega (arith, c.in_default.ensures.none, c.loop-next.search.waiting.data.ok.0)))

pub returns-clause-arrivals : goal.returns-clause-arrivals
returns-clause-arrivals c = arrivals_done c.args.graph.now (number_at c.loop-next.search.tentative.items) (flag_at c.loop-next.search.settled.items) (arrival_at c.loop-next.search.arrivals.items)
    (none_waits c.args.graph.now.nodes (number_at c.loop-next.search.tentative.items) (flag_at c.loop-next.search.settled.items) (heap_items c.loop-next.search.waiting) c.loop-next.invariant.queue (omega (arith, c.in_default.ensures.none, c.loop-next.search.waiting.data.ok.0))) c.loop-next.invariant.arrived
