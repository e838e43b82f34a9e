use Rattle.std.proofs.Common.{◌≡◌, ◌<◌, ◌+◌, ◌&&◌, true, None, length, get_or, set, arith, subst, refl, sym, ap, ◌∙◌, length-set}
use Rattle.std.specs.BinaryHeap.{heap_items}
use Rattle.std.proofs.lemmas.List.{set-get_or}
use Rattle.distances.specs.Search.{number_at, is_below, is_better, offered}
use Rattle.distances.specs.Waiting.{IsJoined}
use Rattle.distances.proofs.Turns.{IsRelaxing, late_offer, neighbour_at, neighbour_below, relaxing_step, relaxing_done}
use Rattle.graph_edits.specs.Edges.{degree_of}
use Rattle.graph_edits.specs.Laws.{IsRising, rising_neighbours, rising_place}
use Rattle.distances.specs.Arrivals.{arrival_at, arrived, is_nearer}
use Rattle.distances.proofs.Arrived.{AreArriving, late_arrival, arriving_step, arriving_done}
use Rattle.distances.proofs.Queues.{queue_offered, queue_same, joined_few}
use Rattle.distances.proofs.search.relax.Goals as goal

pub slice_copy_out-there : goal.slice_copy_out-there
slice_copy_out-there c =
    let lt = neighbour_below c.args.graph.now c.args.from.node c.neighbours-node-items.result.now c.loop-port.port c.neighbours-node-items.ensures.sound c.neighbours-node-items.ensures.list c.loop-port-test.true in
    omega (arith, c.loop-port.invariant.tentatives, lt)

pub bounds-tentative-y : goal.bounds-tentative-y
bounds-tentative-y c =
    let lt = neighbour_below c.args.graph.now c.args.from.node c.neighbours-node-items.result.now c.loop-port.port c.neighbours-node-items.ensures.sound c.neighbours-node-items.ensures.list c.loop-port-test.true in
    omega (arith, c.loop-port.invariant.tentatives, lt)

pub loop-port-preserved : goal.loop-port-preserved
loop-port-preserved c =
    let es = c.neighbours-node-items.result.now in
    let k = c.loop-port.port in
    let y = (get_or es k (0, 0)).0 in
    let w = (get_or es k (0, 0)).1 in
    let i = c.loop-port.invariant in
    let lt = neighbour_below c.args.graph.now c.args.from.node es k c.neighbours-node-items.ensures.sound c.neighbours-node-items.ensures.list c.loop-port-test.true in
    let limit : c.limit_of-limit.result ≡ number_at c.args.limits.now (get_or c.neighbours-node-items.result.now c.loop-port.port (0, 0)).0 = c.limit_of-limit.ensures in
    let number : c.in_ok-tentative.field-0 ≡ offered (number_at c.args.limits.now y) (c.args.from.distance + w) (number_at c.loop-port.tentative y) =
    c.in_ok-tentative.ensures.number ∙ ap (λ o. offered o (c.args.from.distance + w) (number_at c.loop-port.tentative y)) limit in
    let joined = subst (λ o. IsJoined (is_below (c.args.from.distance + w) o && is_better (c.args.from.distance + w) (number_at c.loop-port.tentative y)) (record { distance = c.args.from.distance + w; node = y }) (heap_items c.loop-port.waiting) (heap_items c.offer.new.waiting)) limit c.in_ok-tentative.ensures.joined in
    let within : (get_or es k (0, 0)).0 < length c.loop-port.tentative = omega (arith, i.tentatives, lt) in
    let g = c.args.graph.now in
    let limits = number_at c.args.limits.now in
    let fits : (get_or c.neighbours-node-items.result.now c.loop-port.port (0, 0)).0 < length c.loop-port.arrivals = omega (arith, i.places, lt) in
    let low : c.loop-port.port < degree_of c.args.graph.now c.args.from.node = omega (arith, c.loop-port-test.true, ap length c.neighbours-node-items.ensures.list) in
    let few = joined_few _ (record { distance = c.args.from.distance + w; node = y }) (heap_items c.loop-port.waiting) (heap_items c.offer.new.waiting) c.in_ok-tentative.ensures.joined in
    record {
      relaxing = rw number (relaxing_step c.args.graph.now.edges (number_at c.args.limits.now) c.args.from.node c.args.from.distance (number_at c.args.tentative.now) es k y w c.loop-port.tentative i.relaxing refl
          (neighbour_at c.args.graph.now c.args.from.node es k c.neighbours-node-items.ensures.list c.loop-port-test.true) within);
      order = λ h. c.in_ok-tentative.ensures.order (i.order h);
      queue = λ done h. rw number (queue_offered c.args.graph.now.nodes c.loop-port.tentative done (heap_items c.loop-port.waiting) (heap_items c.offer.new.waiting) (number_at c.args.limits.now y) (record { distance = c.args.from.distance + w; node = y }) lt within (i.queue done h) joined);
      counted = omega (arith, few, i.counted);
      arriving = subst (λ l. AreArriving g limits c.args.from.node c.args.from.distance (number_at c.args.tentative.now) (number_at (set c.loop-port.tentative y c.in_ok-tentative.field-0)) (arrival_at c.args.arrivals.now) (arrival_at l) (k + 1)) (sym c.note.ensures)
          (arriving_step g limits c.args.from.node c.args.from.distance (number_at c.args.tentative.now) (arrival_at c.args.arrivals.now) k y w c.loop-port.tentative c.loop-port.arrivals i.arriving low
          (ap (λ l. get_or l k (0, 0)) (sym c.neighbours-node-items.ensures.list)) fits c.in_ok-tentative.field-0 _
          (ap (λ o. arrived o (c.args.from.distance + w) (number_at c.loop-port.tentative y) (arrival_at c.loop-port.arrivals y) (record { parent = c.args.from.node; down = k })) limit));
      places = ap length c.note.ensures ∙ length-set c.loop-port.arrivals y _ ∙ i.places;
      tentatives = length-set c.loop-port.tentative y c.in_ok-tentative.field-0 ∙ i.tentatives;
    }

pub overflow_cast-arrival : goal.overflow_cast-arrival
overflow_cast-arrival c =
    let es = c.neighbours-node-items.result.now in
    let up : IsRising c.neighbours-node-items.result.now = subst IsRising (sym c.neighbours-node-items.ensures.list) (rising_neighbours c.args.graph.now c.args.from.node) in
    let place = rising_place es up c.loop-port.port c.loop-port-test.true in
    let lt = neighbour_below c.args.graph.now c.args.from.node es c.loop-port.port c.neighbours-node-items.ensures.sound c.neighbours-node-items.ensures.list c.loop-port-test.true in
    omega (arith, place, lt, c.neighbours-node-items.ensures.sound.nodes_fit.1)

pub note-requires : goal.note-requires
note-requires c =
    let lt = neighbour_below c.args.graph.now c.args.from.node c.neighbours-node-items.result.now c.loop-port.port c.neighbours-node-items.ensures.sound c.neighbours-node-items.ensures.list c.loop-port-test.true in
    omega (arith, c.loop-port.invariant.places, lt)

pub returns-clause-arriving : goal.returns-clause-arriving
returns-clause-arriving c =
    let all : c.loop-port.port ≡ degree_of c.args.graph.now c.args.from.node = omega (arith, c.loop-port.auto, c.loop-port-test, ap length c.neighbours-node-items.ensures.list) in
    arriving_done c.args.graph.now (number_at c.args.limits.now) c.args.from.node c.args.from.distance (number_at c.args.tentative.now) (number_at c.loop-port.tentative) (arrival_at c.args.arrivals.now) (arrival_at c.loop-port.arrivals) c.loop-port.port all c.loop-port.invariant.arriving

pub returns-clause-relaxed : goal.returns-clause-relaxed
returns-clause-relaxed c =
    let es = c.neighbours-node-items.result.now in
    let all : c.loop-port.port ≡ length es = omega (arith, c.loop-port.auto, c.loop-port-test) in
    relaxing_done c.args.graph.now (number_at c.args.limits.now) c.args.from.node c.args.from.distance (number_at c.args.tentative.now) (number_at c.loop-port.tentative) c.neighbours-node-items.ensures.sound
    (subst (λ l. IsRelaxing c.args.graph.now.edges (number_at c.args.limits.now) c.args.from.node c.args.from.distance (number_at c.args.tentative.now) (number_at c.loop-port.tentative) l (length l)) c.neighbours-node-items.ensures.list
    (subst (IsRelaxing c.args.graph.now.edges (number_at c.args.limits.now) c.args.from.node c.args.from.distance (number_at c.args.tentative.now) (number_at c.loop-port.tentative) es) all c.loop-port.invariant.relaxing))

pub returns-in_err-tentative-clause-queue : goal.returns-in_err-tentative-clause-queue
returns-in_err-tentative-clause-queue c = λ done h. queue_same c.args.graph.now.nodes (number_at c.loop-port.tentative) done (heap_items c.loop-port.waiting) (heap_items c.offer.new.waiting) c.in_err-tentative.ensures.refused (c.loop-port.invariant.queue done h)

pub loop-port-preserved-then-is_nearer : goal.loop-port-preserved-then-is_nearer
loop-port-preserved-then-is_nearer c =
    let es = c.neighbours-node-items.result.now in
    let k = c.loop-port.port in
    let y = (get_or es k (0, 0)).0 in
    let w = (get_or es k (0, 0)).1 in
    let i = c.loop-port.invariant in
    let g = c.args.graph.now in
    let limits = number_at c.args.limits.now in
    let d = c.args.from.distance in
    let lt = neighbour_below g c.args.from.node es k c.neighbours-node-items.ensures.sound c.neighbours-node-items.ensures.list c.loop-port-test.true in
    let within : (get_or es k (0, 0)).0 < length c.loop-port.tentative = omega (arith, i.tentatives, lt) in
    let fits : (get_or es k (0, 0)).0 < length c.loop-port.arrivals = omega (arith, i.places, lt) in
    let low : k < degree_of g c.args.from.node = omega (arith, c.loop-port-test.true, ap length c.neighbours-node-items.ensures.list) in
    let late : is_nearer (number_at c.loop-port.tentative y) (d + w) ≡ true = sym c.is_nearer.ensures ∙ c.if-is_nearer.true in
    let number : set c.loop-port.tentative y (offered (limits y) (d + w) (number_at c.loop-port.tentative y)) ≡ c.loop-port.tentative =
    ap (set c.loop-port.tentative y) (late_offer (limits y) (d + w) _ late) ∙ set-get_or c.loop-port.tentative y None in
    let new = arrived (limits y) (d + w) (number_at c.loop-port.tentative y) (arrival_at c.loop-port.arrivals y) (record { parent = c.args.from.node; down = k }) in
    let arrivals : set c.loop-port.arrivals y new ≡ c.loop-port.arrivals =
    ap (set c.loop-port.arrivals y) (late_arrival (limits y) (d + w) _ (arrival_at c.loop-port.arrivals y) _ late) ∙ set-get_or c.loop-port.arrivals y None in
    record {
      relaxing = subst (λ l. IsRelaxing g.edges limits c.args.from.node d (number_at c.args.tentative.now) (number_at l) es (k + 1)) number
          (relaxing_step g.edges limits c.args.from.node d (number_at c.args.tentative.now) es k y w c.loop-port.tentative i.relaxing refl
          (neighbour_at g c.args.from.node es k c.neighbours-node-items.ensures.list c.loop-port-test.true) within);
      order = i.order;
      queue = i.queue;
      counted = omega (arith, i.counted);
      arriving = subst (λ l. AreArriving g limits c.args.from.node d (number_at c.args.tentative.now) (number_at c.loop-port.tentative) (arrival_at c.args.arrivals.now) (arrival_at l) (k + 1)) arrivals
          (subst (λ l. AreArriving g limits c.args.from.node d (number_at c.args.tentative.now) (number_at l) (arrival_at c.args.arrivals.now) (arrival_at (set c.loop-port.arrivals y new)) (k + 1)) number
          (arriving_step g limits c.args.from.node d (number_at c.args.tentative.now) (arrival_at c.args.arrivals.now) k y w c.loop-port.tentative c.loop-port.arrivals i.arriving low
          (ap (λ l. get_or l k (0, 0)) (sym c.neighbours-node-items.ensures.list)) fits (offered (limits y) (d + w) (number_at c.loop-port.tentative y)) new refl));
      places = i.places;
      tentatives = i.tentatives;
    }
