use Rattle.std.proofs.Common.{◌≡◌, Some, None, map, length, subst, sym, ap, ◌∙◌, refl}
use Rattle.std.specs.BinaryHeap.{heap_items}
use Rattle.landmarks.specs.Chosen.{IsLandmark}
use Rattle.distances.specs.Search.{number_at, flag_at, first_number, IsAtZero}
use Rattle.distances.specs.Table.{IsTable}
use Rattle.distances.specs.Waiting.{IsQueue}
use Rattle.distances.proofs.Trees.{table_from, table_limits}
use Rattle.distances.proofs.Turns.{zero_first, flagged_zero, zero_flagged}
use Rattle.distances.proofs.nearest.from_landmarks.Goals as goal

pub settle_all-requires-clause-zero : goal.settle_all-requires-clause-zero
settle_all-requires-clause-zero c =
    let first : c.in_ok-first_numbers.field-0.items ≡ map first_number c.flags-flags.result.now = c.in_ok-first_numbers.ensures in
    λ y e is. zero_first c.flags-flags.result.now y e (subst (λ l. number_at l y ≡ Some e) first is)

pub settle_all-requires-clause-queue : goal.settle_all-requires-clause-queue
settle_all-requires-clause-queue c =
    let first : c.in_ok-first_numbers.field-0.items ≡ map first_number c.flags-flags.result.now = c.in_ok-first_numbers.ensures in
    let nodes : length c.flags-flags.result.now ≡ c.args.graph.now.nodes = ap length c.flags-flags.ensures ∙ c.requires in
    let done = flag_at c.in_ok-vec.field-0.items in
    subst (λ n. IsQueue n (number_at c.in_ok-first_numbers.field-0.items) done (heap_items c.in_ok-first_waiting.field-0)) nodes
    (subst (λ l. IsQueue (length c.flags-flags.result.now) (number_at l) done (heap_items c.in_ok-first_waiting.field-0)) (sym first) (c.in_ok-first_waiting.ensures.queue done))

pub nearest_each-requires-clause-distances : goal.nearest_each-requires-clause-distances
nearest_each-requires-clause-distances c =
    let flags = c.flags-flags.result.now in
    let first : c.in_ok-first_numbers.field-0.items ≡ map first_number c.flags-flags.result.now = c.in_ok-first_numbers.ensures in
    let after = c.settle_all.new.search.tentative.items in
    let m = c.args.graph.now.edges in
    subst (λ l. IsTable m (IsLandmark flags) (λ _. None) (number_at l)) (sym c.as_slice-2.ensures.value)
    (table_limits m (IsLandmark flags) _ (λ _. None) (number_at after) (λ x. refl)
    (table_from m (IsAtZero c.in_ok-first_numbers.field-0.items) (IsLandmark flags) (λ s t. flagged_zero flags s (subst (λ l. IsAtZero l s) first t)) (λ s t. subst (λ l. IsAtZero l s) (sym first) (zero_flagged flags s t)) _ (number_at after) c.in_ok-pops.ensures.distances))
