use Rattle.std.proofs.Common.{◌≡◌, ◌<◌, Some, None, length, map, ◌&&◌, true, set, arith, subst, sym, ap, ◌∙◌}
use Rattle.std.specs.BinaryHeap.{heap_items}
use Rattle.distances.specs.declared.search.Settled.{Settled}
use Rattle.std.specs.List.{All}
use Rattle.distances.specs.Search.{number_at, flag_at, offered, is_below, is_better, IsAtZero, EachSettled, degrees}
use Rattle.distances.specs.Reach.{degrees_of, settled_of}
use Rattle.distances.specs.Workspace.{reached_of}
use Rattle.distances.specs.Waiting.{IsQueue, IsJoined}
use Rattle.distances.proofs.Queues.{queue_empty, queue_offered, heap_empty, joined_length}
use Rattle.distances.proofs.Trees.{only_root, root_is, table_from, tree_done, degrees_members, reached_each, listed_members}
use Rattle.distances.proofs.Arrived.{first_each, ports_each}
use Rattle.distances.specs.Arrivals.{arrival_at, parent_by, IsOverPort}
use Rattle.std.specs.Option.{IfSome}
use Rattle.distances.proofs.workspace.find_tree.Goals as goal

pub settle_all-requires-clause-queue : goal.settle_all-requires-clause-queue
settle_all-requires-clause-queue c =
    let n = c.args.graph.now.nodes in
    let numbers = c.args.search.now.tentative.items in
    let root = c.args.root in
    let done = flag_at c.args.search.now.settled.items in
    let xs = heap_items c.args.search.now.waiting in
    let ys = heap_items c.offer.new.waiting in
    let start : Settled = record { distance = 0; node = c.args.root } in
    let none : number_at c.args.search.now.tentative.items c.args.root ≡ None = c.requires.clean.none_numbered c.args.root in
    let within : c.args.root < length c.args.search.now.tentative.items = omega (arith, c.requires.root, c.requires.nodes) in
    let first = queue_empty n (number_at numbers) done xs c.requires.clean.none_waits c.requires.clean.none_numbered in
    let joined = subst (λ o. IsJoined (is_below 0 None && is_better 0 o) start xs ys) (sym none) c.in_ok-search.ensures.joined in
    let number : offered None 0 (number_at c.args.search.now.tentative.items c.args.root) ≡ c.in_ok-search.field-0 = ap (offered None 0) none ∙ sym c.in_ok-search.ensures.number in
    subst (λ o. IsQueue n (number_at (set numbers root o)) done ys) number (queue_offered n numbers done xs ys None start c.requires.root within first joined)

pub settle_all-requires-clause-heap : goal.settle_all-requires-clause-heap
settle_all-requires-clause-heap c = c.in_ok-search.ensures.order (heap_empty (heap_items c.args.search.now.waiting) c.requires.clean.none_waits)

pub settle_all-requires-clause-few : goal.settle_all-requires-clause-few
settle_all-requires-clause-few c =
    let one = joined_length true (record { distance = 0; node = c.args.root }) (heap_items c.args.search.now.waiting) (heap_items c.offer.new.waiting) c.in_ok-search.ensures.joined in
    let none = ap length c.requires.clean.none_waits in
    omega (arith, one, none, c.requires.root)

pub returns-clause-degrees : goal.returns-clause-degrees
returns-clause-degrees c =
    let one = joined_length true (record { distance = 0; node = c.args.root }) (heap_items c.args.search.now.waiting) (heap_items c.offer.new.waiting) c.in_ok-search.ensures.joined in
    let none = ap length c.requires.clean.none_waits in
    let order : degrees c.args.graph.now c.settle_all.new.search.order.items ≡ degrees_of c.args.graph.now (reached_of c.link_all.new.members.items) =
    ap (degrees c.args.graph.now) (sym (c.in_ok-link_all.ensures.order ∙ c.as_slice.ensures.value)) ∙ degrees_members c.args.graph.now (reached_of c.link_all.new.members.items) in
    omega (arith, one, none, order, c.in_ok-pops.ensures.pops)

pub returns-clause-edges : goal.returns-clause-edges
returns-clause-edges c =
    let one = joined_length true (record { distance = 0; node = c.args.root }) (heap_items c.args.search.now.waiting) (heap_items c.offer.new.waiting) c.in_ok-search.ensures.joined in
    let none = ap length c.requires.clean.none_waits in
    omega (arith, one, none, c.in_ok-pops.ensures.pops, c.in_ok-pops.ensures.edges)

pub returns-clause-tree : goal.returns-clause-tree
returns-clause-tree c =
    let g = c.args.graph.now in
    let root = c.args.root in
    let limit = number_at c.args.limits.now in
    let number = number_at c.settle_all.new.search.tentative.items in
    let first = set c.args.search.now.tentative.items c.args.root c.in_ok-search.field-0 in
    let start : set c.args.search.now.tentative.items c.args.root c.in_ok-search.field-0 ≡ set c.args.search.now.tentative.items c.args.root (Some 0) = ap (λ o. set c.args.search.now.tentative.items c.args.root o) c.in_ok-search.ensures.number in
    let within : c.args.root < length c.args.search.now.tentative.items = omega (arith, c.requires.root, c.requires.nodes) in
    let table = table_from g.edges (IsAtZero first) (λ s. s ≡ root) (λ s t. only_root c.args.search.now.tentative.items root s c.requires.clean.none_numbered (subst (λ l. IsAtZero l s) start t))
    (λ s e. subst (λ l. IsAtZero l s) (sym start) (root_is c.args.search.now.tentative.items root s within e)) limit number c.in_ok-pops.ensures.distances in
    let same : map settled_of (reached_of c.link_all.new.members.items) ≡ c.settle_all.new.search.order.items = c.in_ok-link_all.ensures.order ∙ c.as_slice.ensures.value in
    tree_done g c.nodes-sound.ensures.sound root limit number c.requires.gentle table c.settle_all.new.search.order.items c.in_ok-pops.ensures.listing c.in_ok-pops.ensures.order.ascending
    (reached_of c.link_all.new.members.items) same
    (first_each g c.nodes-sound.ensures.sound number (arrival_at c.settle_all.new.search.arrivals.items) c.in_ok-pops.ensures.arrivals (reached_of c.link_all.new.members.items)
    (listed_members number (reached_of c.link_all.new.members.items) (subst (EachSettled (λ x d. number x ≡ Some d)) (sym same) c.in_ok-pops.ensures.listing.listed))
    (reached_each (λ r. r.parent ≡ parent_by (arrival_at c.settle_all.new.search.arrivals.items r.node)) c.link_all.new.members.items
    (subst (λ a. All (λ m. m.reached.parent ≡ parent_by (arrival_at a m.reached.node)) c.link_all.new.members.items) c.as_slice-2.ensures.value c.in_ok-link_all.ensures.parents)))

pub link_all-requires-clause-ports : goal.link_all-requires-clause-ports
link_all-requires-clause-ports c =
    let g = c.args.graph.now in
    let number = number_at c.settle_all.new.search.tentative.items in
    let arrival = arrival_at c.settle_all.new.search.arrivals.items in
    subst (All (λ s. IfSome (arrival_at c.as_slice-2.result.now s.node) (IsOverPort g s.node))) (sym c.as_slice.ensures.value)
    (subst (λ a. All (λ s. IfSome (arrival_at a s.node) (IsOverPort g s.node)) c.settle_all.new.search.order.items) (sym c.as_slice-2.ensures.value) (ports_each g number arrival c.in_ok-pops.ensures.arrivals c.settle_all.new.search.order.items c.in_ok-pops.ensures.listing.listed))
