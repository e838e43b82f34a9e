-- Every packet comes to an end.
use Rattle.std.proofs.Common.{◌≡◌, ℕ, zero, suc, ◌-◌, ◌<◌, max, eqb, ltb, Option, Some, None, Result, Ok, Err, refl, sym, subst, inl, inr, arith}
use Rattle.std.proofs.lemmas.Bool.{cond_both, ltb-true, eqb-false}
use Rattle.heavy_labels.specs.Numbering.{Step, arrived, port, no_parent, no_light, step}
use Rattle.heavy_labels.specs.Stepped.{record_of}
use Rattle.schemes.specs.Entry.{Entry}
use Rattle.schemes.specs.declared.parts.Parts.{Parts}
use Rattle.schemes.specs.declared.packet.Packet.{Packet}
use Rattle.schemes.specs.declared.packet.Move.{Move}
use Rattle.schemes.specs.declared.packet.Move.TheVariants.{Delivered, Forward}
use Rattle.schemes.specs.declared.packet.Refused as scheme
use Rattle.schemes.specs.declared.packet.Refused.TheVariants.{NoNode, Stray, Spent}
use Rattle.schemes.specs.Tables.{Tables, tables}
use Rattle.schemes.specs.Service.{node_step, move_at, move_by, forward_over, one_less}
use Rattle.generations.specs.Boards.{scheme_of}
use Rattle.forwarders.specs.declared.refused.Refused.{Refused}
use Rattle.forwarders.specs.Answers.{Shelf, IsAnswer, by, by_name, hop_at}
use Rattle.forwarders.specs.Laws.{EndsUnless, EndsWithin, EveryPacketEnds, later, nodes_of}

-- ---- one hop less

-- an answer by which a packet goes on with one hop less, if it goes on: some were left, and fewer than n
abbrev pub HasOneLess : {E : Type 0} → ℕ → Packet → Result Move E → Type 0
HasOneLess n k (Err e) = Unit {0}
HasOneLess n k (Ok Delivered) = Unit {0}
HasOneLess n k (Ok (Forward q y j)) = (j ≡ one_less k) × ((0 < k.hops_left) × (k.hops_left < n))

over_port : (n : ℕ) (k : Packet) (q : ℕ) (o : Option ℕ) → k.hops_left < n → HasOneLess n k (forward_over k q o)
over_port n k q None lt = tt
over_port n k q (Some y) lt =
    cond_both (eqb k.hops_left 0) (Err Spent) (Ok (Forward q y (one_less k))) (HasOneLess n k) (λ _. tt)
    (λ e. (refl, (omega (arith, eqb-false _ _ e), lt)))

by_step : (t : Tables) (x : ℕ) (k : Packet) (s : Step) → k.hops_left < t.nodes → HasOneLess t.nodes k (move_by t x k s)
by_step t x k arrived lt = cond_both (eqb x k.destination) (Ok Delivered) (Err Stray) (HasOneLess t.nodes k) (λ _. tt) (λ _. tt)
by_step t x k (port q) lt = over_port t.nodes k q (t.over x q) lt
by_step t x k no_parent lt = tt
by_step t x k no_light lt = tt

by_entry : (t : Tables) (x : ℕ) (k : Packet) (o : Option Entry) → k.hops_left < t.nodes → HasOneLess t.nodes k (move_at t x k o)
by_entry t x k None lt = tt
by_entry t x k (Some e) lt = by_step t x k (step (record_of e.tree_record) k.label) lt

stepped : (t : Tables) (x : ℕ) (k : Packet) → HasOneLess t.nodes k (node_step t x k)
stepped t x k =
    cond_both (ltb x t.nodes) _ (Err NoNode) (HasOneLess t.nodes k)
    (λ _. cond_both (ltb k.hops_left t.nodes) (move_at t x k (t.entry x k.root)) (Err Stray) (HasOneLess t.nodes k) (λ e. by_entry t x k (t.entry x k.root) (ltb-true _ _ e)) (λ _. tt))
    (λ _. tt)

as_named : (n : ℕ) (k : Packet) (r : Result Move scheme.Refused) → HasOneLess n k r → HasOneLess n k (by_name r)
as_named n k (Err e) h = tt
as_named n k (Ok Delivered) h = tt
as_named n k (Ok (Forward q y j)) h = h

-- what a forwarder answers
pub hop_has_one_less : (shelf : Shelf) (x : ℕ) (k : Packet) → HasOneLess (nodes_of (scheme_of k.generation shelf)) k (hop_at x k shelf)
hop_has_one_less shelf x k = found (scheme_of k.generation shelf)
  where
    more : (n : ℕ) (r : Result Move Refused) → HasOneLess n k r → HasOneLess (max 1 n) k r
    more n (Err e) h = tt
    more n (Ok Delivered) h = tt
    more n (Ok (Forward q y j)) h = (h.0, (h.1.0, omega (arith, h.1.1)))

    found : (o : Option Parts) → HasOneLess (nodes_of o) k (by (λ t. node_step t x k) o)
    found None = tt
    found (Some p) = more p.nodes (by_name (node_step (tables p) x k)) (as_named p.nodes k (node_step (tables p) x k) (stepped (tables p) x k))

-- ---- the end

ends_by : (Next : ℕ → Packet → Type 0) (n : ℕ) (k : Packet) (r : Result Move Refused) → HasOneLess n k r
    → ((y : ℕ) → 0 < k.hops_left → k.hops_left < n → Next y (one_less k)) → EndsUnless Next r
ends_by Next n k (Err e) h next = tt
ends_by Next n k (Ok Delivered) h next = tt
ends_by Next n k (Ok (Forward q y j)) h next = subst (Next y) (sym h.0) (next y h.1.0 h.1.1)

-- whichever of these the answer is
by_answer : (Next : ℕ → Packet → Type 0) (shelf : Shelf) (x : ℕ) (k : Packet) (answer : Result Move Refused) → IsAnswer shelf x k answer
    → ((y : ℕ) → 0 < k.hops_left → k.hops_left < nodes_of (scheme_of k.generation shelf) → Next y (one_less k)) → EndsUnless Next answer
by_answer Next shelf x k answer (inl shut) next = subst (EndsUnless Next) (sym shut) tt
by_answer Next shelf x k answer (inr hop) next =
    subst (EndsUnless Next) (sym hop) (ends_by Next (nodes_of (scheme_of k.generation shelf)) k (hop_at x k shelf) (hop_has_one_less shelf x k) next)

ends_left : (n : ℕ) (shelves : ℕ → Shelf) (x : ℕ) (k : Packet) → k.hops_left < n → EndsWithin n shelves x k
ends_left zero shelves x k lt = absurd (omega (arith, lt))
ends_left (suc n) shelves x k lt = λ answer is.
    by_answer (EndsWithin n (later shelves)) (shelves 0) x k answer is (λ y some few. ends_left n (later shelves) y (one_less k) (omega (arith, some, lt)))

some_node : (o : Option Parts) → 0 < nodes_of o
some_node None = omega arith
some_node (Some p) = omega arith

pub every_packet_ends : EveryPacketEnds
every_packet_ends shelves x k =
    let most = nodes_of (scheme_of k.generation (shelves 0)) in
    let n = most - 1 in
    let all : suc n ≡ most = omega (arith, some_node (scheme_of k.generation (shelves 0))) in
    subst (λ m. EndsWithin m shelves x k) all (λ answer is.
    by_answer (EndsWithin n (later shelves)) (shelves 0) x k answer is (λ y some few. ends_left n (later shelves) y (one_less k) (omega (arith, some, few))))
