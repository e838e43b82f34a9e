-- Packets that are sent arrive, whatever the board publishes between their hops.
use Rattle.std.proofs.Common.{◌≡◌, ◌⊎◌, inl, inr, ℕ, List, [], ◌∷◌, ◌&&◌, nat_lt, is_some, Option, Some, None, Result, Ok, Err, refl, sym, ap, ◌∙◌, subst}
use Rattle.std.proofs.lemmas.Bool.{cond_both}
use Rattle.heavy_labels.specs.Label.{Label}
use Rattle.schemes.specs.declared.parts.Parts.{Parts}
use Rattle.schemes.specs.declared.packet.Address.{Address}
use Rattle.schemes.specs.declared.packet.Home.{Home}
use Rattle.schemes.specs.declared.packet.Packet.{Packet}
use Rattle.schemes.specs.declared.packet.Move.{Move}
use Rattle.schemes.specs.declared.packet.Move.TheVariants.{Delivered, Forward}
use Rattle.schemes.specs.declared.packet.Refused as scheme
use Rattle.schemes.specs.declared.packet.Refused.TheVariants.{NoNode, Unreachable}
use Rattle.schemes.specs.Tables.{Tables, tables}
use Rattle.schemes.specs.Service.{address, decide, by_directory, through_home, packet_by, node_step, one_less, Carries, Arrives}
use Rattle.generations.specs.Boards.{scheme_of}
use Rattle.generations.specs.Beginnings.{Beginning}
use Rattle.forwarders.specs.declared.refused.Refused.{Refused}
use Rattle.forwarders.specs.declared.refused.Refused.TheVariants.{GenerationGone}
use Rattle.forwarders.specs.Answers.{Shelf, by, by_name, named}
use Rattle.forwarders.specs.Arrivals.{IsLawfulList, IsShelfOf, IsPublished, AnswersAreOfOneScheme, MovesOnly, IsCarried, SentPacketsArrive}
use Rattle.forwarders.proofs.Published.{found_published}

-- ---- the one scheme

-- none is found on the shelf, or the one that was published
found : (all : Beginning) (shelf : Shelf) (n : ℕ) (p : Parts) → IsLawfulList all → IsPublished all n p → IsShelfOf all shelf → (scheme_of n shelf ≡ None) ⊎ (scheme_of n shelf ≡ Some p)
found all shelf n p lawful has is = by_case (scheme_of n shelf) refl
  where
    by_case : (o : Option Parts) → scheme_of n shelf ≡ o → (scheme_of n shelf ≡ None) ⊎ (scheme_of n shelf ≡ Some p)
    by_case None e = inl e
    by_case (Some q) e = inr (e ∙ ap (λ (r : Parts). Some r) (found_published all is.0 n p q lawful has is.1.0 (sym (ap (scheme_of n) is.1.1) ∙ e)))

pub answers_are : AnswersAreOfOneScheme
answers_are all shelf p x k answer lawful has is (inl shut) = inl shut
answers_are all shelf p x k answer lawful has is (inr hop) =
    elim (found all shelf k.generation p lawful has is) [
      | inl none ↦ inr (inl (hop ∙ ap (by (λ t. node_step t x k)) none))
      | inr one ↦ inr (inr (hop ∙ ap (by (λ t. node_step t x k)) one))
    ]

-- ---- a packet that is sent

-- it is of the scheme's generation
abbrev IsOf : ℕ → Result Packet scheme.Refused → Type 0
IsOf generation (Ok k) = k.generation ≡ generation
IsOf generation (Err e) = Unit {0}

of_home : (t : Tables) (u : ℕ) (a : Address) (o : Option Home) → IsOf t.generation (through_home t u a o)
of_home t u a None = tt
of_home t u a (Some h) = cond_both (is_some (t.entry u h.landmark)) (Ok (packet_by t a.node h.landmark h.label)) (Err Unreachable) (IsOf t.generation) (λ _. refl) (λ _. tt)

of_directory : (t : Tables) (u : ℕ) (a : Address) (o : Option Label) → IsOf t.generation (by_directory t u a o)
of_directory t u a None = of_home t u a a.home
of_directory t u a (Some l) = refl

of_generation : (t : Tables) (u : ℕ) (a : Address) → IsOf t.generation (decide t u a)
of_generation t u a = cond_both (nat_lt u t.nodes && nat_lt a.node t.nodes) (by_directory t u a (t.listed u a.node)) (Err NoNode) (IsOf t.generation) (λ _. of_directory t u a (t.listed u a.node)) (λ _. tt)

no_answer : (f : Refused) (k : Packet) → ◌≡◌ {A = Result Packet Refused} (Err f) (Ok k) → ⊥
no_answer f k e = cc

as_decided : (r : Result Packet scheme.Refused) (k : Packet) → by_name r ≡ Ok k → r ≡ Ok k
as_decided (Ok j) k e = (let f : ◌≡◌ {A = Result Packet Refused} (Ok j) (Ok k) = e in let g : j ≡ k = cc in cc)
as_decided (Err f) k e = absurd (no_answer (named f) k e)

-- ---- it is carried

carried : (all : Beginning) (p : Parts) → IsLawfulList all → (x : ℕ) (ys qs : List ℕ) (k : Packet) → IsPublished all k.generation p → Carries (tables p) x ys qs k → IsCarried all x ys qs k
carried all p lawful x ys qs k has c = over x ys qs k has c
  where
    only : (x : ℕ) (k : Packet) (move : Move) → IsPublished all k.generation p → node_step (tables p) x k ≡ Ok move → MovesOnly all x k move
    only x k move has step shelf answer is answers =
        elim (answers_are all shelf p x k answer lawful has is answers) [
          | inl shut ↦ inl (inl shut)
          | inr other ↦ elim other [
            | inl gone ↦ inl (inr gone)
            | inr own ↦ inr (own ∙ ap by_name step)
          ]
        ]

    over : (x : ℕ) (ys qs : List ℕ) (k : Packet) → IsPublished all k.generation p → Carries (tables p) x ys qs k → IsCarried all x ys qs k
    over x [] [] k has c = only x k Delivered has c
    over x [] (q ∷ qs) k has c = absurd c
    over x (y ∷ ys) [] k has c = absurd c
    over x (y ∷ ys) (q ∷ qs) k has c = (only x k (Forward q y (one_less k)) has c.0, over y ys qs (one_less k) has c.1)

pub sent_arrive : SentPacketsArrive
sent_arrive all shelf m p u v sent lawful has serves below_u below_v is launched =
    let a = address (tables p) v in
    elim (found all shelf p.generation p lawful has is) [
      | inl none ↦ absurd (no_answer GenerationGone sent (sym (ap (by (λ t. decide t u a)) none) ∙ launched))
      | inr one ↦
          (let decided : decide (tables p) u a ≡ Ok sent = as_decided (decide (tables p) u a) sent (sym (ap (by (λ t. decide t u a)) one) ∙ launched) in
          let generation : sent.generation ≡ p.generation = subst (IsOf p.generation) decided (of_generation (tables p) u a) in
          let arrives : Arrives m (tables p) u v = serves.sent u v sent below_u below_v decided in
          let same : arrives.sent ≡ sent = (let e : ◌≡◌ {A = Result Packet scheme.Refused} (Ok arrives.sent) (Ok sent) = sym arrives.decided ∙ decided in cc) in
          record {
            trip = arrives.trip;
            ports = arrives.ports;
            carried = carried all p lawful u arrives.trip arrives.ports sent (subst (λ (n : ℕ). IsPublished all n p) (sym generation) has)
                (subst (Carries (tables p) u arrives.trip arrives.ports) same arrives.carried);
            lead = arrives.lead;
            good = arrives.good;
          })
    ]
