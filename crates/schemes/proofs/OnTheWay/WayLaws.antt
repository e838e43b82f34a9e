-- The laws of packets on their way.
use Rattle.std.proofs.Common.{◌≡◌, ◌≢◌, ◌⊎◌, inl, inr, ◌<◌, ◌≤◌, ◌+◌, ◌-◌, ℕ, zero, suc, List, [], ◌∷◌, ◌++◌, length, refl, sym, ap, ◌∙◌, subst, arith}
use Rattle.std.specs.Prelude.{Result, Ok, Err}
use Rattle.graph_edits.specs.Edges.{Network}
use Rattle.schemes.specs.declared.packet.Packet.{Packet}
use Rattle.schemes.specs.declared.packet.Move.{Move}
use Rattle.schemes.specs.declared.packet.Move.TheVariants.{Delivered, Forward}
use Rattle.schemes.specs.declared.packet.Refused.{Refused}
use Rattle.schemes.specs.Tables.{Tables}
use Rattle.schemes.specs.Service.{node_step, one_less, Carries, LeadAlong, Arrives}
use Rattle.schemes.specs.Ways.{Went, ServedStayOnCourse, AllComeToAnEnd}
use Rattle.schemes.proofs.Basics.Options.{same_ok, ok_not_err}
use Rattle.schemes.proofs.Serving.Moves.{delivered_not_forward, forward_is}

-- ---- on a course

-- the rest of a trip, from where the packet stands
record Rest (m : Network) (t : Tables) (ys trip : List ℕ) (at : ℕ) (left : Packet) : Type 0 where
  more : List ℕ
  ports : List ℕ
  whole : trip ≡ ys ++ more
  carries : Carries t at more ports left
  lead : LeadAlong m at more ports

rest_of : (m : Network) (t : Tables) (x : ℕ) (ys trip qs : List ℕ) (k : Packet) (at : ℕ) (left : Packet) → Went t x ys k at left → Carries t x trip qs k → LeadAlong m x trip qs → Rest m t ys trip at left
rest_of m t x [] trip qs k at left went carries lead = record {
  more = trip;
  ports = qs;
  whole = refl;
  carries = subst (λ (p : Packet). Carries t at trip qs p) went.1 (subst (λ (y : ℕ). Carries t y trip qs k) went.0 carries);
  lead = subst (λ (y : ℕ). LeadAlong m y trip qs) went.0 lead;
}
rest_of m t x (y ∷ ys) [] [] k at left went carries lead = delivered_not_forward went.0 y went.1 (node_step t x k) carries went.2
rest_of m t x (y ∷ ys) [] (q ∷ qs) k at left went carries lead = absurd carries
rest_of m t x (y ∷ ys) (z ∷ trip) [] k at left went carries lead = absurd carries
rest_of m t x (y ∷ ys) (z ∷ trip) (q ∷ qs) k at left went carries lead =
    let e : ◌≡◌ {A = Result Move Refused} (Ok (Forward went.0 y went.1)) (Ok (Forward q z (one_less k))) = sym went.2 ∙ carries.0 in
    let yz : y ≡ z = cc in
    let kk : went.1 ≡ one_less k = cc in
    let on : Went t z ys (one_less k) at left = subst (λ (p : Packet). Went t z ys p at left) kk (subst (λ (w : ℕ). Went t w ys went.1 at left) yz went.3) in
    let r = rest_of m t z ys trip qs (one_less k) at left on carries.1 lead.1 in
    record { more = r.more; ports = r.ports; whole = ap (λ l. z ∷ l) r.whole ∙ ap (λ (w : ℕ). w ∷ (ys ++ r.more)) (sym yz); carries = r.carries; lead = r.lead }

-- a packet is carried over one trip
one_trip : (t : Tables) (x : ℕ) (ys qs zs ps : List ℕ) (k : Packet) → Carries t x ys qs k → Carries t x zs ps k → ys ≡ zs
one_trip t x [] [] [] [] k c d = refl
one_trip t x [] (q ∷ qs) zs ps k c d = absurd c
one_trip t x (y ∷ ys) [] zs ps k c d = absurd c
one_trip t x [] [] [] (p ∷ ps) k c d = absurd d
one_trip t x [] [] (z ∷ zs) [] k c d = absurd d
one_trip t x (y ∷ ys) (q ∷ qs) [] (p ∷ ps) k c d = absurd d
one_trip t x (y ∷ ys) (q ∷ qs) (z ∷ zs) [] k c d = absurd d
one_trip t x [] [] (z ∷ zs) (p ∷ ps) k c d = delivered_not_forward p z (one_less k) (node_step t x k) c d.0
one_trip t x (y ∷ ys) (q ∷ qs) [] [] k c d = delivered_not_forward q y (one_less k) (node_step t x k) d c.0
one_trip t x (y ∷ ys) (q ∷ qs) (z ∷ zs) (p ∷ ps) k c d =
    let e : ◌≡◌ {A = Result Move Refused} (Ok (Forward q y (one_less k))) (Ok (Forward p z (one_less k))) = sym c.0 ∙ d.0 in
    let yz : y ≡ z = cc in
    let rest = one_trip t z ys qs zs ps (one_less k) (subst (λ (w : ℕ). Carries t w ys qs (one_less k)) yz c.1) d.1 in
    ap (λ (w : ℕ). w ∷ ys) yz ∙ ap (λ l. z ∷ l) rest

-- a step that carries on, or delivers, is no refusal
no_refusal : (t : Tables) (at : ℕ) (more ports : List ℕ) (left : Packet) (refused : Refused) → Carries t at more ports left → node_step t at left ≢ Err refused
no_refusal t at [] [] left refused c e = ok_not_err c e
no_refusal t at [] (q ∷ qs) left refused c e = c
no_refusal t at (z ∷ more) [] left refused c e = c
no_refusal t at (z ∷ more) (q ∷ qs) left refused c e = ok_not_err c.0 e

pub course_law : ServedStayOnCourse
course_law m t serves u v sent visited at left i j decided went =
    let arrives : Arrives m t u v = serves.sent u v sent i j decided in
    let same : arrives.sent ≡ sent = same_ok arrives.decided decided in
    let carried : Carries t u arrives.trip arrives.ports sent = subst (λ (k : Packet). Carries t u arrives.trip arrives.ports k) same arrives.carried in
    let r = rest_of m t u visited arrives.trip arrives.ports sent at left went carried arrives.lead in
    record {
      arrives = arrives;
      only = λ (other : Arrives m t u v). one_trip t u other.trip other.ports arrives.trip arrives.ports arrives.sent
          (subst (λ (k : Packet). Carries t u other.trip other.ports k) (same_ok other.decided arrives.decided) other.carried) arrives.carried;
      more = r.more;
      ports = r.ports;
      beginning = r.whole;
      carried = r.carries;
      lead = r.lead;
      unrefused = λ refused. no_refusal t at r.more r.ports left refused r.carries;
    }

-- ---- to an end

-- the end of a way, over no more edges than the packet has hops left
record End (t : Tables) (x : ℕ) (k : Packet) : Type 0 where
  visited : List ℕ
  at : ℕ
  left : Packet
  went : Went t x visited k at left
  few : length visited ≤ k.hops_left
  inside : visited ≡ [] ⊎ (k.hops_left < t.nodes)
  last : (node_step t at left ≡ Ok Delivered) ⊎ ((refused : Refused) × (node_step t at left ≡ Err refused))

ends_here : (t : Tables) (x : ℕ) (k : Packet) → (node_step t x k ≡ Ok Delivered) ⊎ ((refused : Refused) × (node_step t x k ≡ Err refused)) → End t x k
ends_here t x k last = record { visited = []; at = x; left = k; went = (refl, refl); few = omega arith; inside = inl refl; last = last }

-- by one step, where the ends of ways with fewer hops left are known
end_by : (t : Tables) (x : ℕ) (k : Packet) → ((y : ℕ) (next : Packet) → next.hops_left < k.hops_left → End t y next) → (o : Result Move Refused) → node_step t x k ≡ o → End t x k
end_by t x k again (Err refused) e = ends_here t x k (inr (refused, e))
end_by t x k again (Ok Delivered) e = ends_here t x k (inl e)
end_by t x k again (Ok (Forward q y next)) e =
    let f = forward_is t x k q y next e in
    let hops : next.hops_left ≡ k.hops_left - 1 = ap (λ (p : Packet). p.hops_left) f.less in
    let some = f.some in
    let rest = again y next (omega (arith, hops, some)) in
    let few = rest.few in
    record {
      visited = y ∷ rest.visited;
      at = rest.at;
      left = rest.left;
      went = (q, next, e, rest.went);
      few = omega (arith, few, hops, some);
      inside = inr f.below;
      last = rest.last;
    }

end_from : (t : Tables) (most : ℕ) (x : ℕ) (k : Packet) → k.hops_left ≤ most → End t x k
end_from t zero x k le = end_by t x k (λ y next less. absurd (omega (arith, less, le))) (node_step t x k) refl
end_from t (suc most) x k le = end_by t x k (λ y next less. end_from t most y next (omega (arith, less, le))) (node_step t x k) refl

pub end_law : AllComeToAnEnd
end_law t x k =
    let end = end_from t k.hops_left x k (omega arith) in
    record {
      visited = end.visited;
      at = end.at;
      left = end.left;
      went = end.went;
      few = elim end.inside [
        | inl none ↦ (let l = ap (λ (ys : List ℕ). length ys) none in omega (arith, l))
        | inr inside ↦ (let f = end.few in omega (arith, f, inside))
      ];
      last = end.last;
    }
