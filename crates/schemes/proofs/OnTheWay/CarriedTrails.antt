-- What a packet does on its way is what the law says of it: from each hop's node step to the trail.
use Rattle.std.proofs.Common.{◌≡◌, inl, inr, ℕ, ◌+◌, ◌-◌, ◌*◌, ◌^◌, ◌≤◌, ◌<◌, min, sym, refl, ap, subst, ◌∙◌, arith, List, [], ◌∷◌, ◌++◌, length}
use Rattle.std.specs.Prelude.{Result, Ok, Err}
use Rattle.std.proofs.lemmas.List.{append-nil}
use Rattle.graph_edits.specs.Edges.{Network, IsSound, neighbours_of, greatest_weight}
use Rattle.graph_edits.specs.Walks.{walk_length}
use Rattle.schemes.specs.declared.parts.Parts.{Parts}
use Rattle.schemes.specs.declared.packet.Address.{Address}
use Rattle.schemes.specs.declared.packet.Packet.{Packet}
use Rattle.schemes.specs.declared.packet.Move.TheVariants.{Delivered, Forward}
use Rattle.schemes.specs.declared.packet.Refused.{Refused}
use Rattle.schemes.specs.declared.trail.Trail.{Trail}
use Rattle.schemes.specs.declared.trail.CarryRefused.{CarryRefused}
use Rattle.schemes.specs.Tables.{Tables, tables}
use Rattle.schemes.specs.Checks.{IsChecked}
use Rattle.schemes.specs.Service.{address, decide, node_step, one_less, IsGoodTrip, LeadAlong}
use Rattle.schemes.specs.Trails.{gap, AreMeasured, length_along, Goes, IsUnderWay, IsTrailOf, IsRefusedOnWay, as_carried, IsGoodTrail, IsCarriedWhereConnected, IsUnreachableWhereApart}
use Rattle.schemes.proofs.Basics.Options.{same_ok, ok_not_err}
use Rattle.schemes.proofs.Serving.StepsAsMoves.{Ports, Passes}
use Rattle.schemes.proofs.Serving.Moves.{delivered_not_forward, forward_is, get_map}
use Rattle.schemes.proofs.Serving.CheckedLaw.{Journey, journey, no_journey, laws_of}

-- ---- one hop more

goes_more : (t : Tables) (x : ℕ) (ys qs : List ℕ) (k : Packet) (at : ℕ) (left : Packet) (q y : ℕ) → Goes t x ys qs k at left → node_step t at left ≡ Ok (Forward q y (one_less left))
    → Goes t x (ys ++ y ∷ []) (qs ++ q ∷ []) k y (one_less left)
goes_more t x [] [] k at left q y g h = (ap (λ z. node_step t z k) g.0 ∙ ap (λ z. node_step t at z) g.1 ∙ h ∙ ap (λ z. Ok (Forward q y (one_less z))) (sym g.1), (refl, ap one_less g.1))
goes_more t x [] (p ∷ qs) k at left q y g h = absurd g
goes_more t x (z ∷ ys) [] k at left q y g h = absurd g
goes_more t x (z ∷ ys) (p ∷ qs) k at left q y g h = (g.0, goes_more t z ys qs (one_less k) at left q y g.1 h)

along_more : (t : Tables) (r x : ℕ) (ys qs : List ℕ) (k : Packet) (at : ℕ) (left : Packet) (y : ℕ) → Goes t x ys qs k at left → length_along t r x (ys ++ y ∷ []) ≡ length_along t r x ys + gap t r at y
along_more t r x [] [] k at left y g = (let e : gap t r x y ≡ gap t r at y = ap (λ z. gap t r z y) g.0 in omega (arith, e))
along_more t r x [] (p ∷ qs) k at left y g = absurd g
along_more t r x (z ∷ ys) [] k at left y g = absurd g
along_more t r x (z ∷ ys) (p ∷ qs) k at left y g = (let ih = along_more t r z ys qs (one_less k) at left y g.1 in omega (arith, ih))

capped : (a b g c : ℕ) → a ≡ min b c → min (a + g) c ≡ min (b + g) c
capped a b g c e = omega (arith, e)

pub under_way_more : (t : Tables) (u : ℕ) (a : Address) (nodes ports : List ℕ) (len at : ℕ) (left : Packet) (q y : ℕ) (next : Packet) → IsUnderWay t u a nodes ports len at left
    → node_step t at left ≡ Ok (Forward q y next) → IsUnderWay t u a (nodes ++ y ∷ []) (ports ++ q ∷ []) (min (len + gap t left.root at y) (2 ^ 64 - 1)) y next
under_way_more t u a nodes ports len at left q y next h e =
    let f = forward_is t at left q y next e in
    let step_is : node_step t at left ≡ Ok (Forward q y (one_less left)) = e ∙ ap (λ z. Ok (Forward q y z)) f.less in
    let long = along_more t h.sent.root u h.rest ports h.sent at left y h.goes in
    let same : gap t left.root at y ≡ gap t h.sent.root at y = ap (λ z. gap t z at y) h.same_root in
    record {
      sent = h.sent;
      decided = h.decided;
      rest = h.rest ++ y ∷ [];
      starts = ap (λ z. z ++ y ∷ []) h.starts;
      goes = subst (Goes t u (h.rest ++ y ∷ []) (ports ++ q ∷ []) h.sent y) (sym f.less) (goes_more t u h.rest ports h.sent at left q y h.goes step_is);
      same_root = ap (λ (z : Packet). z.root) f.less ∙ h.same_root;
      long = capped len (length_along t h.sent.root u h.rest) (gap t left.root at y) (2 ^ 64 - 1) h.long ∙ ap (λ z. min z (2 ^ 64 - 1)) (ap (λ z. length_along t h.sent.root u h.rest + z) same ∙ sym long);
    }

-- the same, where the trail was lengthened by the hop
pub under_way_next : (t : Tables) (u : ℕ) (a : Address) (nodes ports : List ℕ) (len at : ℕ) (left : Packet) (q y : ℕ) (next : Packet) (nodes2 ports2 : List ℕ) (len2 hop : ℕ)
    → IsUnderWay t u a nodes ports len at left → node_step t at left ≡ Ok (Forward q y next) → nodes2 ≡ nodes ++ y ∷ [] → ports2 ≡ ports ++ q ∷ [] → hop ≡ gap t left.root at y
    → len2 ≡ min (len + hop) (2 ^ 64 - 1) → IsUnderWay t u a nodes2 ports2 len2 y next
under_way_next t u a nodes ports len at left q y next nodes2 ports2 len2 hop h e e1 e2 e3 e4 =
    subst (λ z. IsUnderWay t u a z ports2 len2 y next) (sym e1) (subst (λ z. IsUnderWay t u a (nodes ++ y ∷ []) z len2 y next) (sym e2)
    (subst (λ z. IsUnderWay t u a (nodes ++ y ∷ []) (ports ++ q ∷ []) z y next) (sym (e4 ∙ ap (λ z. min (len + z) (2 ^ 64 - 1)) e3)) (under_way_more t u a nodes ports len at left q y next h e)))

-- ---- the way that is carried is the only one

carried_on : (t : Tables) (x : ℕ) (trip ys qs : List ℕ) (k : Packet) (at : ℕ) (left : Packet) → Passes t x trip k → Goes t x ys qs k at left
    → (more : List ℕ) × (Passes t at more left × (trip ≡ ys ++ more))
carried_on t x trip [] [] k at left c g = (trip, (subst (λ z. Passes t z trip left) g.0 (subst (Passes t x trip) g.1 c), refl))
carried_on t x trip [] (q ∷ qs) k at left c g = absurd g
carried_on t x trip (y ∷ ys) [] k at left c g = absurd g
carried_on t x [] (y ∷ ys) (q ∷ qs) k at left c g = absurd (delivered_not_forward q y (one_less k) (node_step t x k) c g.0)
carried_on t x (z ∷ trip) (y ∷ ys) (q ∷ qs) k at left c g =
    let same : z ≡ y = same_node (same_ok c.0.1 g.0) in
    let ih = carried_on t y trip ys qs (one_less k) at left (subst (λ w. Passes t w trip (one_less k)) same c.1) g.1 in
    (ih.0, (ih.1.0, ap (λ w. w ∷ trip) same ∙ ap (λ w. y ∷ w) ih.1.1))
  where
    same_node : {q p y z : ℕ} {a b : Packet} → Forward q y a ≡ Forward p z b → y ≡ z
    same_node e = cc

ends_there : (t : Tables) (at : ℕ) (more : List ℕ) (left : Packet) → Passes t at more left → node_step t at left ≡ Ok Delivered → more ≡ []
ends_there t at [] left c d = refl
ends_there t at (y ∷ more) left c d = absurd (delivered_not_forward c.0.0 y (one_less left) (node_step t at left) d c.0.1)

never_refused : (t : Tables) (at : ℕ) (more : List ℕ) (left : Packet) (r : Refused) → Passes t at more left → node_step t at left ≡ Err r → ⊥
never_refused t at [] left r c d = ok_not_err c d
never_refused t at (y ∷ more) left r c d = ok_not_err c.0.1 d

-- ---- ports and length

leads : (m : Network) (t : Tables) → Ports m t → (x : ℕ) (ys qs : List ℕ) (k : Packet) (at : ℕ) (left : Packet) → Goes t x ys qs k at left → LeadAlong m x ys qs
leads m t ports x [] [] k at left g = tt
leads m t ports x [] (q ∷ qs) k at left g = absurd g
leads m t ports x (y ∷ ys) [] k at left g = absurd g
leads m t ports x (y ∷ ys) (q ∷ qs) k at left g =
    let f = forward_is t x k q y (one_less k) g.0 in
    let i : x < m.nodes = subst (λ n. x < n) ports.nodes f.inside in
    (sym (get_map (λ e. e.0) (neighbours_of m x) q) ∙ sym (ports.over x q i) ∙ f.behind, leads m t ports y ys qs (one_less k) at left g.1)

measured_length : (m : Network) (t : Tables) (r x : ℕ) (ys : List ℕ) → AreMeasured m t r x ys → length_along t r x ys ≡ walk_length m.edges x ys
measured_length m t r x [] h = refl
measured_length m t r x (y ∷ ys) h =
    let ih = measured_length m t r y ys h.1 in
    rw h.0 (ap (λ z. gap t r x y + z) ih)

measured_short : (m : Network) → IsSound m → (t : Tables) (r x : ℕ) (ys : List ℕ) → AreMeasured m t r x ys → length_along t r x ys ≤ length ys * greatest_weight
measured_short m s t r x [] h = omega arith
measured_short m s t r x (y ∷ ys) h =
    let ih = measured_short m s t r y ys h.1 in
    let w = s.weighted x y (gap t r x y) h.0 in
    omega (arith, ih, w.1)

no_cap : (a b c : ℕ) → a ≡ min b c → b ≤ c → a ≡ b
no_cap a b c e l = omega (arith, e, l)

short_enough : (m : Network) → IsSound m → (t : Tables) (r x : ℕ) (ys : List ℕ) → AreMeasured m t r x ys → length ys < m.nodes → length_along t r x ys ≤ 2 ^ 64 - 1
short_enough m s t r x ys h few = (let l = measured_short m s t r x ys h in let n = s.nodes_fit.1 in omega (arith, l, few, n))

-- ---- what `carry` answers

good_trail : (m : Network) → IsSound m → (p : Parts) → IsChecked m p → (u v : ℕ) (a : Address) (trail : Trail) → Journey m (tables p) u v → a ≡ address (tables p) v → IsTrailOf (tables p) u a trail → IsGoodTrail m u v trail
good_trail m s p h u v a trail j is k =
    let t = tables p in
    let way = k.under_way in
    let sent = same_ok (ap (decide t u) (sym is) ∙ way.decided) j.decided in
    let on = carried_on t u j.trip way.rest trail.ports.items way.sent k.at k.left (subst (Passes t u j.trip) (sym sent) j.carried) way.goes in
    let trip : j.trip ≡ way.rest = on.1.1 ∙ ap (λ z. way.rest ++ z) (ends_there t k.at on.0 k.left on.1.0 k.delivered) ∙ append-nil way.rest in
    let good = subst (IsGoodTrip m u v) trip j.good in
    let measured = subst (λ z. AreMeasured m t z.root u way.rest) (sym sent) (subst (AreMeasured m t j.sent.root u) trip j.measured) in
    record {
      trip = way.rest;
      nodes = way.starts;
      good = good;
      ports = leads m t (laws_of m s p h).ports u way.rest trail.ports.items way.sent k.at k.left way.goes;
      length = no_cap trail.length (length_along t way.sent.root u way.rest) (2 ^ 64 - 1) way.long (short_enough m s t way.sent.root u way.rest measured good.few) ∙ measured_length m t way.sent.root u way.rest measured;
    }

pub connected_ok : (p : Parts) (u : ℕ) (a : Address) (trail : Trail) → IsTrailOf (tables p) u a trail → IsCarriedWhereConnected p u a (Ok trail)
connected_ok p u a trail k m v xs s h i j is w = good_trail m s p h u v a trail (journey m (tables p) (laws_of m s p h) u v xs i j w) is k

pub connected_refused : (p : Parts) (u : ℕ) (a : Address) (r : Refused) → IsRefusedOnWay (tables p) u a r → IsCarriedWhereConnected p u a (Err (as_carried r))
connected_refused p u a r k m v xs s h i j is w = absurd (
    let t = tables p in
    let way = journey m t (laws_of m s p h) u v xs i j w in
    let decided : decide t u a ≡ Ok way.sent = ap (decide t u) is ∙ way.decided in
    elim k [
      | inl e ↦ ok_not_err decided e
      | inr e ↦ (
          let on_way = e.1.1.1.1.1.0 in
          let sent = same_ok on_way.decided decided in
          let on = carried_on t u way.trip on_way.rest e.1.0 on_way.sent e.1.1.1.0 e.1.1.1.1.0 (subst (Passes t u way.trip) (sym sent) way.carried) on_way.goes in
          never_refused t e.1.1.1.0 on.0 e.1.1.1.1.0 r on.1.0 e.1.1.1.1.1.1)
    ])

pub apart_ok : (p : Parts) (u : ℕ) (a : Address) (sent : Packet) (result : Result Trail CarryRefused) → decide (tables p) u a ≡ Ok sent → IsUnreachableWhereApart p u a result
apart_ok p u a sent result d m v s h i j is none = absurd (ok_not_err d (ap (decide (tables p) u) is ∙ no_journey m (tables p) (laws_of m s p h) u v i j none))

pub apart_refused : (p : Parts) (u : ℕ) (a : Address) (r : Refused) → decide (tables p) u a ≡ Err r → IsUnreachableWhereApart p u a (Err (as_carried r))
apart_refused p u a r d m v s h i j is none =
    let e = ap (decide (tables p) u) is ∙ no_journey m (tables p) (laws_of m s p h) u v i j none in
    ap (λ z. Err (as_carried z)) (same_refusal d e)
  where
    same_refusal : {a b : Refused} {o : Result Packet Refused} → o ≡ Err a → o ≡ Err b → a ≡ b
    same_refusal e f = cc
