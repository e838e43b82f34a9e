-- One turn of the loops of the search.
use Rattle.std.proofs.Common.{◌≡◌, ℕ, zero, suc, ◌+◌, ◌<◌, ◌≤◌, Bool, true, false, cond, ◌&&◌, ◌≢◌, ◌⊎◌, inl, inr, List, [], ◌∷◌, ◌++◌, map, length, get_or, set, replicate, Option, Some, None, eqb, ltb, refl, sym, ap, ◌∙◌, subst, arith, get_or-set_same, get_or-set_other}
use Rattle.std.specs.List.{All}
use Rattle.distances.proofs.Progress.{Progress, IsNext, progress_step}
use Rattle.std.proofs.lemmas.Bool.{cases_eq, and_parts}
use Rattle.std.proofs.Math.Bool.{and-false}
use Rattle.distances.specs.Arrivals.{is_nearer}
use Rattle.std.proofs.lemmas.Bool.Decides.{nat_tests}
use Rattle.std.proofs.lemmas.List.{get_or_default}
use Rattle.std.proofs.lemmas.Option.{same_Some, none-some}
use Rattle.graph_edits.specs.Edges.{EdgeMap, Network, weight_between, weight_in, neighbours_of, IsSound}
use Rattle.graph_edits.specs.Laws.{All-neighbours_of, Contains-neighbours_of}
use Rattle.distances.specs.declared.search.Settled.{Settled}
use Rattle.distances.specs.Search.{is_below, is_better, offered, flag_at, number_at, first_number, IsRelaxed, IsAtZero}

-- ---- what the offers keep

-- after the offers to the first i of the neighbours `es`
pub record IsRelaxing (m : EdgeMap) (limit : ℕ → Option ℕ) (x d : ℕ) (before after : ℕ → Option ℕ) (es : List (ℕ × ℕ)) (i : ℕ) : Type 0 where
  pub changed : (y : ℕ) → (after y ≡ before y) ⊎ ((w : ℕ) × ((weight_between m x y ≡ Some w) × (after y ≡ Some (d + w)) × (is_below (d + w) (limit y) ≡ true) × (is_better (d + w) (before y) ≡ true)))
  pub reached : (k : ℕ) → k < i → is_below (d + (get_or es k (0, 0)).1) (limit (get_or es k (0, 0)).0) ≡ true
      → (e : ℕ) × ((after (get_or es k (0, 0)).0 ≡ Some e) × (e ≤ d + (get_or es k (0, 0)).1))

-- how many flags do not stand
abbrev pub count_open : List Bool → ℕ
count_open [] = 0
count_open (b ∷ bs) = cond b 0 1 + count_open bs

-- ---- the offers

pub number_set : (tentative : List (Option ℕ)) (y z : ℕ) (o : Option ℕ) → y < length tentative → number_at (set tentative y o) z ≡ cond (eqb z y) o (number_at tentative z)
number_set tentative y z o lt = elim (cases_eq z y) [
  | inl e ↦ subst (λ k. number_at (set tentative y o) k ≡ cond (eqb k y) o (number_at tentative k)) (sym e) (get_or-set_same tentative y o None lt ∙ (let t : eqb y y ≡ true = grind (arith, nat_tests) in ap (λ b. cond b o (number_at tentative y)) (sym t)))
  | inr ne ↦ get_or-set_other tentative y z o None ne ∙ (let t : eqb z y ≡ false = grind (arith, nat_tests) in ap (λ b. cond b o (number_at tentative z)) (sym t))
]

better_less : (a b : ℕ) (o : Option ℕ) → a < b → is_better b o ≡ true → is_better a o ≡ true
better_less a b None lt t = refl
better_less a b (Some e) lt t = grind (arith, nat_tests)

better_some : (a b : ℕ) → is_better a (Some b) ≡ true → a < b
better_some a b t = grind (arith, nat_tests)

not_better : (a : ℕ) (o : Option ℕ) → is_better a o ≡ false → (e : ℕ) × ((o ≡ Some e) × (e ≤ a))
not_better a None t = let e : true ≡ false = t in absurd (cc)
not_better a (Some e) t = (e, (refl, grind (arith, nat_tests)))

offered_falls : (limit : Option ℕ) (a e : ℕ) (o : Option ℕ) → o ≡ Some e → (f : ℕ) × ((offered limit a o ≡ Some f) × (f ≤ e))
offered_falls limit a e o is = elim (is_below a limit && is_better a o) as (λ b. (is_below a limit && is_better a o) ≡ b → (f : ℕ) × ((cond b (Some a) o ≡ Some f) × (f ≤ e))) [
  | true ↦ λ t. let lt = better_some a e (sym (ap (is_better a) is) ∙ (and_parts _ _ t).1) in (a, (refl, omega arith))
  | false ↦ λ t. (e, (is, omega arith))
] refl

offered_reached : (limit : Option ℕ) (a : ℕ) (o : Option ℕ) → is_below a limit ≡ true → (f : ℕ) × ((offered limit a o ≡ Some f) × (f ≤ a))
offered_reached limit a o below = elim (is_better a o) as (λ b. is_better a o ≡ b → (f : ℕ) × ((cond (is_below a limit && b) (Some a) o ≡ Some f) × (f ≤ a))) [
  | true ↦ λ t. (a, (ap (λ b. cond (b && true) (Some a) o) below, omega arith))
  | false ↦ λ t. let n = not_better a o t in (n.0, (ap (λ b. cond (b && false) (Some a) o) below ∙ n.1.0, n.1.1))
] refl

-- an offer to a node that is nearer already changes nothing
pub late_offer : (limit : Option ℕ) (a : ℕ) (o : Option ℕ) → is_nearer o a ≡ true → offered limit a o ≡ o
late_offer limit a None t = let e : false ≡ true = t in absurd (cc)
late_offer limit a (Some e) t =
    let no : ltb a e ≡ false = grind (arith, nat_tests) in
    ap (λ b. cond (is_below a limit && b) (Some a) (Some e)) no ∙ ap (λ b. cond b (Some a) (Some e)) (and-false (is_below a limit))

module _ (m : EdgeMap) (limit : ℕ → Option ℕ) (x d : ℕ) (before : ℕ → Option ℕ) (es : List (ℕ × ℕ)) (i y w : ℕ) (tentative : List (Option ℕ)) (h : IsRelaxing m limit x d before (number_at tentative) es i)
    (here : get_or es i (0, 0) ≡ (y, w)) (edge : weight_between m x y ≡ Some w) (lt : y < length tentative) where
  after : ℕ → Option ℕ
  after = number_at (set tentative y (offered (limit y) (d + w) (number_at tentative y)))

  after_is : (z : ℕ) → after z ≡ cond (eqb z y) (offered (limit y) (d + w) (number_at tentative y)) (number_at tentative z)
  unfolding after
  after_is z = number_set tentative y z _ lt

  improved : (o : Option ℕ) → ((number_at tentative y ≡ before y) ⊎ ((v : ℕ) × ((weight_between m x y ≡ Some v) × (number_at tentative y ≡ Some (d + v)) × (is_below (d + v) (limit y) ≡ true) × (is_better (d + v) (before y) ≡ true)))) → is_better (d + w) (number_at tentative y) ≡ true → is_better (d + w) (before y) ≡ true
  improved o (inl same) t = sym (ap (is_better (d + w)) same) ∙ t
  improved o (inr v) t = better_less (d + w) (d + v.0) (before y) (better_some (d + w) (d + v.0) (sym (ap (is_better (d + w)) v.1.1) ∙ t)) v.1.3

  changed_here : (after y ≡ before y) ⊎ ((v : ℕ) × ((weight_between m x y ≡ Some v) × (after y ≡ Some (d + v)) × (is_below (d + v) (limit y) ≡ true) × (is_better (d + v) (before y) ≡ true)))
  changed_here =
      let same : eqb y y ≡ true = grind (arith, nat_tests) in
      let at : after y ≡ offered (limit y) (d + w) (number_at tentative y) = after_is y ∙ ap (λ b. cond b (offered (limit y) (d + w) (number_at tentative y)) (number_at tentative y)) same in
      elim (is_below (d + w) (limit y) && is_better (d + w) (number_at tentative y)) as (λ b. (is_below (d + w) (limit y) && is_better (d + w) (number_at tentative y)) ≡ b → after y ≡ cond b (Some (d + w)) (number_at tentative y)
      → (after y ≡ before y) ⊎ ((v : ℕ) × ((weight_between m x y ≡ Some v) × (after y ≡ Some (d + v)) × (is_below (d + v) (limit y) ≡ true) × (is_better (d + v) (before y) ≡ true)))) [
        | true ↦ λ t is. let both = and_parts _ _ t in inr (w, (edge, is, both.0, improved None (h.changed y) both.1))
        | false ↦ λ t is. elim (h.changed y) [ inl s ↦ inl (is ∙ s) | inr v ↦ inr (v.0, (v.1.0, is ∙ v.1.1, v.1.2, v.1.3)) ]
      ] refl at

  changed_all : (z : ℕ) → (after z ≡ before z) ⊎ ((v : ℕ) × ((weight_between m x z ≡ Some v) × (after z ≡ Some (d + v)) × (is_below (d + v) (limit z) ≡ true) × (is_better (d + v) (before z) ≡ true)))
  changed_all z = elim (cases_eq z y) [
    | inl e ↦ subst (λ k. (after k ≡ before k) ⊎ ((v : ℕ) × ((weight_between m x k ≡ Some v) × (after k ≡ Some (d + v)) × (is_below (d + v) (limit k) ≡ true) × (is_better (d + v) (before k) ≡ true)))) (sym e) changed_here
    | inr ne ↦
        let f : eqb z y ≡ false = grind (arith, nat_tests) in
        let is : after z ≡ number_at tentative z = after_is z ∙ ap (λ b. cond b (offered (limit y) (d + w) (number_at tentative y)) (number_at tentative z)) f in
        elim (h.changed z) [ inl s ↦ inl (is ∙ s) | inr v ↦ inr (v.0, (v.1.0, is ∙ v.1.1, v.1.2, v.1.3)) ]
  ]

  -- a number that was there falls
  after_falls : (z e : ℕ) → number_at tentative z ≡ Some e → (f : ℕ) × ((after z ≡ Some f) × (f ≤ e))
  after_falls z e is = elim (cases_eq z y) [
    | inl at ↦
        let t : eqb z y ≡ true = grind (arith, nat_tests) in
        let o = offered_falls (limit y) (d + w) e (number_at tentative y) (ap (number_at tentative) (sym at) ∙ is) in
        (o.0, (after_is z ∙ ap (λ b. cond b (offered (limit y) (d + w) (number_at tentative y)) (number_at tentative z)) t ∙ o.1.0, o.1.1))
    | inr ne ↦
        let f : eqb z y ≡ false = grind (arith, nat_tests) in
        (e, (after_is z ∙ ap (λ b. cond b (offered (limit y) (d + w) (number_at tentative y)) (number_at tentative z)) f ∙ is, omega arith))
  ]

  reached_here : is_below (d + w) (limit y) ≡ true → (f : ℕ) × ((after y ≡ Some f) × (f ≤ d + w))
  reached_here below =
      let t : eqb y y ≡ true = grind (arith, nat_tests) in
      let o = offered_reached (limit y) (d + w) (number_at tentative y) below in
      (o.0, (after_is y ∙ ap (λ b. cond b (offered (limit y) (d + w) (number_at tentative y)) (number_at tentative y)) t ∙ o.1.0, o.1.1))

  reached_all : (k : ℕ) → k < i + 1 → is_below (d + (get_or es k (0, 0)).1) (limit (get_or es k (0, 0)).0) ≡ true → (e : ℕ) × ((after (get_or es k (0, 0)).0 ≡ Some e) × (e ≤ d + (get_or es k (0, 0)).1))
  reached_all k l = elim (cases_eq k i) [
    | inl e ↦ subst (λ (p : ℕ × ℕ). is_below (d + p.1) (limit p.0) ≡ true → (f : ℕ) × ((after p.0 ≡ Some f) × (f ≤ d + p.1))) (sym (ap (λ j. get_or es j (0, 0)) e ∙ here)) reached_here
    | inr ne ↦ λ below. let o = h.reached k (omega arith) below in let f = after_falls _ o.0 o.1.0 in (f.0, (f.1.0, omega (arith, f.1.1, o.1.1)))
  ]

  pub relaxing_step : IsRelaxing m limit x d before (number_at (set tentative y (offered (limit y) (d + w) (number_at tentative y)))) es (i + 1)
  unfolding after
  relaxing_step = record { changed = changed_all; reached = reached_all }

pub relaxing_done : (g : Network) (limit : ℕ → Option ℕ) (x d : ℕ) (before after : ℕ → Option ℕ) → IsSound g → IsRelaxing g.edges limit x d before after (neighbours_of g x) (length (neighbours_of g x)) → IsRelaxed g.edges limit x d before after
relaxing_done g limit x d before after sound h = record {
  changed = h.changed;
  reached = λ y w edge below.
      let c = Contains-neighbours_of g x y w (sound.within x y w edge).1 edge in
      let same : get_or (neighbours_of g x) c.0 (0, 0) ≡ (y, w) = get_or_default (neighbours_of g x) c.0 (0, 0) (y, w) c.1 ∙ c.2 in
      let P : ℕ × ℕ → Type 0 = λ p. is_below (d + p.1) (limit p.0) ≡ true → (e : ℕ) × ((after p.0 ≡ Some e) × (e ≤ d + p.1)) in
      subst P same (h.reached c.0 c.1) below;
}

-- ---- the nodes that are open

pub count_set : (done : List Bool) (x : ℕ) → x < length done → flag_at done x ≡ false → count_open (set done x true) + 1 ≡ count_open done
count_set [] x lt is = absurd (omega arith)
count_set (b ∷ bs) zero lt is = ap (λ c. 0 + count_open bs + 1) is ∙ (let e : 0 + count_open bs + 1 ≡ 1 + count_open bs = omega arith in e) ∙ ap (λ c. cond c 0 1 + count_open bs) (sym is)
count_set (b ∷ bs) (suc x) lt is = let rest = count_set bs x (omega arith) is in omega arith

pub count_replicate : (n : ℕ) → count_open (replicate n false) ≡ n
count_replicate zero = refl
count_replicate (suc n) = let rest = count_replicate n in omega arith

pub flag_set_same : (done : List Bool) (x : ℕ) → x < length done → flag_at (set done x true) x ≡ true
flag_set_same done x lt = get_or-set_same done x true false lt

pub flag_set_other : (done : List Bool) (x y : ℕ) → y ≢ x → flag_at (set done x true) y ≡ flag_at done y
flag_set_other done x y ne = get_or-set_other done x y true false ne

-- a neighbour by its place
pub neighbour_at : (g : Network) (x : ℕ) (es : List (ℕ × ℕ)) (k : ℕ) → es ≡ neighbours_of g x → k < length es → weight_in g x (get_or es k (0, 0)).0 ≡ Some (get_or es k (0, 0)).1
neighbour_at g x es k e lt = subst (All (λ p. weight_in g x p.0 ≡ Some p.1)) (sym e) (All-neighbours_of g x) k (0, 0) lt

pub neighbour_below : (g : Network) (x : ℕ) (es : List (ℕ × ℕ)) (k : ℕ) → IsSound g → es ≡ neighbours_of g x → k < length es → (get_or es k (0, 0)).0 < g.nodes
neighbour_below g x es k sound e lt = (sound.within x (get_or es k (0, 0)).0 (get_or es k (0, 0)).1 (neighbour_at g x es k e lt)).1

-- ---- the start

pub first_at : (sources : List Bool) (y : ℕ) → number_at (map first_number sources) y ≡ first_number (flag_at sources y)
first_at [] y = refl
first_at (b ∷ bs) zero = refl
first_at (b ∷ bs) (suc y) = first_at bs y

pub none_done : (n y : ℕ) → flag_at (replicate n false) y ≡ false
none_done zero y = refl
none_done (suc n) zero = refl
none_done (suc n) (suc y) = none_done n y

pub none_numbered : (n y : ℕ) → number_at (replicate n None) y ≡ None
none_numbered zero y = refl
none_numbered (suc n) zero = refl
none_numbered (suc n) (suc y) = none_numbered n y

is_first : (b : Bool) (e : ℕ) → first_number b ≡ Some e → (b ≡ true) × (e ≡ 0)
is_first true e is = (refl, sym (same_Some 0 e is))
is_first false e is = absurd (none-some e is)

-- before a search from a list of flags, all numbers are 0
pub zero_first : (sources : List Bool) (y e : ℕ) → number_at (map first_number sources) y ≡ Some e → e ≡ 0
zero_first sources y e is = (is_first (flag_at sources y) e (sym (first_at sources y) ∙ is)).1

-- and those that have one are the flagged ones
pub flagged_zero : (sources : List Bool) (y : ℕ) → IsAtZero (map first_number sources) y → flag_at sources y ≡ true
flagged_zero sources y is = (is_first (flag_at sources y) 0 (sym (first_at sources y) ∙ is)).0

pub zero_flagged : (sources : List Bool) (y : ℕ) → flag_at sources y ≡ true → IsAtZero (map first_number sources) y
zero_flagged sources y t = first_at sources y ∙ ap first_number t

-- flags of which none stands
pub no_flags : (done : List Bool) → ((y : ℕ) → flag_at done y ≡ false) → done ≡ replicate (length done) false
no_flags [] none = refl
no_flags (b ∷ bs) none = let rest = no_flags bs (λ y. none (suc y)) in let first : b ≡ false = none 0 in cc

pub progress_start : (m : EdgeMap) (tentative : List (Option ℕ)) (done : List Bool) (limit : ℕ → Option ℕ) → ((y e : ℕ) → number_at tentative y ≡ Some e → e ≡ 0) → ((y : ℕ) → flag_at done y ≡ false)
    → ((s : ℕ) → IsAtZero tentative s → is_below 0 (limit s) ≡ true) → Progress m (IsAtZero tentative) limit (number_at tentative) (flag_at done) []
progress_start m tentative done limit zeros none open_at = record {
  sources = λ s t. t;
  attained = λ y e is. let z = zeros y e is in (y, (is ∙ ap Some z, ([], (refl, sym z))));
  within = λ y e is. let z = zeros y e is in subst (λ k. is_below k (limit y) ≡ true) (sym z) (open_at y (is ∙ ap Some z));
  relaxed = λ x d y w t. absurd (not_done x t);
  numbered = λ x t. absurd (not_done x t);
  front = λ x y d e t. absurd (not_done x t);
  ascending = tt;
  listed = tt;
  complete = λ x t. absurd (not_done x t);
  bounded = λ y e is. let z = zeros y e is in omega (arith, z);
}
  where
    not_done : (x : ℕ) → flag_at done x ≡ true → ⊥
    not_done x t = let e : false ≡ true = sym (none x) ∙ t in cc

-- a turn of the search, over the lists that it keeps
pub progress_turn : (g : Network) (Source : ℕ → Type 0) (limit : ℕ → Option ℕ) (tentative after : List (Option ℕ)) (done : List Bool) (order : List Settled) (next : Settled) → IsSound g
    → Progress g.edges Source limit (number_at tentative) (flag_at done) order → IsNext (flag_at done) (number_at tentative) next.node next.distance → next.node < length done
    → IsRelaxed g.edges limit next.node next.distance (number_at tentative) (number_at after) → Progress g.edges Source limit (number_at after) (flag_at (set done next.node true)) (order ++ next ∷ [])
progress_turn g Source limit tentative after done order next sound p nearest lt r =
    progress_step g.edges Source limit (number_at tentative) (number_at after) (flag_at done) (flag_at (set done next.node true)) order sound.weighted p next.node next.distance nearest r (flag_set_same done next.node lt) (λ y ne. flag_set_other done next.node y ne)
