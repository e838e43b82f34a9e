-- What the search keeps from turn to turn, and what it has found in the end.
use Rattle.std.proofs.Common.{◌≡◌, ℕ, ◌+◌, ◌*◌, ◌<◌, ◌≤◌, Bool, true, false, ◌≢◌, ◌⊎◌, inl, inr, List, [], ◌∷◌, ◌++◌, length, Option, Some, None, ltb, refl, sym, ap, ◌∙◌, subst, arith, length-append}
use Rattle.std.specs.Option.{unwrap_or, IsSome, is_some}
use Rattle.std.proofs.lemmas.Bool.{cases_eq, both_ways}
use Rattle.std.proofs.lemmas.Bool.Decides.{nat_tests}
use Rattle.std.proofs.lemmas.Option.{same_Some, none-some}
use Rattle.graph_edits.specs.Edges.{EdgeMap, weight_between, greatest_weight}
use Rattle.graph_edits.specs.Walks.{IsWalk, walk_length, IsLeast}
use Rattle.graph_edits.specs.Laws.{IsWalk-push}
use Rattle.distances.specs.declared.search.Settled.{Settled}
use Rattle.distances.specs.Search.{is_below, is_better, Precedes, PrecedesAll, IsAscending, EachSettled, HasNode, AreGentle, IsSearched, IsRelaxed}
use Rattle.distances.specs.Table.{IsTable, IsListing}

-- the open node of the least distance, the smaller node first
pub record IsNext (done : ℕ → Bool) (number : ℕ → Option ℕ) (x d : ℕ) : Type 0 where
  pub is_open : done x ≡ false
  pub has : number x ≡ Some d
  pub least : (y e : ℕ) → done y ≡ false → number y ≡ Some e → (d < e) ⊎ ((d ≡ e) × (x ≤ y))

-- some walk from a source has this length
abbrev pub IsAttained : EdgeMap → (ℕ → Type 0) → ℕ → ℕ → Type 0
IsAttained m Source y e = (s : ℕ) × (Source s × ((xs : List ℕ) × (IsWalk m s xs y × (walk_length m s xs ≡ e))))

-- `number` has the least length found so far, `done` whether a node is settled
pub record Progress (m : EdgeMap) (Source : ℕ → Type 0) (limit : ℕ → Option ℕ) (number : ℕ → Option ℕ) (done : ℕ → Bool) (order : List Settled) : Type 0 where
  pub sources : (s : ℕ) → Source s → number s ≡ Some 0
  pub attained : (y e : ℕ) → number y ≡ Some e → IsAttained m Source y e
  pub within : (y e : ℕ) → number y ≡ Some e → is_below e (limit y) ≡ true
  pub relaxed : (x d y w : ℕ) → done x ≡ true → number x ≡ Some d → weight_between m x y ≡ Some w → is_below (d + w) (limit y) ≡ true → (e : ℕ) × ((number y ≡ Some e) × (e ≤ d + w))
  pub numbered : (x : ℕ) → done x ≡ true → (d : ℕ) × (number x ≡ Some d)
  pub front : (x y d e : ℕ) → done x ≡ true → done y ≡ false → number x ≡ Some d → number y ≡ Some e → Precedes d x e y
  pub ascending : IsAscending order
  pub listed : EachSettled (λ x d. (done x ≡ true) × (number x ≡ Some d)) order
  pub complete : (x : ℕ) → done x ≡ true → HasNode x order
  pub bounded : (y e : ℕ) → number y ≡ Some e → e ≤ length order * greatest_weight

le_from : (d x e y : ℕ) → Precedes d x e y → d ≤ e
le_from d x e y (inl lt) = omega arith
le_from d x e y (inr h) = omega arith

pub has_push : (y : ℕ) (order : List Settled) (s : Settled) → HasNode y order → HasNode y (order ++ s ∷ [])
has_push y [] s h = absurd h
has_push y (t ∷ ts) s (inl e) = inl e
has_push y (t ∷ ts) s (inr h) = inr (has_push y ts s h)

pub has_here : (y : ℕ) (order : List Settled) (s : Settled) → y ≡ s.node → HasNode y (order ++ s ∷ [])
has_here y [] s e = inl (sym e)
has_here y (t ∷ ts) s e = inr (has_here y ts s e)

module _ (m : EdgeMap) (Source : ℕ → Type 0) (limit : ℕ → Option ℕ) (number number' : ℕ → Option ℕ) (done done' : ℕ → Bool) (order : List Settled) (weighted : (a b w : ℕ) → weight_between m a b ≡ Some w → (1 ≤ w) × (w ≤ greatest_weight)) (p : Progress m Source limit number done order) (x d : ℕ)
    (nearest : IsNext done number x d) (r : IsRelaxed m limit x d number number') (now : done' x ≡ true) (others : (y : ℕ) → y ≢ x → done' y ≡ done y) where
  better_below : (d w e : ℕ) (o : Option ℕ) → o ≡ Some e → is_better (d + w) o ≡ true → d + w < e
  better_below d w e o is t = let u : ltb (d + w) e ≡ true = sym (ap (is_better (d + w)) is) ∙ t in grind (arith, nat_tests)

  -- a node at most d away keeps its number
  stays : (y e : ℕ) → number y ≡ Some e → e ≤ d → number' y ≡ Some e
  stays y e is le = elim (r.changed y) [
    | inl same ↦ same ∙ is
    | inr h ↦ let lt = better_below d h.0 e (number y) is h.1.3 in absurd (omega arith)
  ]

  pub settled_stays : (y e : ℕ) → done y ≡ true → number y ≡ Some e → number' y ≡ Some e
  settled_stays y e t is = stays y e is (le_from e y d x (p.front y x e d t nearest.is_open is nearest.has))

  pub here_stays : number' x ≡ Some d
  here_stays = stays x d nearest.has (omega arith)

  -- a number never rises
  falls : (y e : ℕ) → number y ≡ Some e → (f : ℕ) × ((number' y ≡ Some f) × (f ≤ e))
  falls y e is = elim (r.changed y) [
    | inl same ↦ (e, (same ∙ is, omega arith))
    | inr h ↦ let lt = better_below d h.0 e (number y) is h.1.3 in (d + h.0, (h.1.1, omega arith))
  ]

  was_done : (y : ℕ) → done' y ≡ true → (y ≡ x) ⊎ (done y ≡ true)
  was_done y t = elim (cases_eq y x) [ inl e ↦ inl e | inr ne ↦ inr (sym (others y ne) ∙ t) ]

  was_open : (y : ℕ) → done' y ≡ false → (y ≢ x) × (done y ≡ false)
  was_open y t = let ne : y ≢ x = λ e. both_ways (done' y) t (ap done' e ∙ now) in (ne, sym (others y ne) ∙ t)

  -- a settled node, by its number before
  pub number_before : (y e : ℕ) → done' y ≡ true → number' y ≡ Some e → (number y ≡ Some e) × (e ≤ d)
  number_before y e t is = elim (was_done y t) [
    | inl same ↦ let k : d ≡ e = same_Some d e (sym here_stays ∙ ap number' (sym same) ∙ is) in (ap number same ∙ nearest.has ∙ ap Some k, omega arith)
    | inr before ↦ let n = p.numbered y before in let k : n.0 ≡ e = same_Some n.0 e (sym (settled_stays y n.0 before n.1) ∙ is) in
        (n.1 ∙ ap Some k, subst (λ f. f ≤ d) k (le_from n.0 y d x (p.front y x n.0 d before nearest.is_open n.1 nearest.has)))
  ]

  new_attained : (y e : ℕ) → number' y ≡ Some e → IsAttained m Source y e
  new_attained y e is = elim (r.changed y) [
    | inl same ↦ p.attained y e (sym same ∙ is)
    | inr h ↦ let k : d + h.0 ≡ e = same_Some _ e (sym h.1.1 ∙ is) in
        let a = p.attained x d nearest.has in
        let q = IsWalk-push m a.0 a.1.1.0 x y h.0 a.1.1.1.0 h.1.0 in
        (a.0, (a.1.0, (a.1.1.0 ++ y ∷ [], (q.0, q.1 ∙ ap (λ n. n + h.0) a.1.1.1.1 ∙ k))))
  ]

  new_within : (y e : ℕ) → number' y ≡ Some e → is_below e (limit y) ≡ true
  new_within y e is = elim (r.changed y) [
    | inl same ↦ p.within y e (sym same ∙ is)
    | inr h ↦ let k : d + h.0 ≡ e = same_Some _ e (sym h.1.1 ∙ is) in subst (λ n. is_below n (limit y) ≡ true) k h.1.2
  ]

  new_relaxed : (z e y w : ℕ) → done' z ≡ true → number' z ≡ Some e → weight_between m z y ≡ Some w → is_below (e + w) (limit y) ≡ true → (f : ℕ) × ((number' y ≡ Some f) × (f ≤ e + w))
  new_relaxed z e y w t is edge below = elim (was_done z t) [
    | inl same ↦
        let k : d ≡ e = same_Some d e (sym here_stays ∙ ap number' (sym same) ∙ is) in
        let h = r.reached y w (ap (λ n. weight_between m n y) (sym same) ∙ edge) (subst (λ n. is_below (n + w) (limit y) ≡ true) (sym k) below) in
        (h.0, (h.1.0, subst (λ n. h.0 ≤ n + w) k h.1.1))
    | inr before ↦
        let n = number_before z e t is in
        let h = p.relaxed z e y w before n.0 edge below in
        let f = falls y h.0 h.1.0 in
        (f.0, (f.1.0, omega (arith, f.1.1, h.1.1)))
  ]

  precedes_open : (z y e f : ℕ) → done' z ≡ true → done' y ≡ false → number' z ≡ Some e → number' y ≡ Some f → Precedes e z f y
  precedes_open z y e f t o is js =
      let n = number_before z e t is in
      let w = was_open y o in
      elim (r.changed y) [
        | inl same ↦ elim (was_done z t) [
          | inl at ↦ let k : d ≡ e = same_Some d e (sym nearest.has ∙ ap number (sym at) ∙ n.0) in closest z y e f k at w.0 (nearest.least y f w.1 (sym same ∙ js))
          | inr before ↦ p.front z y e f before w.1 n.0 (sym same ∙ js)
        ]
        | inr h ↦ let k : d + h.0 ≡ f = same_Some _ f (sym h.1.1 ∙ js) in let one = (weighted x y h.0 h.1.0).0 in let le = n.1 in inl (omega arith)
      ]
    where
      closest : (z y e f : ℕ) → d ≡ e → z ≡ x → y ≢ x → (d < f) ⊎ ((d ≡ f) × (x ≤ y)) → Precedes e z f y
      closest z y e f k at ne (inl lt) = inl (omega arith)
      closest z y e f k at ne (inr h) = inr (omega arith, omega arith)

  abbrev pub here : Settled
  here = record { node = x; distance = d }

  ascending_push : (ss : List Settled) → IsAscending ss → EachSettled (λ z e. (done z ≡ true) × (number z ≡ Some e)) ss → IsAscending (ss ++ here ∷ [])
  ascending_push [] a l = (tt, tt)
  ascending_push (s ∷ ss) a l = (before_push ss a.0, ascending_push ss a.1 l.1)
    where
      before_push : (ts : List Settled) → PrecedesAll s ts → PrecedesAll s (ts ++ here ∷ [])
      before_push [] b = (p.front s.node x s.distance d l.0.0 nearest.is_open l.0.1 nearest.has, tt)
      before_push (t ∷ ts) b = (b.0, before_push ts b.1)

  listed_push : (ss : List Settled) → EachSettled (λ z e. (done z ≡ true) × (number z ≡ Some e)) ss → EachSettled (λ z e. (done' z ≡ true) × (number' z ≡ Some e)) (ss ++ here ∷ [])
  listed_push [] l = ((now, here_stays), tt)
  listed_push (s ∷ ss) l = ((still s.node l.0.0, settled_stays s.node s.distance l.0.0 l.0.1), listed_push ss l.1)
    where
      still : (y : ℕ) → done y ≡ true → done' y ≡ true
      still y t = elim (cases_eq y x) [ inl e ↦ ap done' e ∙ now | inr ne ↦ others y ne ∙ t ]

  new_bounded : (y e : ℕ) → number' y ≡ Some e → e ≤ length (order ++ here ∷ []) * greatest_weight
  new_bounded y e is =
      let n : length (order ++ here ∷ []) ≡ length order + 1 = length-append order (here ∷ []) in
      elim (r.changed y) [
        | inl same ↦ let le = p.bounded y e (sym same ∙ is) in omega arith
        | inr h ↦ let k : d + h.0 ≡ e = same_Some _ e (sym h.1.1 ∙ is) in let le = p.bounded x d nearest.has in let w = (weighted x y h.0 h.1.0).1 in omega arith
      ]

  pub progress_step : Progress m Source limit number' done' (order ++ here ∷ [])
  progress_step = record {
    sources = λ s t. stays s 0 (p.sources s t) (omega arith);
    attained = new_attained;
    within = new_within;
    relaxed = new_relaxed;
    numbered = λ z t. elim (was_done z t) [ inl e ↦ (d, ap number' e ∙ here_stays) | inr before ↦ let n = p.numbered z before in (n.0, settled_stays z n.0 before n.1) ];
    front = precedes_open;
    ascending = ascending_push order p.ascending p.listed;
    listed = listed_push order p.listed;
    complete = λ z t. elim (was_done z t) [ inl e ↦ has_here z order here e | inr before ↦ has_push z order here (p.complete z before) ];
    bounded = new_bounded;
  }

-- ---- in the end

none_not : (o : Option ℕ) → o ≡ None → IsSome o → ⊥
none_not o e t = let f : false ≡ true = sym (ap is_some e) ∙ t in cc

smaller : (o : Option ℕ) (a b : ℕ) → a ≤ b → is_below b o ≡ true → is_below a o ≡ true
smaller None a b le t = refl
smaller (Some l) a b le t = grind (arith, nat_tests)

below_more : (m : EdgeMap) (limit : ℕ → Option ℕ) → AreGentle m limit → (u : ℕ) (xs : List ℕ) (v e : ℕ) → IsWalk m u xs v → is_below (e + walk_length m u xs) (limit v) ≡ true → is_below e (limit u) ≡ true
below_more m limit gentle u [] v e walk below = subst (λ k. is_below e (limit k) ≡ true) (sym walk) (subst (λ k. is_below k (limit v) ≡ true) (omega arith) below)
below_more m limit gentle u (y ∷ ys) v e walk below =
    elim (weight_between m u y) as (λ o. weight_between m u y ≡ o → is_below e (limit u) ≡ true) [
      | None ↦ λ is. absurd (none_not (weight_between m u y) is walk.0)
      | Some w ↦ λ is. gentle u y w e is (below_more m limit gentle y ys v (e + w) walk.1 (subst (λ k. is_below k (limit v) ≡ true) (ap (λ o. e + (unwrap_or o 0 + walk_length m y ys)) is ∙ omega arith) below))
    ] refl

module _ (m : EdgeMap) (Source : ℕ → Type 0) (limit : ℕ → Option ℕ) (number : ℕ → Option ℕ) (done : ℕ → Bool) (order : List Settled) (gentle : AreGentle m limit) (p : Progress m Source limit number done order)
    (none_open : (y : ℕ) → done y ≡ false → number y ≡ None) where
  settled_if : (y e : ℕ) → number y ≡ Some e → done y ≡ true
  settled_if y e is = by (done y) refl
    where
      by : (b : Bool) → done y ≡ b → b ≡ true
      by true t = refl
      by false t = absurd (none-some e (sym (none_open y t) ∙ is))

  -- no walk from a node with a number is shorter
  along : (u d : ℕ) (xs : List ℕ) (v : ℕ) → number u ≡ Some d → IsWalk m u xs v → is_below (d + walk_length m u xs) (limit v) ≡ true → (e : ℕ) × ((number v ≡ Some e) × (e ≤ d + walk_length m u xs))
  along u d [] v is walk below = (d, (ap number (sym walk) ∙ is, omega arith))
  along u d (y ∷ ys) v is walk below =
      elim (weight_between m u y) as (λ o. weight_between m u y ≡ o → (e : ℕ) × ((number v ≡ Some e) × (e ≤ d + walk_length m u (y ∷ ys)))) [
        | None ↦ λ at. absurd (none_not (weight_between m u y) at walk.0)
        | Some w ↦ λ at.
            let n : d + walk_length m u (y ∷ ys) ≡ (d + w) + walk_length m y ys = ap (λ o. d + (unwrap_or o 0 + walk_length m y ys)) at ∙ omega arith in
            let far = subst (λ k. is_below k (limit v) ≡ true) n below in
            let h = p.relaxed u d y w (settled_if u d is) is at (below_more m limit gentle y ys v (d + w) walk.1 far) in
            let near = smaller (limit v) (h.0 + walk_length m y ys) ((d + w) + walk_length m y ys) (omega (arith, h.1.1)) far in
            let a = along y h.0 ys v h.1.0 walk.1 near in
            (a.0, (a.1.0, subst (λ k. a.0 ≤ k) (sym n) (omega (arith, h.1.1, a.1.1))))
      ] refl

  least_at : (v e : ℕ) → number v ≡ Some e → (s : ℕ) (xs : List ℕ) → Source s → IsWalk m s xs v → e ≤ walk_length m s xs
  least_at v e is s xs source walk = by (is_below (walk_length m s xs) (limit v)) refl
    where
      by : (b : Bool) → is_below (walk_length m s xs) (limit v) ≡ b → e ≤ walk_length m s xs
      by true t = let a = along s 0 xs v (p.sources s source) walk (subst (λ k. is_below k (limit v) ≡ true) (omega arith) t) in let k : a.0 ≡ e = same_Some a.0 e (sym a.1.0 ∙ is) in omega (arith, a.1.1)
      by false t = above (limit v) e (walk_length m s xs) (p.within v e is) t
        where
          above : (o : Option ℕ) (a b : ℕ) → is_below a o ≡ true → is_below b o ≡ false → a ≤ b
          above None a b t f = absurd (both_ways true f refl)
          above (Some l) a b t f = grind (arith, nat_tests)

  exact_each : (ss : List Settled) → EachSettled (λ x d. (done x ≡ true) × (number x ≡ Some d)) ss → EachSettled (λ x d. IsLeast m Source x d × (is_below d (limit x) ≡ true)) ss
  exact_each [] l = tt
  exact_each (s ∷ ss) l = ((record { attained = p.attained s.node s.distance l.0.1; least = least_at s.node s.distance l.0.1 }, p.within s.node s.distance l.0.1), exact_each ss l.1)

  pub progress_done : IsSearched m Source limit order
  progress_done = record {
    ascending = p.ascending;
    exact = exact_each order p.listed;
    complete = λ s x xs source walk below. let a = along s 0 xs x (p.sources s source) walk (subst (λ k. is_below k (limit x) ≡ true) (omega arith) below) in p.complete x (settled_if x a.0 a.1.0);
  }

  pub table_done : IsTable m Source limit number
  table_done = record {
    exact = λ y e is. (record { attained = p.attained y e is; least = least_at y e is }, p.within y e is);
    complete = λ s x xs source walk below. let a = along s 0 xs x (p.sources s source) walk (subst (λ k. is_below k (limit x) ≡ true) (omega arith) below) in (a.0, a.1.0);
  }

  numbers_each : (ss : List Settled) → EachSettled (λ x d. (done x ≡ true) × (number x ≡ Some d)) ss → EachSettled (λ x d. number x ≡ Some d) ss
  numbers_each [] l = tt
  numbers_each (s ∷ ss) l = (l.0.1, numbers_each ss l.1)

  pub listing_done : IsListing number order
  listing_done = record { listed = numbers_each order p.listed; has = λ x d is. p.complete x (settled_if x d is) }
