-- Laws of neighbours, walks and changes, for the crates above.
use Rattle.std.specs.Prelude.{◌≡◌, ℕ, zero, suc, ◌+◌, ◌<◌, ◌≤◌, List, [], ◌∷◌, ◌++◌, length, Option, Some, None, IsSome, Result, Ok, Err, refl}
use Rattle.std.specs.List.{All, Contains, filter_map, cons_option}
use Rattle.std.specs.Option.{option_map, unwrap_or, is_some}
use Rattle.std.proofs.Common.{get_or, length-append, sym, ap, ◌∙◌, subst, arith, cond, Bool, true, false, ltb, inl, inr}
use Rattle.std.proofs.lemmas.List.Elements.{filter_map-append, All-append, All-nil, All-push, Contains-push, Contains-append_left, All-weaker}
use Rattle.std.proofs.lemmas.Bool.{cases_eq, cases_lt}
use Rattle.std.proofs.Math.ListN.{get_or-append}
use Rattle.std.proofs.Math.Seq.{get_or-append_seam}
use Rattle.graph_edits.specs.Edges.{EdgeMap, pair_of, weight_between, weight_in, Network, below, neighbours_of}
use Rattle.graph_edits.specs.Walks.{IsWalk, walk_length, IsLeast}
use Rattle.graph_edits.specs.Changes.{edges_after, after, fold}
use Rattle.graph_edits.specs.declared.edits.Op.{Op}
use Rattle.graph_edits.specs.declared.edits.Code.{Code}
use Rattle.std.specs.FinMap.{get}
use Rattle.std.proofs.lemmas.Bool.Decides.{nat_tests}

-- ---- walks

-- a walk goes on over an edge
pub IsWalk-push : (m : EdgeMap) (u : ℕ) (xs : List ℕ) (x y w : ℕ) → IsWalk m u xs x → weight_between m x y ≡ Some w → IsWalk m u (xs ++ y ∷ []) y × (walk_length m u (xs ++ y ∷ []) ≡ walk_length m u xs + w)
IsWalk-push m u [] x y w e is =
    let here : weight_between m u y ≡ Some w = ap (λ k. weight_between m k y) e ∙ is in
    ((subst IsSome (sym here) refl, refl), ap (λ o. unwrap_or o 0 + 0) here ∙ omega arith)
IsWalk-push m u (z ∷ zs) x y w h is =
    let rest = IsWalk-push m z zs x y w h.1 is in
    ((h.0, rest.0), ap (λ k. unwrap_or (weight_between m u z) 0 + k) rest.1 ∙ omega arith)

-- ---- neighbours

listed : (ℕ → Option ℕ) → ℕ → List (ℕ × ℕ)
listed f n = filter_map (λ y. option_map (λ w. (y, w)) (f y)) (below n)

grown : (f : ℕ → Option ℕ) (n : ℕ) (o : Option ℕ) → f n ≡ o → listed f (suc n) ≡ listed f n ++ cons_option (option_map (λ w. (n, w)) o) []
unfolding listed
grown f n o e = filter_map-append (λ y. option_map (λ w. (y, w)) (f y)) (below n) (n ∷ []) ∙ ap (λ u. listed f n ++ cons_option (option_map (λ w. (n, w)) u) []) e

all_more : (f : ℕ → Option ℕ) (n : ℕ) (es : List (ℕ × ℕ)) (o : Option ℕ) → f n ≡ o → All (λ e. f e.0 ≡ Some e.1) es → All (λ e. f e.0 ≡ Some e.1) (es ++ cons_option (option_map (λ w. (n, w)) o) [])
all_more f n es None e h = All-append (λ e. f e.0 ≡ Some e.1) es [] h (All-nil (λ e. f e.0 ≡ Some e.1))
all_more f n es (Some w) e h = All-push (λ e. f e.0 ≡ Some e.1) es (n, w) h e

all_listed : (f : ℕ → Option ℕ) (n : ℕ) → All (λ e. f e.0 ≡ Some e.1) (listed f n)
unfolding listed
all_listed f zero = All-nil (λ e. f e.0 ≡ Some e.1)
all_listed f (suc n) = subst (All (λ e. f e.0 ≡ Some e.1)) (sym (grown f n (f n) refl)) (all_more f n (listed f n) (f n) refl (all_listed f n))

has_more : (f : ℕ → Option ℕ) (n y w : ℕ) (es : List (ℕ × ℕ)) → y ≡ n → f y ≡ Some w → Contains (es ++ cons_option (option_map (λ w. (n, w)) (f n)) []) (y, w)
has_more f n y w es e is =
    subst (λ o. Contains (es ++ cons_option (option_map (λ w. (n, w)) o) []) (y, w)) (sym is ∙ ap f e)
    (subst (λ k. Contains (es ++ (k, w) ∷ []) (y, w)) e (Contains-push es (y, w)))

has_listed : (f : ℕ → Option ℕ) (n y w : ℕ) → y < n → f y ≡ Some w → Contains (listed f n) (y, w)
has_listed f zero y w lt is = absurd (omega arith)
has_listed f (suc n) y w lt is = subst (λ es. Contains es (y, w)) (sym (grown f n (f n) refl)) (elim (cases_eq y n) [
  | inl e ↦ has_more f n y w (listed f n) e is
  | inr ne ↦ Contains-append_left (listed f n) _ (y, w) (has_listed f n y w (omega arith) is)
])

-- a neighbour stands with the weight of its edge
pub All-neighbours_of : (g : Network) (x : ℕ) → All (λ e. weight_in g x e.0 ≡ Some e.1) (neighbours_of g x)
unfolding listed
All-neighbours_of g x = all_listed (λ y. weight_in g x y) g.nodes

-- and each node with an edge is among them
pub Contains-neighbours_of : (g : Network) (x y w : ℕ) → y < g.nodes → weight_in g x y ≡ Some w → Contains (neighbours_of g x) (y, w)
unfolding listed
Contains-neighbours_of g x y w lt is = has_listed (λ z. weight_in g x z) g.nodes y w lt is

-- ---- neighbours ascend

-- the nodes of a list of neighbours strictly ascend
abbrev pub IsRising : List (ℕ × ℕ) → Type 0
IsRising es = (i j : ℕ) → i < j → j < length es → (get_or es i (0, 0)).0 < (get_or es j (0, 0)).0

rising_push : (es : List (ℕ × ℕ)) (n w : ℕ) → IsRising es → All (λ (e : ℕ × ℕ). e.0 < n) es → IsRising (es ++ (n, w) ∷ [])
rising_push es n w up low i j lt within =
    let len : length (es ++ (n, w) ∷ []) ≡ length es + 1 = length-append es ((n, w) ∷ []) in
    let a : get_or (es ++ (n, w) ∷ []) i (0, 0) ≡ get_or es i (0, 0) = get_or-append es ((n, w) ∷ []) (0, 0) i (omega (arith, len, lt, within)) in
    let a0 : (get_or (es ++ (n, w) ∷ []) i (0, 0)).0 ≡ (get_or es i (0, 0)).0 = ap (λ (p : ℕ × ℕ). p.0) a in
    elim (cases_eq j (length es)) [
      | inl e ↦
          let b : (get_or (es ++ (n, w) ∷ []) j (0, 0)).0 ≡ n = ap (λ (k : ℕ). (get_or (es ++ (n, w) ∷ []) k (0, 0)).0) e ∙ ap (λ (p : ℕ × ℕ). p.0) (get_or-append_seam es (n, w) [] (0, 0)) in
          let c : (get_or es i (0, 0)).0 < n = low i (0, 0) (omega (arith, e, lt)) in
          omega (arith, a0, b, c)
      | inr ne ↦
          let k : j < length es = omega (arith, len, within, ne) in
          let b : (get_or (es ++ (n, w) ∷ []) j (0, 0)).0 ≡ (get_or es j (0, 0)).0 = ap (λ (p : ℕ × ℕ). p.0) (get_or-append es ((n, w) ∷ []) (0, 0) j k) in
          let c = up i j lt k in
          omega (arith, a0, b, c)
    ]

both_more : (es : List (ℕ × ℕ)) (n : ℕ) (o : Option ℕ) → IsRising es → All (λ (e : ℕ × ℕ). e.0 < n) es → IsRising (es ++ cons_option (option_map (λ w. (n, w)) o) []) × All (λ (e : ℕ × ℕ). e.0 < suc n) (es ++ cons_option (option_map (λ w. (n, w)) o) [])
both_more es n None up low = (subst IsRising (sym (append_none es)) up, subst (All (λ (e : ℕ × ℕ). e.0 < suc n)) (sym (append_none es)) (All-weaker (λ (e : ℕ × ℕ). e.0 < n) (λ (e : ℕ × ℕ). e.0 < suc n) (λ e lt. omega arith) es low))
  where
    append_none : (es : List (ℕ × ℕ)) → es ++ [] ≡ es
    append_none [] = refl
    append_none (e ∷ es) = ap (λ l. e ∷ l) (append_none es)
both_more es n (Some w) up low = (rising_push es n w up low, All-push (λ (e : ℕ × ℕ). e.0 < suc n) es (n, w) (All-weaker (λ (e : ℕ × ℕ). e.0 < n) (λ (e : ℕ × ℕ). e.0 < suc n) (λ e lt. omega arith) es low) (omega arith))

both_listed : (f : ℕ → Option ℕ) (n : ℕ) → IsRising (listed f n) × All (λ (e : ℕ × ℕ). e.0 < n) (listed f n)
unfolding listed
both_listed f zero = (λ i j lt within. absurd (omega (arith, within)), All-nil (λ (e : ℕ × ℕ). e.0 < 0))
both_listed f (suc n) =
    let h = both_listed f n in
    let r = both_more (listed f n) n (f n) h.0 h.1 in
    (subst IsRising (sym (grown f n (f n) refl)) r.0, subst (All (λ (e : ℕ × ℕ). e.0 < suc n)) (sym (grown f n (f n) refl)) r.1)

-- the neighbours of a node do
pub rising_neighbours : (g : Network) (x : ℕ) → IsRising (neighbours_of g x)
unfolding listed
rising_neighbours g x = (both_listed (λ y. weight_in g x y) g.nodes).0

-- so a neighbour's number is no smaller than its place
pub rising_place : (es : List (ℕ × ℕ)) → IsRising es → (i : ℕ) → i < length es → i ≤ (get_or es i (0, 0)).0
rising_place es up zero lt = omega arith
rising_place es up (suc i) lt =
    let before : i ≤ (get_or es i (0, 0)).0 = rising_place es up i (omega arith) in
    let step : (get_or es i (0, 0)).0 < (get_or es (suc i) (0, 0)).0 = up i (suc i) (omega arith) lt in
    omega (arith, before, step)

-- and a node stands in one place
pub rising_once : (es : List (ℕ × ℕ)) → IsRising es → (i j : ℕ) → i < length es → j < length es → (get_or es i (0, 0)).0 ≡ (get_or es j (0, 0)).0 → i ≡ j
rising_once es up i j li lj same = elim (cases_lt i j) [
  | inl lt ↦ let step = up i j lt lj in absurd (omega (arith, step, same))
  | inr le ↦ elim (cases_eq i j) [ inl e ↦ e | inr ne ↦ let step = up j i (omega (arith, le, ne)) li in absurd (omega (arith, step, same)) ]
]

-- ---- both directions

pair_by : (a b : ℕ) (s t : Bool) → ltb a b ≡ s → ltb b a ≡ t → let p : ℕ × ℕ = cond s (a, b) (b, a) in p ≡ cond t (b, a) (a, b)
pair_by a b true true p q = absurd (both a b p q)
  where
    both : (a b : ℕ) → ltb a b ≡ true → ltb b a ≡ true → ⊥
    both a b p q = grind (arith, nat_tests)
pair_by a b true false p q = refl
pair_by a b false true p q = refl
pair_by a b false false p q = let e : a ≡ b = grind (arith, nat_tests) in λ i. (sym e i, e i)

-- both orders of two nodes name one pair
pub pair_of-sym : (a b : ℕ) → pair_of a b ≡ pair_of b a
pair_of-sym a b = pair_by a b (ltb a b) (ltb b a) refl refl

-- so an edge has one weight
pub weight_between-sym : (m : EdgeMap) (a b : ℕ) → weight_between m a b ≡ weight_between m b a
weight_between-sym m a b = ap (get m) (pair_of-sym a b)

-- two walks joined
pub IsWalk-join : (m : EdgeMap) (u : ℕ) (xs : List ℕ) (v : ℕ) (ys : List ℕ) (w : ℕ) → IsWalk m u xs v → IsWalk m v ys w → IsWalk m u (xs ++ ys) w × (walk_length m u (xs ++ ys) ≡ walk_length m u xs + walk_length m v ys)
IsWalk-join m u [] v ys w e h = (subst (λ k. IsWalk m k ys w) (sym e) h, ap (λ k. walk_length m k ys) e ∙ omega arith)
IsWalk-join m u (x ∷ xs) v ys w g h =
    let rest = IsWalk-join m x xs v ys w g.1 h in
    ((g.0, rest.0), ap (λ k. unwrap_or (weight_between m u x) 0 + k) rest.1 ∙ omega arith)

no_edge : (o : Option ℕ) → o ≡ None → IsSome o → ⊥
no_edge o e t = let f : false ≡ true = sym (ap is_some e) ∙ t in cc

-- a walk turned round
pub IsWalk-turned : (m : EdgeMap) (u : ℕ) (xs : List ℕ) (v : ℕ) → IsWalk m u xs v → (ys : List ℕ) × (IsWalk m v ys u × (walk_length m v ys ≡ walk_length m u xs))
IsWalk-turned m u [] v e = ([], (sym e, refl))
IsWalk-turned m u (x ∷ xs) v h =
    let rest = IsWalk-turned m x xs v h.1 in
    elim (weight_between m u x) as (λ o. weight_between m u x ≡ o → (ys : List ℕ) × (IsWalk m v ys u × (walk_length m v ys ≡ walk_length m u (x ∷ xs)))) [
      | None ↦ λ is. absurd (no_edge (weight_between m u x) is h.0)
      | Some w ↦ λ is.
          let p = IsWalk-push m v rest.0 x u w rest.1.0 (weight_between-sym m x u ∙ is) in
          let n : unwrap_or (weight_between m u x) 0 ≡ w = ap (λ o. unwrap_or o 0) is in
          (rest.0 ++ u ∷ [], (p.0, p.1 ∙ ap (λ k. k + w) rest.1.1 ∙ (let e : walk_length m x xs + w ≡ unwrap_or (weight_between m u x) 0 + walk_length m x xs = omega arith in e)))
    ] refl

-- ---- distances

-- the node u as the only source
abbrev pub IsFrom : ℕ → ℕ → Type 0
IsFrom u s = s ≡ u

-- there is one least length
pub IsLeast-unique : (m : EdgeMap) (Source : ℕ → Type 0) (v a b : ℕ) → IsLeast m Source v a → IsLeast m Source v b → a ≡ b
IsLeast-unique m Source v a b p q =
    let up = p.least q.attained.0 q.attained.1.1.0 q.attained.1.0 q.attained.1.1.1.0 in
    let down = q.least p.attained.0 p.attained.1.1.0 p.attained.1.0 p.attained.1.1.1.0 in
    let e = p.attained.1.1.1.1 in
    let f = q.attained.1.1.1.1 in
    omega (arith, up, down, e, f)

-- a way round is no shorter
pub triangle : (m : EdgeMap) (Source : ℕ → Type 0) (v w a b c : ℕ) → IsLeast m Source v a → IsLeast m (IsFrom v) w b → IsLeast m Source w c → c ≤ a + b
triangle m Source v w a b c p q r =
    let first = p.attained.1.1.1.0 in
    let second = subst (λ k. IsWalk m k q.attained.1.1.0 w) q.attained.1.0 q.attained.1.1.1.0 in
    let all = IsWalk-join m p.attained.0 p.attained.1.1.0 v q.attained.1.1.0 w first second in
    let le = r.least p.attained.0 (p.attained.1.1.0 ++ q.attained.1.1.0) p.attained.1.0 all.0 in
    let same : walk_length m v q.attained.1.1.0 ≡ b = ap (λ k. walk_length m k q.attained.1.1.0) (sym q.attained.1.0) ∙ q.attained.1.1.1.1 in
    omega (arith, le, all.1, same, p.attained.1.1.1.1)

-- a distance is no greater than that of the way back
pub distance_turned : (m : EdgeMap) (u v a b : ℕ) → IsLeast m (IsFrom u) v a → IsLeast m (IsFrom v) u b → a ≤ b
distance_turned m u v a b p q =
    let walk = subst (λ k. IsWalk m k q.attained.1.1.0 u) q.attained.1.0 q.attained.1.1.1.0 in
    let back = IsWalk-turned m v q.attained.1.1.0 u walk in
    let le = p.least u back.0 refl back.1.0 in
    let same : walk_length m v q.attained.1.1.0 ≡ b = ap (λ k. walk_length m k q.attained.1.1.0) (sym q.attained.1.0) ∙ q.attained.1.1.1.1 in
    omega (arith, le, back.1.1, same)

-- ---- changes

-- a change keeps the number of nodes
pub after-nodes : (g h : Network) (change : List Op) → after g change ≡ Ok h → h.nodes ≡ g.nodes
after-nodes g h change is =
    elim (edges_after g.nodes g.edges 0 change) as (λ r. elim r as (λ _. Result Network (ℕ × Code)) [ Ok m ↦ Ok (record g { edges = m }) | Err e ↦ Err e ] ≡ Ok h → h.nodes ≡ g.nodes) [
      | Ok m ↦ λ e. let same : record { nodes = g.nodes; edges = m } ≡ h = cc in sym (ap (λ (k : Network). k.nodes) same)
      | Err e ↦ λ f. absurd (cc)
    ] is

-- changes accepted from a network, where there is one
abbrev pub fold_on : Option Network → List (List Op) → Option Network
fold_on None changes = None
fold_on (Some g) changes = fold g changes

-- a fold in two parts
pub fold-append : (g : Network) (first second : List (List Op)) → fold g (first ++ second) ≡ fold_on (fold g first) second
fold-append g [] second = refl
fold-append g (change ∷ first) second =
    elim (after g change) as (λ r. elim r as (λ _. Option Network) [ Ok h ↦ fold h (first ++ second) | Err e ↦ None ] ≡ fold_on (elim r as (λ _. Option Network) [ Ok h ↦ fold h first | Err e ↦ None ]) second) [
      | Ok h ↦ fold-append h first second
      | Err e ↦ refl
    ]

-- one more change that is accepted
pub fold-push : (g h k : Network) (changes : List (List Op)) (change : List Op) → fold g changes ≡ Some h → after h change ≡ Ok k → fold g (changes ++ change ∷ []) ≡ Some k
fold-push g h k changes change is next =
    fold-append g changes (change ∷ []) ∙ ap (λ o. fold_on o (change ∷ [])) is
    ∙ ap (λ r. elim r as (λ _. Option Network) [ Ok h ↦ Some h | Err e ↦ None ]) next
