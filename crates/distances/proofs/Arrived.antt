-- The arrivals at the nodes, while a search goes on and in its end.
use Rattle.std.proofs.Common.{◌≡◌, ℕ, ◌+◌, ◌<◌, ◌≤◌, Bool, true, false, cond, ◌&&◌, ◌||◌, ◌≢◌, ◌↔◌, inl, inr, List, [], ◌∷◌, length, get_or, set, Option, Some, None, eqb, ltb, refl, sym, ap, ◌∙◌, subst, arith, get_or-set_same, get_or-set_other}
use Rattle.std.proofs.lemmas.Bool.{cases_eq, and_from, and_parts, both_ways, ltb-false, or_cases, or_parts, or_left}
use Rattle.std.proofs.Math.Bool.{and-false}
use Rattle.std.proofs.lemmas.Bool.Decides.{nat_tests}
use Rattle.std.proofs.lemmas.List.{get_or_default}
use Rattle.std.proofs.lemmas.Option.{same_Some, none-some, slice_get-get_or, slice_get_cases}
use Rattle.std.specs.Option.{option_map, IfSome}
use Rattle.std.specs.List.{All}
use Rattle.std.proofs.lemmas.List.Elements.{All-nil, All-cons}
use Rattle.distances.specs.declared.reach.Reached.{Reached}
use Rattle.graph_edits.specs.Edges.{Network, IsSound, weight_between, neighbours_of, degree_of, over_port}
use Rattle.graph_edits.specs.Laws.{Contains-neighbours_of, weight_between-sym, rising_neighbours, rising_once}
use Rattle.distances.specs.declared.search.Settled.{Settled}
use Rattle.distances.specs.declared.search.Arrival.{Arrival}
use Rattle.distances.specs.Search.{is_below, is_better, number_at, IsRelaxed, EachSettled}
use Rattle.distances.specs.Table.{IsTightBy, IsFirstTight}
use Rattle.distances.specs.Arrivals.{arrival_at, is_tied, is_smaller, is_taken, is_nearer, arrived, neighbour, IsArriving, IsArrival, AreArrivals, IsOverPort, parent_by}
use Rattle.distances.proofs.Progress.{Progress, IsNext, settled_stays, here_stays, number_before}
use Rattle.distances.proofs.Turns.{neighbour_at}

-- ---- the offers

-- the arrivals after the offers to the first i neighbours
pub record AreArriving (g : Network) (limit : ℕ → Option ℕ) (x d : ℕ) (number number' : ℕ → Option ℕ) (before after : ℕ → Option Arrival) (i : ℕ) : Type 0 where
  pub first : (k : ℕ) → k < i → after (neighbour g x k).0
      ≡ arrived (limit (neighbour g x k).0) (d + (neighbour g x k).1) (number (neighbour g x k).0) (before (neighbour g x k).0) (record { parent = x; down = k })
  pub rest : (y : ℕ) → ((k : ℕ) → k < i → (neighbour g x k).0 ≢ y) → (after y ≡ before y) × (number' y ≡ number y)

-- an arrival at a node that is nearer already changes nothing
pub late_arrival : (limit : Option ℕ) (a : ℕ) (o : Option ℕ) (was : Option Arrival) (new : Arrival) → is_nearer o a ≡ true → arrived limit a o was new ≡ was
late_arrival limit a None was new t = let e : false ≡ true = t in absurd (cc)
late_arrival limit a (Some e) was new t =
    let no : ltb a e ≡ false = grind (arith, nat_tests) in
    let apart : eqb e a ≡ false = grind (arith, nat_tests) in
    ap (λ b. cond ((is_below a limit && b) || (eqb e a && is_smaller new.parent was)) (Some new) was) no
    ∙ ap (λ b. cond (b || (eqb e a && is_smaller new.parent was)) (Some new) was) (and-false (is_below a limit))
    ∙ ap (λ b. cond (b && is_smaller new.parent was) (Some new) was) apart

module _ (g : Network) (limit : ℕ → Option ℕ) (x d : ℕ) (number : ℕ → Option ℕ) (before : ℕ → Option Arrival) (i y w : ℕ) (numbers : List (Option ℕ)) (arrivals : List (Option Arrival))
    (h : AreArriving g limit x d number (number_at numbers) before (arrival_at arrivals) i) (lt : i < degree_of g x) (here : neighbour g x i ≡ (y, w)) (fits : y < length arrivals) where
  node : (neighbour g x i).0 ≡ y
  node = ap (λ (p : ℕ × ℕ). p.0) here

  other : (k : ℕ) → k < i → (neighbour g x k).0 ≢ y
  other k before_i e = let up = rising_neighbours g x k i before_i lt in absurd (omega (arith, up, e, node))

  pub arriving_step : (o : Option ℕ) (new : Option Arrival) → new ≡ arrived (limit y) (d + w) (number_at numbers y) (arrival_at arrivals y) (record { parent = x; down = i })
      → AreArriving g limit x d number (number_at (set numbers y o)) before (arrival_at (set arrivals y new)) (i + 1)
  arriving_step o new is = record {
    first = λ k below. elim (cases_eq k i) [
      | inl e ↦ subst (λ j. arrival_at (set arrivals y new) (neighbour g x j).0
          ≡ arrived (limit (neighbour g x j).0) (d + (neighbour g x j).1) (number (neighbour g x j).0) (before (neighbour g x j).0) (record { parent = x; down = j })) (sym e)
          (subst (λ (p : ℕ × ℕ). arrival_at (set arrivals y new) p.0 ≡ arrived (limit p.0) (d + p.1) (number p.0) (before p.0) (record { parent = x; down = i })) (sym here)
          (let old = h.rest y other in
          get_or-set_same arrivals y new None fits ∙ is ∙ ap (λ o. arrived (limit y) (d + w) o (arrival_at arrivals y) (record { parent = x; down = i })) old.1
          ∙ ap (λ a. arrived (limit y) (d + w) (number y) a (record { parent = x; down = i })) old.0))
      | inr ne ↦ let le : k < i = omega arith in get_or-set_other arrivals y (neighbour g x k).0 new None (other k le) ∙ h.first k le
    ];
    rest = λ z none.
        let ne : z ≢ y = λ e. none i (omega arith) (node ∙ sym e) in
        let old = h.rest z (λ k below. none k (omega arith)) in
        (get_or-set_other arrivals y z new None ne ∙ old.0, get_or-set_other numbers y z o None ne ∙ old.1);
  }

pub arriving_done : (g : Network) (limit : ℕ → Option ℕ) (x d : ℕ) (number number' : ℕ → Option ℕ) (before after : ℕ → Option Arrival) (i : ℕ) → i ≡ degree_of g x → AreArriving g limit x d number number' before after i
    → IsArriving g limit x d number before after
arriving_done g limit x d number number' before after i e h = record {
  neighbours = λ k lt. h.first k (omega arith);
  others = λ y none. (h.rest y (λ k lt. none k (omega arith))).0;
}

-- a port by its place among the neighbours
pub port_at : (g : Network) (x k : ℕ) → k < degree_of g x → over_port g x k ≡ Some (neighbour g x k).0
port_at g x k lt = ap (option_map (λ (e : ℕ × ℕ). e.0)) (slice_get-get_or (neighbours_of g x) k (0, 0) lt)

-- a node stands behind one port
pub port_both : (g : Network) (x y down : ℕ) → over_port g x down ≡ Some y → (port : ℕ) → (Some down ≡ Some port) ↔ (over_port g x port ≡ Some y)
port_both g x y down is port = (
  (λ e. ap (over_port g x) (sym (same_Some down port e)) ∙ is),
  λ at.
      let a = behind g x down y is in
      let b = behind g x port y at in
      ap Some (rising_once (neighbours_of g x) (rising_neighbours g x) down port a.0 b.0 (a.1 ∙ sym b.1)),
)
  where
    behind : (g : Network) (x k y : ℕ) → over_port g x k ≡ Some y → (k < degree_of g x) × ((neighbour g x k).0 ≡ y)
    behind g x k y is = elim (slice_get_cases (neighbours_of g x) k).1 [
      | inl h ↦ (h.1, same_Some (neighbour g x k).0 y (sym (port_at g x k h.1) ∙ is))
      | inr h ↦ absurd (none-some y (sym (ap (option_map (λ (e : ℕ × ℕ). e.0)) h.1) ∙ is))
    ]

-- ---- a turn

tied_is : (d e : ℕ) (o : Option ℕ) → is_tied d o ≡ true → o ≡ Some e → e ≡ d
tied_is d e o t is = let u : eqb e d ≡ true = sym (ap (is_tied d) is) ∙ t in grind (arith, nat_tests)

smaller_is : (x : ℕ) (o : Option Arrival) → is_smaller x o ≡ true → (a : Arrival) × ((o ≡ Some a) × (x < a.parent))
smaller_is x None t = let u : false ≡ true = t in absurd (cc)
smaller_is x (Some a) t = (a, (refl, grind (arith, nat_tests)))

module _ (g : Network) (sound : IsSound g) (Source : ℕ → Type 0) (limit : ℕ → Option ℕ) (number number' : ℕ → Option ℕ) (done done' : ℕ → Bool) (order : List Settled) (p : Progress g.edges Source limit number done order) (x d : ℕ)
    (nearest : IsNext done number x d) (r : IsRelaxed g.edges limit x d number number') (now : done' x ≡ true) (others : (y : ℕ) → y ≢ x → done' y ≡ done y)
    (arrival arrival' : ℕ → Option Arrival) (before : AreArrivals g number done arrival) (arriving : IsArriving g limit x d number arrival arrival') where
  here : number' x ≡ Some d
  here = here_stays g.edges Source limit number number' done done' order sound.weighted p x d nearest r now others

  still : (z : ℕ) → done z ≡ true → done' z ≡ true
  still z t = elim (cases_eq z x) [ inl e ↦ ap done' e ∙ now | inr ne ↦ others z ne ∙ t ]

  after_tight : (y e z : ℕ) → done z ≡ true → IsTightBy g.edges number y e z → IsTightBy g.edges number' y e z
  after_tight y e z t h = (h.0, (h.1.0, (settled_stays g.edges Source limit number number' done done' order sound.weighted p x d nearest r now others z h.0 t h.1.1.0, h.1.1.1, h.1.1.2)))

  before_tight : (y e z : ℕ) → done' z ≡ true → z ≢ x → IsTightBy g.edges number' y e z → (done z ≡ true) × IsTightBy g.edges number y e z
  before_tight y e z t ne h = (sym (others z ne) ∙ t, (h.0, (h.1.0, ((number_before g.edges Source limit number number' done done' order sound.weighted p x d nearest r now others z h.0 t h.1.1.0).0, h.1.1.1, h.1.1.2))))

  -- where x attains the distance of y, it does so over their edge
  from_here : (y e : ℕ) → IsTightBy g.edges number' y e x → (w : ℕ) × ((weight_between g.edges x y ≡ Some w) × (e ≡ d + w))
  from_here y e h =
      let f : h.0 ≡ d = same_Some h.0 d (sym h.1.1.0 ∙ here) in
      (h.1.0, (weight_between-sym g.edges x y ∙ h.1.1.1, sym h.1.1.2 ∙ ap (λ n. n + h.1.0) f))

  -- an arrival stays where x attains the distance not, or is greater than the parent
  kept : (y e : ℕ) (o : Option Arrival) → IsArrival g number done y e o → ((a : Arrival) → o ≡ Some a → IsTightBy g.edges number' y e x → a.parent ≤ x) → IsArrival g number' done' y e o
  kept y e None h le = h
  kept y e (Some a) h le = (
    still a.parent h.0,
    after_tight y e a.parent h.0 h.1,
    λ z t tight. elim (cases_eq z x) [
      | inl same ↦ let low = le a refl (subst (λ k. IsTightBy g.edges number' y e k) same tight) in omega (arith, low, same)
      | inr ne ↦ let b = before_tight y e z t ne tight in h.2 z b.0 b.1
    ],
    h.3,
  )

  tight_here : (y e w : ℕ) → weight_between g.edges x y ≡ Some w → e ≡ d + w → IsTightBy g.edges number' y e x
  tight_here y e w edge is = (d, (w, (here, weight_between-sym g.edges y x ∙ edge, sym is)))

  -- no node settled earlier attains a distance that is better than all before
  fresh : (y w k : ℕ) → weight_between g.edges x y ≡ Some w → is_below (d + w) (limit y) ≡ true → is_better (d + w) (number y) ≡ true → over_port g x k ≡ Some y
      → IsArrival g number' done' y (d + w) (Some (record { parent = x; down = k }))
  fresh y w k edge below better port = (
    now,
    tight_here y (d + w) w edge refl,
    λ z t tight. elim (cases_eq z x) [
      | inl same ↦ omega (arith, same)
      | inr ne ↦
          let b = before_tight y (d + w) z t ne tight in
          let f = b.1.0 in
          let v = b.1.1.0 in
          let reached = p.relaxed z f y v b.0 b.1.1.1.0 (weight_between-sym g.edges z y ∙ b.1.1.1.1) (subst (λ n. is_below n (limit y) ≡ true) (sym b.1.1.1.2) below) in
          let less : ltb (d + w) reached.0 ≡ true = sym (ap (is_better (d + w)) reached.1.0) ∙ better in
          let lt = less_from (d + w) reached.0 less in
          absurd (omega (arith, reached.1.1, b.1.1.1.2, lt))
    ],
    port,
  )
    where
      less_from : (a b : ℕ) → ltb a b ≡ true → a < b
      less_from a b t = grind (arith, nat_tests)

  smaller : (y e w k : ℕ) (a : Arrival) → number y ≡ Some e → e ≡ d + w → weight_between g.edges x y ≡ Some w → arrival y ≡ Some a → x < a.parent → over_port g x k ≡ Some y
      → IsArrival g number' done' y e (Some (record { parent = x; down = k }))
  smaller y e w k a is sum edge at low port =
      let old : IsArrival g number done y e (Some a) = subst (IsArrival g number done y e) at (before y e is) in (
        now,
        tight_here y e w edge sum,
        λ z t tight. elim (cases_eq z x) [
          | inl same ↦ omega (arith, same)
          | inr ne ↦ let b = before_tight y e z t ne tight in let le = old.2 z b.0 b.1 in omega (arith, le, low)
        ],
        port,
      )

  -- a neighbour whose number stayed has not a better one over x
  no_better : (y e w : ℕ) → weight_between g.edges x y ≡ Some w → number' y ≡ Some e → number y ≡ Some e → (is_below (d + w) (limit y) && is_better (d + w) (number y)) ≡ true → ⊥
  no_better y e w edge is was t =
      let b = and_parts _ _ t in
      let reached = r.reached y w edge b.0 in
      let same : reached.0 ≡ e = same_Some reached.0 e (sym reached.1.0 ∙ is) in
      let less : ltb (d + w) e ≡ true = sym (ap (is_better (d + w)) was) ∙ b.1 in
      let lt = less_from (d + w) e less in
      omega (arith, reached.1.1, same, lt)
    where
      less_from : (a b : ℕ) → ltb a b ≡ true → a < b
      less_from a b t = grind (arith, nat_tests)

  stayed : (y e w k : ℕ) → weight_between g.edges x y ≡ Some w → number' y ≡ Some e → number y ≡ Some e → over_port g x k ≡ Some y
      → IsArrival g number' done' y e (arrived (limit y) (d + w) (number y) (arrival y) (record { parent = x; down = k }))
  stayed y e w k edge is was port =
      let new : Arrival = record { parent = x; down = k } in
      elim (is_taken (limit y) (d + w) (number y) (arrival y) new) as (λ b. is_taken (limit y) (d + w) (number y) (arrival y) new ≡ b → IsArrival g number' done' y e (cond b (Some new) (arrival y))) [
        | true ↦ λ t. elim (or_cases _ _ t) [
          | inl first ↦ absurd (no_better y e w edge is was first)
          | inr second ↦
              let b = and_parts _ _ second in
              let a = smaller_is x (arrival y) b.1 in
              smaller y e w k a.0 was (tied_is (d + w) e (number y) b.0 was) edge a.1.0 a.1.1 port
        ]
        | false ↦ λ t. kept y e (arrival y) (before y e was) (λ a at tight.
            let h = from_here y e tight in
            let same : h.0 ≡ w = same_Some h.0 w (sym h.1.0 ∙ edge) in
            let sum : e ≡ d + w = h.1.1 ∙ ap (λ n. d + n) same in
            let u : eqb e (d + w) ≡ true = grind (arith, nat_tests) in
            let tied : is_tied (d + w) (number y) ≡ true = ap (is_tied (d + w)) was ∙ u in
            by (is_smaller x (arrival y)) refl a at tied (or_parts _ _ t).1)
      ] refl
    where
      by : (b : Bool) → is_smaller x (arrival y) ≡ b → (a : Arrival) → arrival y ≡ Some a → is_tied (d + w) (number y) ≡ true → (is_tied (d + w) (number y) && is_smaller x (arrival y)) ≡ false → a.parent ≤ x
      by true s a at tied none = absurd (both_ways _ none (and_from _ _ tied s))
      by false s a at tied none = let f : ltb x a.parent ≡ false = sym (ap (is_smaller x) at) ∙ s in ltb-false x a.parent f

  at_neighbour : (y e w k : ℕ) → weight_between g.edges x y ≡ Some w → number' y ≡ Some e → over_port g x k ≡ Some y
      → IsArrival g number' done' y e (arrived (limit y) (d + w) (number y) (arrival y) (record { parent = x; down = k }))
  at_neighbour y e w k edge is port = elim (r.changed y) [
    | inl same ↦ stayed y e w k edge is (sym same ∙ is) port
    | inr h ↦
        let new : Arrival = record { parent = x; down = k } in
        let weight : h.0 ≡ w = same_Some h.0 w (sym h.1.0 ∙ edge) in
        let sum : d + w ≡ e = ap (λ n. d + n) (sym weight) ∙ same_Some (d + h.0) e (sym h.1.1 ∙ is) in
        let below : is_below (d + w) (limit y) ≡ true = ap (λ n. is_below (d + n) (limit y)) (sym weight) ∙ h.1.2 in
        let better : is_better (d + w) (number y) ≡ true = ap (λ n. is_better (d + n) (number y)) (sym weight) ∙ h.1.3 in
        let taken : is_taken (limit y) (d + w) (number y) (arrival y) new ≡ true = or_left _ _ (and_from _ _ below better) in
        subst (λ n. IsArrival g number' done' y n (arrived (limit y) (d + w) (number y) (arrival y) new)) sum
        (subst (λ b. IsArrival g number' done' y (d + w) (cond b (Some new) (arrival y))) (sym taken) (fresh y w k edge below better port))
  ]

  pub arrivals_turn : AreArrivals g number' done' arrival'
  arrivals_turn y e is = elim (weight_between g.edges x y) as (λ o. weight_between g.edges x y ≡ o → IsArrival g number' done' y e (arrival' y)) [
    | None ↦ λ none.
        let same : arrival' y ≡ arrival y = arriving.others y (λ k lt at. none-some _ (sym none ∙ ap (weight_between g.edges x) (sym at) ∙ neighbour_at g x (neighbours_of g x) k refl lt)) in
        let was : number y ≡ Some e = elim (r.changed y) [ inl s ↦ sym s ∙ is | inr h ↦ absurd (none-some h.0 (sym none ∙ h.1.0)) ] in
        subst (IsArrival g number' done' y e) (sym same) (kept y e (arrival y) (before y e was) (λ a at tight. let h = from_here y e tight in absurd (none-some h.0 (sym none ∙ h.1.0))))
    | Some w ↦ λ edge.
        let c = Contains-neighbours_of g x y w (sound.within x y w edge).1 edge in
        let at : neighbour g x c.0 ≡ (y, w) = get_or_default (neighbours_of g x) c.0 (0, 0) (y, w) c.1 ∙ c.2 in
        let port : over_port g x c.0 ≡ Some y = port_at g x c.0 c.1 ∙ ap (λ (q : ℕ × ℕ). Some q.0) at in
        let is_arrived : arrival' y ≡ arrived (limit y) (d + w) (number y) (arrival y) (record { parent = x; down = c.0 }) =
        subst (λ (q : ℕ × ℕ). arrival' q.0 ≡ arrived (limit q.0) (d + q.1) (number q.0) (arrival q.0) (record { parent = x; down = c.0 })) at (arriving.neighbours c.0 c.1) in
        subst (IsArrival g number' done' y e) (sym is_arrived) (at_neighbour y e w c.0 edge is port)
  ] refl

-- ---- in the end

pub arrivals_done : (g : Network) (number : ℕ → Option ℕ) (done : ℕ → Bool) (arrival : ℕ → Option Arrival) → ((y : ℕ) → done y ≡ false → number y ≡ None) → AreArrivals g number done arrival → AreArrivals g number (λ _. true) arrival
arrivals_done g number done arrival none_open h y e is = by (arrival y) (h y e is)
  where
    settled : (z : ℕ) → IsTightBy g.edges number y e z → (b : Bool) → done z ≡ b → b ≡ true
    settled z t true f = refl
    settled z t false f = absurd (none-some t.0 (sym (none_open z f) ∙ t.1.1.0))

    by : (o : Option Arrival) → IsArrival g number done y e o → IsArrival g number (λ _. true) y e o
    by None k = k
    by (Some a) k = (refl, k.1, λ z t tight. k.2 z (settled z tight (done z) refl) tight, k.3)

pub first_by : (g : Network) → IsSound g → (number : ℕ → Option ℕ) (y e : ℕ) (o : Option Arrival) → IsArrival g number (λ _. true) y e o → IsFirstTight g.edges number y e (parent_by o)
first_by g sound number y e None h = λ z t. let one = (sound.weighted y z t.1.0 t.1.1.1).0 in absurd (omega (arith, one, t.1.1.2, h))
first_by g sound number y e (Some a) h = (h.1, λ z t. h.2 z refl t)

pub first_each : (g : Network) → IsSound g → (number : ℕ → Option ℕ) (arrival : ℕ → Option Arrival) → AreArrivals g number (λ _. true) arrival → (tree : List Reached) → All (λ r. number r.node ≡ Some r.distance) tree
    → All (λ r. r.parent ≡ parent_by (arrival r.node)) tree → All (λ r. IsFirstTight g.edges number r.node r.distance r.parent) tree
first_each g sound number arrival h tree numbers parents = λ i d lt.
    let r = get_or tree i d in
    subst (IsFirstTight g.edges number r.node r.distance) (sym (parents i d lt)) (first_by g sound number r.node r.distance (arrival r.node) (h r.node r.distance (numbers i d lt)))

port_of : (g : Network) (number : ℕ → Option ℕ) (y e : ℕ) (o : Option Arrival) → IsArrival g number (λ _. true) y e o → IfSome o (IsOverPort g y)
port_of g number y e None h = tt
port_of g number y e (Some a) h = h.3

pub ports_each : (g : Network) (number : ℕ → Option ℕ) (arrival : ℕ → Option Arrival) → AreArrivals g number (λ _. true) arrival → (order : List Settled) → EachSettled (λ x d. number x ≡ Some d) order
    → All (λ s. IfSome (arrival s.node) (IsOverPort g s.node)) order
ports_each g number arrival h [] l = All-nil (λ s. IfSome (arrival s.node) (IsOverPort g s.node))
ports_each g number arrival h (s ∷ ss) l = All-cons (λ s. IfSome (arrival s.node) (IsOverPort g s.node)) s ss (port_of g number s.node s.distance (arrival s.node) (h s.node s.distance l.0)) (ports_each g number arrival h ss l.1)
