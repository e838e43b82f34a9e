-- The edges of a network node by node, each in the row of its smaller node: together they are the entries of its map.
use Rattle.std.proofs.Common.{◌≡◌, ◌⊎◌, inl, inr, ℕ, zero, suc, ◌<◌, ◌≤◌, Bool, true, false, cond, ◌&&◌, ◌||◌, T, List, [], ◌∷◌, ◌++◌, Option, None, Some, Less, Equal, is_lt, ltb, eqb, nat_cmp, refl, sym, ap, ◌∙◌, subst, arith, append_assoc}
use Rattle.std.specs.Prelude.{nat_lt}
use Rattle.std.specs.Option.{option_map}
use Rattle.std.specs.Ordering.{ordering_then}
use Rattle.std.specs.Cmp.{nat_cmp_is}
use Rattle.std.specs.List.{flat_map, filter_map, cons_option, AllByRecursion}
use Rattle.std.specs.FinMap.{find, get, entries, entries_sorted, get-entries, is_sorted}
use Rattle.std.specs.FinMap.Entries.{below_all, find-append, same_entries}
use Rattle.std.proofs.lemmas.List.{append-nil}
use Rattle.std.proofs.lemmas.List.Concat.{flat_map-append, flat_map-cons}
use Rattle.std.proofs.lemmas.List.Elements.{filter_map-append}
use Rattle.std.proofs.lemmas.Bool.Decides.{nat_tests}
use Rattle.graph_edits.specs.Edges.{EdgeMap, Network, pair_cmp, pair_of, weight_in, below, neighbours_of, IsSound}
use Rattle.graph_edits.proofs.EdgesOfRows.{pair_total, pair_same, pair_tied}

-- edges in ascending order
abbrev Listed : Type 0
Listed = List ((ℕ × ℕ) × ℕ)

-- ---- an entry behind those with smaller keys

-- each key is below k
abbrev AllBelow : ℕ × ℕ → Listed → Type 0
AllBelow k es = AllByRecursion (λ e. pair_cmp e.0 k ≡ Less) es

low_more : (k l : ℕ × ℕ) (es : Listed) → pair_cmp k l ≡ Less → AllBelow k es → AllBelow l es
low_more k l [] lt low = tt
low_more k l (e ∷ es) lt low = (pair_total.trans e.0 k l low.0 lt, low_more k l es lt low.1)

low_push : (k q : ℕ × ℕ) (w : ℕ) (es : Listed) → pair_cmp q k ≡ Less → AllBelow k es → AllBelow k (es ++ (q, w) ∷ [])
low_push k q w [] lt low = (lt, tt)
low_push k q w (e ∷ es) lt low = (low.0, low_push k q w es lt low.1)

both : (a b : Bool) → T a → T b → T (a && b)
both true b p q = q
both false b p q = p

first : (a b : Bool) → T (a && b) → T a
first true b p = tt
first false b p = p

second : (a b : Bool) → T (a && b) → T b
second true b p = p
second false b p = absurd p

below_push : (p k : ℕ × ℕ) (w : ℕ) (es : Listed) → pair_cmp p k ≡ Less → T (below_all pair_cmp p es) → T (below_all pair_cmp p (es ++ (k, w) ∷ []))
below_push p k w [] lt h = both _ _ (subst (λ o. T (is_lt o)) (sym lt) tt) tt
below_push p k w (e ∷ es) lt h = both _ _ (first _ _ h) (below_push p k w es lt (second _ _ h))

sorted_push : (k : ℕ × ℕ) (w : ℕ) (es : Listed) → AllBelow k es → T (is_sorted pair_cmp es) → T (is_sorted pair_cmp (es ++ (k, w) ∷ []))
sorted_push k w [] low s = tt
sorted_push k w (e ∷ es) low s = both _ _ (below_push e.0 k w es low.0 (first _ _ s)) (sorted_push k w es low.1 (second _ _ s))

-- ---- the entries up to a key

-- a pair comes before another
abbrev before : ℕ × ℕ → ℕ × ℕ → Bool
before q k = ltb q.0 k.0 || (eqb q.0 k.0 && ltb q.1 k.1)

is_less : (q k : ℕ × ℕ) → before q k ≡ true → pair_cmp q k ≡ Less
is_less q k is = by (ltb q.0 k.0) refl
  where
    by : (t : Bool) → ltb q.0 k.0 ≡ t → pair_cmp q k ≡ Less
    by true lt = let l : q.0 < k.0 = grind (arith, nat_tests, lt) in ap (λ o. ordering_then o (nat_cmp q.1 k.1)) (sym (nat_cmp_is q.0 k.0 Less l))
    by false ge =
        let same : q.0 ≡ k.0 = grind (arith, nat_tests, ge, is) in
        let l : q.1 < k.1 = grind (arith, nat_tests, ge, is) in
        ap (λ o. ordering_then o (nat_cmp q.1 k.1)) (sym (nat_cmp_is q.0 k.0 Equal same)) ∙ sym (nat_cmp_is q.1 k.1 Less l)

-- es are the entries of m before k
record IsPart (m : EdgeMap) (k : ℕ × ℕ) (es : Listed) : Type 0 where
  low : AllBelow k es
  sorted : T (is_sorted pair_cmp es)
  found : (q : ℕ × ℕ) → find pair_cmp q es ≡ cond (before q k) (get m q) None

-- with the entry at the next key
taken : (m : EdgeMap) (x y w : ℕ) (es : Listed) → get m (x, y) ≡ Some w → IsPart m (x, y) es → IsPart m (x, suc y) (es ++ ((x, y), w) ∷ [])
taken m x y w es is p = record {
  low = low_push (x, suc y) (x, y) w es (is_less (x, y) (x, suc y) (next x y)) (low_more (x, y) (x, suc y) es (is_less (x, y) (x, suc y) (next x y)) p.low);
  sorted = sorted_push (x, y) w es p.low p.sorted;
  found = λ q.
      find-append pair_cmp pair_total es (x, y) w q (p.found (x, y) ∙ missing x y (get m (x, y)))
      ∙ ap (λ t. cond t (Some w) (find pair_cmp q es)) (pair_tied q (x, y))
      ∙ ap (λ o. cond (eqb q.0 x && eqb q.1 y) (Some w) o) (p.found q)
      ∙ settled q.0 q.1 (get m q) (λ e f. (λ i. get m (e i, f i)) ∙ is);
}
  where
    next : (a b : ℕ) → before (a, b) (a, suc b) ≡ true
    next a b = grind (arith, nat_tests)

    missing : (a b : ℕ) (o : Option ℕ) → cond (before (a, b) (a, b)) o None ≡ None
    missing a b o = grind (arith, nat_tests)

    settled : (a b : ℕ) (o : Option ℕ) → (a ≡ x → b ≡ y → o ≡ Some w) → cond (eqb a x && eqb b y) (Some w) (cond (before (a, b) (x, y)) o None) ≡ cond (before (a, b) (x, suc y)) o None
    settled a b o h = grind (arith, nat_tests)

-- no entry there
passed : (m : EdgeMap) (x y : ℕ) (es : Listed) → get m (x, y) ≡ None → IsPart m (x, y) es → IsPart m (x, suc y) es
passed m x y es is p = record {
  low = low_more (x, y) (x, suc y) es (is_less (x, y) (x, suc y) (next x y)) p.low;
  sorted = p.sorted;
  found = λ q. p.found q ∙ settled q.0 q.1 (get m q) (λ e f. (λ i. get m (e i, f i)) ∙ is);
}
  where
    next : (a b : ℕ) → before (a, b) (a, suc b) ≡ true
    next a b = grind (arith, nat_tests)

    settled : (a b : ℕ) (o : Option ℕ) → (a ≡ x → b ≡ y → o ≡ None) → cond (before (a, b) (x, y)) o None ≡ cond (before (a, b) (x, suc y)) o None
    settled a b o h = grind (arith, nat_tests)

-- ---- the rows of neighbours

pub pair_in_order : (a b : ℕ) → a < b → pair_of a b ≡ (a, b)
pair_in_order a b lt = let t : ltb a b ≡ true = grind (arith, nat_tests) in ap (λ s. cond s (a, b) (b, a)) t

-- the edge to a neighbour that is the greater node
abbrev up : ℕ → ℕ × ℕ → Listed
up node e = cond (nat_lt node e.0) (((node, e.0), e.1) ∷ []) []

-- those in the row of a node
abbrev all_up : Network → ℕ → Listed
all_up g node = flat_map (up node) (neighbours_of g node)

-- and in the rows of the nodes below n
abbrev rows : Network → ℕ → Listed
rows g n = flat_map (all_up g) (below n)

module _ (g : Network) (each : (q : ℕ × ℕ) (w : ℕ) → get g.edges q ≡ Some w → (q.0 < q.1) × (q.1 < g.nodes)) where
  abbrev neighbour : ℕ → ℕ → Option (ℕ × ℕ)
  neighbour x y = option_map (λ w. (y, w)) (weight_in g x y)

  -- the part of a row up to a node
  abbrev row : ℕ → ℕ → Listed
  row x y = flat_map (up x) (filter_map (neighbour x) (below y))

  abbrev cell : ℕ → ℕ → Listed
  cell x y = flat_map (up x) (cons_option (neighbour x y) [])

  row_grows : (x y : ℕ) → row x (suc y) ≡ row x y ++ cell x y
  row_grows x y = ap (flat_map (up x)) (filter_map-append (neighbour x) (below y) (y ∷ [])) ∙ flat_map-append (up x) (filter_map (neighbour x) (below y)) (cons_option (neighbour x y) [])

  one : (x y w : ℕ) → flat_map (up x) ((y, w) ∷ []) ≡ cond (ltb x y) (((x, y), w) ∷ []) []
  one x y w = flat_map-cons (up x) (y, w) [] ∙ append-nil (up x (y, w))

  some_cell : (x y w : ℕ) → get g.edges (x, y) ≡ Some w → cell x y ≡ ((x, y), w) ∷ []
  some_cell x y w is =
      let lt : x < y = (each (x, y) w is).0 in
      let weight : weight_in g x y ≡ Some w = ap (get g.edges) (pair_in_order x y lt) ∙ is in
      let t : ltb x y ≡ true = grind (arith, nat_tests, lt) in
      ap (λ (o : Option ℕ). flat_map (up x) (cons_option (option_map (λ v. (y, v)) o) [])) weight ∙ one x y w ∙ ap (λ b. cond b (((x, y), w) ∷ []) []) t

  none_cell : (x y : ℕ) → get g.edges (x, y) ≡ None → cell x y ≡ []
  none_cell x y is = by (ltb x y) refl
    where
      over : ltb x y ≡ false → (o : Option ℕ) → flat_map (up x) (cons_option (option_map (λ v. (y, v)) o) []) ≡ []
      over ge None = refl
      over ge (Some w) = one x y w ∙ ap (λ b. cond b (((x, y), w) ∷ []) []) ge

      by : (t : Bool) → ltb x y ≡ t → cell x y ≡ []
      by true lt = let l : x < y = grind (arith, nat_tests, lt) in ap (λ (o : Option ℕ). flat_map (up x) (cons_option (option_map (λ v. (y, v)) o) [])) (ap (get g.edges) (pair_in_order x y l) ∙ is)
      by false ge = over ge (weight_in g x y)

  row_part : (x y : ℕ) (es : Listed) → IsPart g.edges (x, 0) es → IsPart g.edges (x, y) (es ++ row x y)
  row_part x zero es p = subst (IsPart g.edges (x, 0)) (sym (append-nil es)) p
  row_part x (suc y) es p = by (row_part x y es p) (get g.edges (x, y)) refl
    where
      grown : (last : Listed) → cell x y ≡ last → (es ++ row x y) ++ last ≡ es ++ row x (suc y)
      grown last is = append_assoc es (row x y) last ∙ ap (λ (l : Listed). es ++ l) (sym (row_grows x y ∙ ap (λ (l : Listed). row x y ++ l) is))

      by : IsPart g.edges (x, y) (es ++ row x y) → (o : Option ℕ) → get g.edges (x, y) ≡ o → IsPart g.edges (x, suc y) (es ++ row x (suc y))
      by so_far (Some w) e = subst (IsPart g.edges (x, suc y)) (grown (((x, y), w) ∷ []) (some_cell x y w e)) (taken g.edges x y w (es ++ row x y) e so_far)
      by so_far None e = subst (IsPart g.edges (x, suc y)) (sym (append-nil (es ++ row x y)) ∙ grown [] (none_cell x y e)) (passed g.edges x y (es ++ row x y) e so_far)

  none_past : (q : ℕ × ℕ) → (g.nodes ≤ q.0) ⊎ (g.nodes ≤ q.1) → get g.edges q ≡ None
  none_past q out = by (get g.edges q) refl
    where
      clash : (q.0 < q.1) × (q.1 < g.nodes) → (g.nodes ≤ q.0) ⊎ (g.nodes ≤ q.1) → ⊥
      clash edge (inl le) = omega (arith, edge.0, edge.1, le)
      clash edge (inr le) = omega (arith, edge.1, le)

      by : (o : Option ℕ) → get g.edges q ≡ o → o ≡ None
      by None e = refl
      by (Some w) e = absurd (clash (each q w e) out)

  -- the next node
  next_row : (x : ℕ) (es : Listed) → IsPart g.edges (x, g.nodes) es → IsPart g.edges (suc x, 0) es
  next_row x es p = record {
    low = low_more (x, g.nodes) (suc x, 0) es (is_less (x, g.nodes) (suc x, 0) (next x g.nodes)) p.low;
    sorted = p.sorted;
    found = λ q. p.found q ∙ settled q.0 q.1 g.nodes (get g.edges q) (λ le. none_past q (inr le));
  }
    where
      next : (a b : ℕ) → before (a, b) (suc a, 0) ≡ true
      next a b = grind (arith, nat_tests)

      settled : (a b n : ℕ) (o : Option ℕ) → (n ≤ b → o ≡ None) → cond (before (a, b) (x, n)) o None ≡ cond (before (a, b) (suc x, 0)) o None
      settled a b n o h = grind (arith, nat_tests)

  rows_grow : (x : ℕ) → rows g (suc x) ≡ rows g x ++ row x g.nodes
  rows_grow x = flat_map-append (all_up g) (below x) (x ∷ []) ∙ ap (λ (l : Listed). rows g x ++ l) (flat_map-cons (all_up g) x [] ∙ append-nil (all_up g x))

  rows_part : (x : ℕ) → IsPart g.edges (x, 0) (rows g x)
  rows_part zero = record { low = tt; sorted = tt; found = λ q. settled q.0 q.1 (get g.edges q) }
    where
      settled : (a b : ℕ) (o : Option ℕ) → None ≡ cond (before (a, b) (0, 0)) o None
      settled a b o = grind (arith, nat_tests)
  rows_part (suc x) = next_row x (rows g (suc x)) (subst (IsPart g.edges (x, g.nodes)) (sym (rows_grow x)) (row_part x g.nodes (rows g x) (rows_part x)))

  -- the rows of all nodes are the entries
  all_rows : rows g g.nodes ≡ entries g.edges
  all_rows =
      let p = rows_part g.nodes in
      same_entries pair_cmp pair_total pair_same (rows g g.nodes) (entries g.edges) p.sorted (entries_sorted g.edges) (λ q.
      p.found q ∙ settled q.0 q.1 g.nodes (get g.edges q) (λ le. none_past q (inl le)) ∙ get-entries g.edges q)
    where
      settled : (a b n : ℕ) (o : Option ℕ) → (n ≤ a → o ≡ None) → cond (before (a, b) (n, 0)) o None ≡ o
      settled a b n o h = grind (arith, nat_tests)

-- ---- what is made of each edge

flat_twice : {A B X : Type 0} (f : B → List X) (h : A → List B) (xs : List A) → flat_map f (flat_map h xs) ≡ flat_map (λ x. flat_map f (h x)) xs
flat_twice f h [] = refl
flat_twice f h (x ∷ xs) =
    ap (flat_map f) (flat_map-cons h x xs) ∙ flat_map-append f (h x) (flat_map h xs) ∙ ap (λ l. flat_map f (h x) ++ l) (flat_twice f h xs) ∙ sym (flat_map-cons (λ x. flat_map f (h x)) x xs)

flat_same : {A X : Type 0} (f h : A → List X) → ((x : A) → f x ≡ h x) → (xs : List A) → flat_map f xs ≡ flat_map h xs
flat_same f h is [] = refl
flat_same f h is (x ∷ xs) = flat_map-cons f x xs ∙ (λ i. is x i ++ flat_same f h is xs i) ∙ sym (flat_map-cons h x xs)

module _ {X : Type 0} (f : (ℕ × ℕ) × ℕ → List X) where
  -- what f makes of the edge to a neighbour that is the greater node
  abbrev made : ℕ → ℕ × ℕ → List X
  made node e = cond (nat_lt node e.0) (f ((node, e.0), e.1)) []

  made_up : (node : ℕ) (e : ℕ × ℕ) → made node e ≡ flat_map f (up node e)
  made_up node e = by (ltb node e.0)
    where
      by : (b : Bool) → cond b (f ((node, e.0), e.1)) [] ≡ flat_map f (cond b (((node, e.0), e.1) ∷ []) [])
      by true = sym (flat_map-cons f ((node, e.0), e.1) [] ∙ append-nil (f ((node, e.0), e.1)))
      by false = refl

  made_row : (g : Network) (node : ℕ) → flat_map (made node) (neighbours_of g node) ≡ flat_map f (all_up g node)
  made_row g node = flat_same (made node) (λ e. flat_map f (up node e)) (made_up node) (neighbours_of g node) ∙ sym (flat_twice f (up node) (neighbours_of g node))

  -- row by row it is what f makes of the entries, if each of them names its smaller node first, and then another node
  pub rows_are_entries : (g : Network) → ((q : ℕ × ℕ) (w : ℕ) → get g.edges q ≡ Some w → (q.0 < q.1) × (q.1 < g.nodes))
      → flat_map (λ node. flat_map (λ e. cond (nat_lt node e.0) (f ((node, e.0), e.1)) []) (neighbours_of g node)) (below g.nodes) ≡ flat_map f (entries g.edges)
  rows_are_entries g each =
      flat_same (λ node. flat_map (made node) (neighbours_of g node)) (λ node. flat_map f (all_up g node)) (made_row g) (below g.nodes)
      ∙ sym (flat_twice f (all_up g) (below g.nodes))
      ∙ ap (flat_map f) (all_rows g each)

  -- as in a network that is sound
  pub sound_rows_are_entries : (g : Network) → IsSound g
      → flat_map (λ node. flat_map (λ e. cond (nat_lt node e.0) (f ((node, e.0), e.1)) []) (neighbours_of g node)) (below g.nodes) ≡ flat_map f (entries g.edges)
  sound_rows_are_entries g sound = rows_are_entries g (λ q w is.
      let lt : q.0 < q.1 = sound.ordered q.0 q.1 w is in
      (lt, (sound.within q.0 q.1 w (ap (get g.edges) (pair_in_order q.0 q.1 lt) ∙ is)).1))
