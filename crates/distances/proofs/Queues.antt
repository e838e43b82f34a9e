-- The entries that wait in a heap.
use Rattle.std.proofs.Common.{◌≡◌, ℕ, zero, suc, ◌+◌, ◌*◌, ◌<◌, ◌≤◌, Bool, true, false, cond, ◌&&◌, ◌≢◌, ◌⊎◌, inl, inr, List, [], ◌∷◌, ◌++◌, map, length, take, get_or, set, Option, Some, None, eqb, ltb, refl, sym, ap, ◌∙◌, subst, arith, length-append, get_or-set_same, get_or-set_other}
use Rattle.std.specs.List.{All, Contains, count_by}
use Rattle.std.specs.List.Sorted.{IsPermutation}
use Rattle.std.specs.BinaryHeap.{IsHeap, IsUpperBound, lt_by_cmp}
use Rattle.std.proofs.lemmas.Bool.{cases_eq, cases_lt, and_parts}
use Rattle.std.proofs.lemmas.Bool.Decides.{nat_tests}
use Rattle.std.proofs.lemmas.List.Elements.{All-cons, All-head, All-tail, All-same, All-weaker, All-contains, All-from_recursion, All-nil, Contains-append_right}
use Rattle.std.proofs.lemmas.List.Sorted.{All-permutation, Contains-permutation, length_permutation}
use Rattle.std.proofs.lemmas.List.Sums.{count_by_more_yes, count_by_more_no, sum_by_push}
use Rattle.std.proofs.lemmas.Option.{same_Some, none-some}
use Rattle.graph_edits.specs.Edges.{Network, below, most_nodes}
use Rattle.distances.specs.declared.search.Settled.{Settled}
use Rattle.distances.specs.Search.{is_below, is_better, offered, flag_at, number_at, first_number, degrees, HasNode}
use Rattle.distances.specs.Waiting.{Entry, nearest_first, waiting_key, IsQueue, IsJoined, IsTracked, Waits}
use Rattle.graph_edits.specs.Edges.{degree_of}
use Rattle.distances.proofs.Progress.{IsNext, has_here, has_push}
use Rattle.distances.proofs.Turns.{number_set, first_at, flag_set_same, flag_set_other}
use Rattle.std.proofs.HeapSift.{at_most}
use Rattle.std.proofs.lemmas.List.{get_or_past}
use Rattle.std.proofs.Math.ListN.{get_or-append}
use Rattle.std.proofs.Math.Seq.{get_or-append_seam}

abbrev pub IsEntry : ℕ → (ℕ → Option ℕ) → Entry → Type 0
IsEntry n number q = (q.0.node < n) × ((e : ℕ) × ((number q.0.node ≡ Some e) × (e ≤ q.0.distance)))

-- ---- lists

contains_first : {X : Type 0} (x : X) (xs : List X) → Contains (x ∷ xs) x
contains_first x xs = (0, omega arith, refl)

contains_more : {X : Type 0} (x : X) (xs : List X) (q : X) → Contains xs q → Contains (x ∷ xs) q
contains_more x xs q c = Contains-append_right (x ∷ []) xs q c

contains_cases : {X : Type 0} (x : X) (xs : List X) (q : X) → Contains (x ∷ xs) q → (x ≡ q) ⊎ Contains xs q
contains_cases x xs q (zero, lt, e) = inl e
contains_cases x xs q (suc k, lt, e) = inr (k, omega (arith, lt), e)

joined_entries : (P : Entry → Type 0) (b : Bool) (s : Settled) (xs ys : List Entry) → IsJoined b s xs ys → All P xs → ((q : Entry) → q.0 ≡ s → P q) → All P ys
joined_entries P true s xs ys j all one = All-permutation P (j.0 ∷ xs) ys j.1.1 (All-cons P j.0 xs (one j.0 j.1.0) all)
joined_entries P false s xs ys e all one = All-same P ys xs e all

joined_contains : (b : Bool) (s : Settled) (xs ys : List Entry) (q : Entry) → IsJoined b s xs ys → Contains xs q → Contains ys q
joined_contains true s xs ys q j c = Contains-permutation (j.0 ∷ xs) ys q j.1.1 (contains_more j.0 xs q c)
joined_contains false s xs ys q e c = subst (λ l. Contains l q) (sym e) c

joined_one : (s : Settled) (xs ys : List Entry) → IsJoined true s xs ys → (q : Entry) × (Contains ys q × (q.0 ≡ s))
joined_one s xs ys j = (j.0, (Contains-permutation (j.0 ∷ xs) ys j.0 j.1.1 (contains_first j.0 xs), j.1.0))

pub joined_length : (b : Bool) (s : Settled) (xs ys : List Entry) → IsJoined b s xs ys → length ys ≡ length xs + cond b 1 0
joined_length true s xs ys j = let e = length_permutation (j.0 ∷ xs) ys j.1.1 in omega arith
joined_length false s xs ys e = let k = ap length e in omega arith

-- ---- an offer

module _ (n : ℕ) (number number' : ℕ → Option ℕ) (done : ℕ → Bool) (xs : List Entry) (h : IsQueue n number done xs) where
  queue_kept : (ys : List Entry) → ys ≡ xs → ((z : ℕ) → number' z ≡ number z) → IsQueue n number' done ys
  queue_kept ys e same = record {
    entries = All-same (IsEntry n number') ys xs e (All-weaker (IsEntry n number) (IsEntry n number') (λ q r. (r.0, (r.1.0, (same q.0.node ∙ r.1.1.0, r.1.1.1)))) xs h.entries);
    waits = λ y d o is. let w = h.waits y d o (sym (same y) ∙ is) in (w.0, (subst (λ l. Contains l w.0) (sym e) w.1.0, w.1.1, w.1.2));
  }

  module _ (s : Settled) (lt : s.node < n) (here : number' s.node ≡ Some s.distance) (others : (z : ℕ) → z ≢ s.node → number' z ≡ number z) (better : is_better s.distance (number s.node) ≡ true) where
    below_here : (e : ℕ) → number s.node ≡ Some e → s.distance < e
    below_here e is = let t : ltb s.distance e ≡ true = sym (ap (is_better s.distance) is) ∙ better in grind (arith, nat_tests)

    entry_falls : (q : Entry) → IsEntry n number q → IsEntry n number' q
    entry_falls q r = elim (cases_eq q.0.node s.node) [
      | inl e ↦ let k = below_here r.1.0 (ap number (sym e) ∙ r.1.1.0) in let le = r.1.1.1 in (r.0, (s.distance, (ap number' e ∙ here, omega arith)))
      | inr ne ↦ (r.0, (r.1.0, (others q.0.node ne ∙ r.1.1.0, r.1.1.1)))
    ]

    queue_joined : (ys : List Entry) → IsJoined true s xs ys → IsQueue n number' done ys
    queue_joined ys j = record {
      entries = joined_entries (IsEntry n number') true s xs ys j (All-weaker (IsEntry n number) (IsEntry n number') entry_falls xs h.entries)
          (λ q e. let node : q.0.node ≡ s.node = ap (λ t. t.node) e in let distance : q.0.distance ≡ s.distance = ap (λ t. t.distance) e in (omega (arith, lt, node), (s.distance, (ap number' node ∙ here, omega (arith, distance)))));
      waits = λ y d o is. elim (cases_eq y s.node) [
        | inl e ↦ let w = joined_one s xs ys j in let same : s.distance ≡ d = same_Some s.distance d (sym here ∙ ap number' (sym e) ∙ is) in
            (w.0, (w.1.0, ap (λ t. t.node) w.1.1 ∙ sym e, ap (λ t. t.distance) w.1.1 ∙ same))
        | inr ne ↦ let w = h.waits y d o (sym (others y ne) ∙ is) in (w.0, (joined_contains true s xs ys w.0 j w.1.0, w.1.1, w.1.2))
      ];
    }

pub queue_offered : (n : ℕ) (tentative : List (Option ℕ)) (done : ℕ → Bool) (xs ys : List Entry) (limit : Option ℕ) (s : Settled) → s.node < n → s.node < length tentative → IsQueue n (number_at tentative) done xs
    → IsJoined (is_below s.distance limit && is_better s.distance (number_at tentative s.node)) s xs ys → IsQueue n (number_at (set tentative s.node (offered limit s.distance (number_at tentative s.node)))) done ys
queue_offered n tentative done xs ys limit s lt within h j =
    let same : eqb s.node s.node ≡ true = grind (arith, nat_tests) in
    elim (is_below s.distance limit && is_better s.distance (number_at tentative s.node)) as (λ b. (is_below s.distance limit && is_better s.distance (number_at tentative s.node)) ≡ b → IsJoined b s xs ys
    → IsQueue n (number_at (set tentative s.node (cond b (Some s.distance) (number_at tentative s.node)))) done ys) [
      | true ↦ λ t k. queue_joined n (number_at tentative) (number_at (set tentative s.node (Some s.distance))) done xs h s lt
          (number_set tentative s.node s.node (Some s.distance) within ∙ ap (λ b. cond b (Some s.distance) (number_at tentative s.node)) same)
          (λ z ne. let f : eqb z s.node ≡ false = grind (arith, nat_tests) in number_set tentative s.node z (Some s.distance) within ∙ ap (λ b. cond b (Some s.distance) (number_at tentative z)) f)
          (and_parts _ _ t).1 ys k
      | false ↦ λ t k. queue_kept n (number_at tentative) (number_at (set tentative s.node (number_at tentative s.node))) done xs h ys k
          (λ z. number_set tentative s.node z (number_at tentative s.node) within ∙ elim (cases_eq z s.node) [
            | inl e ↦ subst (λ y. cond (eqb y s.node) (number_at tentative s.node) (number_at tentative y) ≡ number_at tentative y) (sym e) (ap (λ b. cond b (number_at tentative s.node) (number_at tentative s.node)) same)
            | inr ne ↦ let f : eqb z s.node ≡ false = grind (arith, nat_tests) in ap (λ b. cond b (number_at tentative s.node) (number_at tentative z)) f
          ])
    ] refl j

-- ---- a pop

-- a popped entry is that of the node and distance read from it
abbrev pub entry_of : Settled → Entry
entry_of s = record { 0 = s }

pub popped_as : (s : Settled) (x : Entry) (xs ys : List Entry) → s ≡ x.0 → IsPermutation xs (x ∷ ys) → IsPermutation xs (entry_of s ∷ ys)
popped_as s x xs ys e moved = subst (λ t. IsPermutation xs (entry_of t ∷ ys)) (sym e) moved

pub greatest_as : (s : Settled) (x : Entry) (xs : List Entry) → s ≡ x.0 → IsUpperBound nearest_first x xs → IsUpperBound nearest_first (entry_of s) xs
greatest_as s x xs e greatest = subst (λ t. IsUpperBound nearest_first (entry_of t) xs) (sym e) greatest

-- one number is no greater than another where the pairs aren't: nodes are below 2^16
precedes_from : (p q : Entry) → p.0.node < 65536 → q.0.node < 65536 → lt_by_cmp nearest_first p q ≡ false → (p.0.distance < q.0.distance) ⊎ ((p.0.distance ≡ q.0.distance) × (p.0.node ≤ q.0.node))
precedes_from p q small small' h =
    let le : p.0.distance * 65536 + p.0.node ≤ q.0.distance * 65536 + q.0.node = at_most (waiting_key q.0) (waiting_key p.0) h in
    elim (cases_eq p.0.distance q.0.distance) [
      | inl e ↦ inr (e, omega (arith, le, e))
      | inr ne ↦ inl (omega (arith, le, ne, small, small'))
    ]

module _ (n : ℕ) (number : ℕ → Option ℕ) (done : ℕ → Bool) (xs ys : List Entry) (x : Entry) (h : IsQueue n number done xs) (moved : IsPermutation xs (x ∷ ys)) where
  here : IsEntry n number x
  here = All-head (IsEntry n number) x ys (All-permutation (IsEntry n number) xs (x ∷ ys) moved h.entries)

  pub popped_within : x.0.node < n
  popped_within = here.0

  module _ (greatest : IsUpperBound nearest_first x xs) (small : n ≤ most_nodes) where
    over : (q : Entry) → Contains xs q → (x.0.distance < q.0.distance) ⊎ ((x.0.distance ≡ q.0.distance) × (x.0.node ≤ q.0.node))
    over q c = precedes_from x q (omega (arith, popped_within, small)) (let r = All-contains (IsEntry n number) xs q h.entries c in let lt = r.0 in omega (arith, lt, small)) (All-contains (λ y. lt_by_cmp nearest_first x y ≡ false) xs q (All-from_recursion (λ y. lt_by_cmp nearest_first x y ≡ false) xs greatest) c)

    at_number : (e : ℕ) → number x.0.node ≡ Some e → e ≤ x.0.distance → done x.0.node ≡ false → number x.0.node ≡ Some x.0.distance
    at_number e is le o =
        let w = h.waits x.0.node e o is in
        let k = w.1.2 in
        let same : e ≡ x.0.distance = elim (over w.0 w.1.0) [ inl lt ↦ omega arith | inr t ↦ omega (arith, t.0) ] in
        is ∙ ap Some same

    pub popped_nearest : done x.0.node ≡ false → IsNext done number x.0.node x.0.distance
    popped_nearest o = record {
      is_open = o;
      has = at_number here.1.0 here.1.1.0 here.1.1.1 o;
      least = λ y e f is.
          let w = h.waits y e f is in
          let k = w.1.1 in
          let l = w.1.2 in
          elim (over w.0 w.1.0) [ inl lt ↦ inl (omega arith) | inr t ↦ inr (omega (arith, t.0), omega (arith, t.1)) ];
    }

  pub popped_rest : (done' : ℕ → Bool) → done' x.0.node ≡ true → ((y : ℕ) → done' y ≡ false → done y ≡ false) → IsQueue n number done' ys
  popped_rest done' now others = record {
    entries = All-tail (IsEntry n number) x ys (All-permutation (IsEntry n number) xs (x ∷ ys) moved h.entries);
    waits = λ y e o is.
        let w = h.waits y e (others y o) is in
        elim (contains_cases x ys w.0 (Contains-permutation xs (x ∷ ys) w.0 moved w.1.0)) [
          | inl same ↦ let t : true ≡ false = sym now ∙ ap done' (ap (λ (q : Entry). q.0.node) same ∙ w.1.1) ∙ o in absurd (cc)
          | inr c ↦ (w.0, (c, w.1.1, w.1.2))
        ];
  }

-- ---- the start

abbrev pub IsStart : List Bool → Entry → Type 0
IsStart sources q = (q.0.node < length sources) × (flag_at sources q.0.node ≡ true) × (q.0.distance ≡ 0)

-- the sources among the first k nodes wait
pub record IsStarted (sources : List Bool) (k : ℕ) (waiting : List Entry) : Type 0 where
  pub entries : All (IsStart sources) waiting
  pub waits : (y : ℕ) → y < k → flag_at sources y ≡ true → (q : Entry) × (Contains waiting q × (q.0.node ≡ y) × (q.0.distance ≡ 0))
  pub counted : length waiting ≡ count_by (λ s. s) (take k sources)

pub started_more : (sources : List Bool) (k : ℕ) (s : Settled) (xs ys : List Entry) → k < length sources → s.node ≡ k → s.distance ≡ 0 → IsStarted sources k xs → IsJoined (flag_at sources k) s xs ys → IsStarted sources (k + 1) ys
started_more sources k s xs ys lt node distance h j = elim (flag_at sources k) as (λ b. flag_at sources k ≡ b → IsJoined b s xs ys → IsStarted sources (k + 1) ys) [
  | true ↦ λ t i. record {
    entries = joined_entries (IsStart sources) true s xs ys i h.entries (λ q e. let m : q.0.node ≡ k = ap (λ u. u.node) e ∙ node in (omega (arith, m, lt), ap (flag_at sources) m ∙ t, ap (λ u. u.distance) e ∙ distance));
    waits = λ y l f. elim (cases_eq y k) [
      | inl e ↦ let w = joined_one s xs ys i in (w.0, (w.1.0, ap (λ u. u.node) w.1.1 ∙ node ∙ sym e, ap (λ u. u.distance) w.1.1 ∙ distance))
      | inr ne ↦ let w = h.waits y (omega arith) f in (w.0, (joined_contains true s xs ys w.0 i w.1.0, w.1.1, w.1.2))
    ];
    counted = let m = joined_length true s xs ys i in let c : count_by (λ b. b) (take (k + 1) sources) ≡ count_by (λ b. b) (take k sources) + 1 = count_by_more_yes (λ b. b) sources k false lt t in let v = h.counted in omega arith;
  }
  | false ↦ λ t i. record {
    entries = All-same (IsStart sources) ys xs i h.entries;
    waits = λ y l f. elim (cases_eq y k) [
      | inl e ↦ let u : true ≡ false = sym f ∙ ap (flag_at sources) e ∙ t in absurd (cc)
      | inr ne ↦ let w = h.waits y (omega arith) f in (w.0, (joined_contains false s xs ys w.0 i w.1.0, w.1.1, w.1.2))
    ];
    counted = let m = ap length i in let c : count_by (λ b. b) (take (k + 1) sources) ≡ count_by (λ b. b) (take k sources) = count_by_more_no (λ b. b) sources k false lt t in let v = h.counted in omega arith;
  }
] refl j

first_number_at : (sources : List Bool) (y : ℕ) (b : Bool) → flag_at sources y ≡ b → number_at (map first_number sources) y ≡ first_number b
first_number_at sources y b t = first_at sources y ∙ ap first_number t

pub started_all : (sources : List Bool) (k : ℕ) (waiting : List Entry) (done : ℕ → Bool) → length sources ≤ k → IsStarted sources k waiting → IsQueue (length sources) (number_at (map first_number sources)) done waiting
started_all sources k waiting done le h = record {
  entries = All-weaker (IsStart sources) (IsEntry (length sources) (number_at (map first_number sources))) (λ q r. let z = r.2 in (r.0, (0, (first_number_at sources q.0.node true r.1, omega arith)))) waiting h.entries;
  waits = λ y e o is. elim (flag_at sources y) as (λ b. flag_at sources y ≡ b → (q : Entry) × (Contains waiting q × (q.0.node ≡ y) × (q.0.distance ≡ e))) [
    | true ↦ λ t.
        let zero_is : 0 ≡ e = same_Some 0 e (sym (first_number_at sources y true t) ∙ is) in
        let w = h.waits y (flag_within sources y k t le) t in
        (w.0, (w.1.0, w.1.1, w.1.2 ∙ zero_is))
    | false ↦ λ t. absurd (none-some e (sym (first_number_at sources y false t) ∙ is))
  ] refl;
}
  where
    flag_within : (sources : List Bool) (y k : ℕ) → flag_at sources y ≡ true → length sources ≤ k → y < k
    flag_within sources y k t le = elim (cases_lt y (length sources)) [ inl lt ↦ omega arith | inr past ↦ let u : true ≡ false = sym t ∙ get_or_past sources y false past in absurd (cc) ]

-- ---- degrees

pub degrees_push : (g : Network) (order : List Settled) (s : Settled) → degrees g (order ++ s ∷ []) ≡ degrees g order + degree_of g s.node
degrees_push g order s = sum_by_push (λ s. degree_of g s.node) order s

-- the most pops of a search: each node is a source at most once, and each has fewer neighbours than there are nodes
abbrev pub most_pops : ℕ
most_pops = most_nodes + most_nodes * most_nodes

pub joined_few : (b : Bool) (s : Settled) (xs ys : List Entry) → IsJoined b s xs ys → length ys ≤ length xs + 1
joined_few true s xs ys j = let e = joined_length true s xs ys j in omega arith
joined_few false s xs ys j = let e = joined_length false s xs ys j in omega arith

pub popped_length : (x : Entry) (xs ys : List Entry) → IsPermutation xs (x ∷ ys) → length xs ≡ length ys + 1
popped_length x xs ys moved = let e = length_permutation xs (x ∷ ys) moved in omega arith

pub open_before : (done : List Bool) (x y : ℕ) → x < length done → flag_at (set done x true) y ≡ false → flag_at done y ≡ false
open_before done x y lt o = elim (cases_eq y x) [
  | inl e ↦ let u : true ≡ false = sym (flag_set_same done x lt) ∙ ap (flag_at (set done x true)) (sym e) ∙ o in absurd (cc)
  | inr ne ↦ sym (flag_set_other done x y ne) ∙ o
]

pub none_waits : (n : ℕ) (number : ℕ → Option ℕ) (done : ℕ → Bool) (waiting : List Entry) → IsQueue n number done waiting → length waiting ≡ 0 → (y : ℕ) → done y ≡ false → number y ≡ None
none_waits n number done waiting h none y o = elim (number y) as (λ r. number y ≡ r → number y ≡ None) [
  | None ↦ λ is. is
  | Some e ↦ λ is. let w = h.waits y e o is in let lt = w.1.0.1 in absurd (omega arith)
] refl

-- ---- what a search has touched

-- the nodes of a settled list and those that wait, by the flags and the queue
pub tracked_by : (n : ℕ) (number : ℕ → Option ℕ) (done : ℕ → Bool) (order : List Settled) (waiting : List Entry) → IsQueue n number done waiting → ((y : ℕ) → done y ≡ true → HasNode y order) → All (λ s. s.node < n) order
    → IsTracked n number done order waiting
tracked_by n number done order waiting queue complete within = record {
  numbered = λ y e is. elim (done y) as (λ b. done y ≡ b → HasNode y order ⊎ Waits y waiting) [
    | true ↦ λ t. inl (complete y t)
    | false ↦ λ o. let w = queue.waits y e o is in inr (w.0, (w.1.0, w.1.1))
  ] refl;
  flagged = complete;
  listed = within;
  entries = All-weaker (IsEntry n number) (λ q. q.0.node < n) (λ q r. r.0) waiting queue.entries;
}

pub has_before : (y : ℕ) (order : List Settled) (s : Settled) → HasNode y (order ++ s ∷ []) → y ≢ s.node → HasNode y order
has_before y [] s (inl e) ne = absurd (ne (sym e))
has_before y [] s (inr h) ne = absurd h
has_before y (t ∷ ts) s (inl e) ne = inl e
has_before y (t ∷ ts) s (inr h) ne = inr (has_before y ts s h ne)

-- each flagged node is listed, also after one more
pub complete_push : (done : List Bool) (order : List Settled) (s : Settled) → s.node < length done → ((y : ℕ) → flag_at done y ≡ true → HasNode y order) → (y : ℕ) → flag_at (set done s.node true) y ≡ true → HasNode y (order ++ s ∷ [])
complete_push done order s lt complete y t = elim (cases_eq y s.node) [
  | inl e ↦ has_here y order s e
  | inr ne ↦ has_push y order s (complete y (sym (flag_set_other done s.node y ne) ∙ t))
]

number_past : (numbers : List (Option ℕ)) (x y e : ℕ) → x < length numbers → number_at (set numbers x None) y ≡ Some e → (y ≢ x) × (number_at numbers y ≡ Some e)
number_past numbers x y e lt is = elim (cases_eq y x) [
  | inl at ↦
      let t : eqb y x ≡ true = grind (arith, nat_tests) in
      absurd (none-some e (sym (number_set numbers x y None lt ∙ ap (λ b. cond b None (number_at numbers y)) t) ∙ is))
  | inr ne ↦
      let f : eqb y x ≡ false = grind (arith, nat_tests) in
      (ne, sym (number_set numbers x y None lt ∙ ap (λ b. cond b None (number_at numbers y)) f) ∙ is)
]

flag_past : (flags : List Bool) (x y : ℕ) → x < length flags → flag_at (set flags x false) y ≡ true → (y ≢ x) × (flag_at flags y ≡ true)
flag_past flags x y lt t = elim (cases_eq y x) [
  | inl at ↦ let u : true ≡ false = sym t ∙ ap (flag_at (set flags x false)) at ∙ get_or-set_same flags x false false lt in absurd (cc)
  | inr ne ↦ (ne, sym (get_or-set_other flags x y false false ne) ∙ t)
]

waits_before : (y : ℕ) (xs ys : List Entry) (x : Entry) → IsPermutation xs (x ∷ ys) → Waits y xs → y ≢ x.0.node → Waits y ys
waits_before y xs ys x moved w ne = elim (contains_cases x ys w.0 (Contains-permutation xs (x ∷ ys) w.0 moved w.1.0)) [
  | inl same ↦ absurd (ne (sym (w.1.1) ∙ ap (λ (q : Entry). q.0.node) (sym same)))
  | inr c ↦ (w.0, (c, w.1.1))
]

all_front : {X : Type 0} (P : X → Type 0) (xs ys : List X) → All P (xs ++ ys) → All P xs
all_front P xs ys h = λ i d lt. subst P (get_or-append xs ys d i lt) (h i d (let e = length-append xs ys in omega arith))

-- the last settled node is cleaned
pub tracked_listed : (n : ℕ) (numbers : List (Option ℕ)) (flags : List Bool) (before after : List Settled) (s : Settled) (waiting : List Entry) → s.node < length numbers → s.node < length flags → before ≡ after ++ s ∷ []
    → IsTracked n (number_at numbers) (flag_at flags) before waiting → IsTracked n (number_at (set numbers s.node None)) (flag_at (set flags s.node false)) after waiting
tracked_listed n numbers flags before after s waiting lt within e h = record {
  numbered = λ y d is.
      let p = number_past numbers s.node y d lt is in
      elim (h.numbered y d p.1) [ inl l ↦ inl (has_before y after s (subst (HasNode y) e l) p.0) | inr w ↦ inr w ];
  flagged = λ y t. let p = flag_past flags s.node y within t in has_before y after s (subst (HasNode y) e (h.flagged y p.1)) p.0;
  listed = all_front (λ s. s.node < n) after (s ∷ []) (subst (All (λ s. s.node < n)) e h.listed);
  entries = h.entries;
}

-- a node that waits is cleaned
pub tracked_entry : (n : ℕ) (numbers : List (Option ℕ)) (done : ℕ → Bool) (order : List Settled) (before after : List Entry) (x : Entry) → x.0.node < length numbers → IsPermutation before (x ∷ after)
    → IsTracked n (number_at numbers) done order before → IsTracked n (number_at (set numbers x.0.node None)) done order after
tracked_entry n numbers done order before after x lt moved h = record {
  numbered = λ y d is.
      let p = number_past numbers x.0.node y d lt is in
      elim (h.numbered y d p.1) [ inl l ↦ inl l | inr w ↦ inr (waits_before y before after x moved w p.0) ];
  flagged = h.flagged;
  listed = h.listed;
  entries = All-tail (λ q. q.0.node < n) x after (All-permutation (λ q. q.0.node < n) before (x ∷ after) moved h.entries);
}

-- the last of the order, and an entry that is popped, are nodes
pub last_listed : (n : ℕ) (before after : List Settled) (s : Settled) → before ≡ after ++ s ∷ [] → All (λ s. s.node < n) before → s.node < n
last_listed n before after s e h =
    let len = length-append after (s ∷ []) in
    let at : get_or (after ++ s ∷ []) (length after) s ≡ s = get_or-append_seam after s [] s in
    subst (λ (t : Settled). t.node < n) at (subst (All (λ s. s.node < n)) e h (length after) s (omega arith))

pub first_entry : (n : ℕ) (before after : List Entry) (x : Entry) → IsPermutation before (x ∷ after) → All (λ q. q.0.node < n) before → x.0.node < n
first_entry n before after x moved h = All-head (λ q. q.0.node < n) x after (All-permutation (λ q. q.0.node < n) before (x ∷ after) moved h)

-- an empty queue, where nothing has a number
pub queue_empty : (n : ℕ) (number : ℕ → Option ℕ) (done : ℕ → Bool) (waiting : List Entry) → waiting ≡ [] → ((y : ℕ) → number y ≡ None) → IsQueue n number done waiting
queue_empty n number done waiting empty none = record {
  entries = subst (All (IsEntry n number)) (sym empty) (All-nil (IsEntry n number));
  waits = λ y e o is. absurd (none-some e (sym (none y) ∙ is));
}

-- the same numbers and the same entries
pub queue_same : (n : ℕ) (number : ℕ → Option ℕ) (done : ℕ → Bool) (xs ys : List Entry) → ys ≡ xs → IsQueue n number done xs → IsQueue n number done ys
queue_same n number done xs ys e h = subst (IsQueue n number done) (sym e) h

-- no entries make a heap
pub heap_empty : (waiting : List Entry) → waiting ≡ [] → IsHeap nearest_first waiting
unfolding IsHeap
heap_empty waiting empty = subst (λ l. IsHeap nearest_first l) (sym empty) (λ p k d low from to below. absurd (omega (arith, below)))
