-- The place of a number in a list, as a search has narrowed it down.
use Rattle.std.proofs.Common.{◌≡◌, ◌≢◌, ◌⊎◌, inl, inr, ℕ, zero, suc, ◌+◌, ◌-◌, ◌*◌, ◌/◌, ◌^◌, ◌≤◌, ◌<◌, ◌==◌, Bool, true, false, cond, sym, refl, ap, subst, ◌∙◌, arith, add-one, below_more, List, [], ◌∷◌, length, map, nat_lt}
use Rattle.std.specs.Prelude.{Option, Some, None, Result, Ok, Err, IsTrue, ◌↔◌, slice_index, get_or}
use Rattle.std.specs.Result.{result_ok}
use Rattle.std.specs.List.{IsAllAdjacentAnswer}
use Rattle.std.specs.List.Sorted.{IsStrictlyIncreasing}
use Rattle.std.proofs.lemmas.Bool.{cases_eq, cases_lt, eq-eqb, false≢true, ltb-true, ltb-false, ne_eqb}
use Rattle.std.proofs.lemmas.List.{get_or-map, length-map, map-id}
use Rattle.std.proofs.lemmas.Map.Keys.{below_from_sorted, sorted_from_strictly_increasing}
use Rattle.schemes.specs.Apart.{AreEighths, IsLocated, LiesBetween}
use Rattle.schemes.specs.Entry.{Entry}
use Rattle.schemes.specs.declared.parts.Listed.{Listed}
use Rattle.schemes.specs.Ports.{index_of, one_more}
use Rattle.schemes.specs.Tables.{roots_of, nodes_of, first_entry, first_listed}
use Rattle.schemes.proofs.Basics.Options.{not_none}

-- ---- the numbers of a list

pub key_at : {X : Type 0} (key : X → ℕ) (xs : List X) (i : ℕ) (d : X) → i < length xs → slice_index (map key xs) i ≡ key (get_or xs i d)
key_at key xs i d l = get_or-map key xs i d 0 l

-- what stands at a place, and the number that was read of it
pub key_there : {X : Type 0} (key : X → ℕ) (xs : List X) (i : ℕ) (x : X) (k : ℕ) → i < length xs → x ≡ get_or xs i x → k ≡ key x → slice_index (map key xs) i ≡ k
key_there key xs i x k l e h = key_at key xs i x l ∙ (sym (ap key e) ∙ sym h)

pub keys_length : {X : Type 0} (key : X → ℕ) (xs : List X) → length (map key xs) ≡ length xs
keys_length key xs = length-map xs key

-- ---- ascending lists

one_of : {X : Type 0} (xs : List X) → 0 < length xs → X
one_of [] l = absurd (omega (arith, l))
one_of (x ∷ xs) l = x

-- what `is_sorted_by` answers of keys that have to rise
pub ascending_answer : {X : Type 0} (key : X → ℕ) (xs : List X) (r : Bool) → IsAllAdjacentAnswer (λ x y b. b ≡ nat_lt (key x) (key y)) xs r → IsTrue r ↔ IsStrictlyIncreasing (map key xs)
ascending_answer key xs true all = (
  λ t k lt.
      (let n = length-map xs key in
      let d = one_of xs (omega (arith, n, lt)) in
      let here = key_at key xs k d (omega (arith, n, lt)) in
      let next = key_at key xs (k + 1) d (omega (arith, n, lt)) in
      let less = ltb-true _ _ (sym (all k d (omega (arith, n, lt)))) in
      omega (arith, here, next, less)),
  λ h. refl,
)
ascending_answer key xs false fall = (
  λ t. absurd (false≢true t),
  λ h. absurd
      (let n = length-map xs key in
      let lt = fall.1 in
      let d = one_of xs (omega (arith, lt)) in
      let here = key_at key xs fall.0 d (omega (arith, lt)) in
      let next = key_at key xs (fall.0 + 1) d (omega (arith, lt)) in
      let less = ltb-false _ _ (sym (fall.2 d)) in
      let up = h fall.0 (omega (arith, n, lt)) in
      omega (arith, here, next, less, up)),
)

pub rises : (ks : List ℕ) → IsStrictlyIncreasing ks → (i j : ℕ) → i < j → j < length ks → slice_index ks i < slice_index ks j
rises ks h i j l m = below_from_sorted ks i j 0 (sorted_from_strictly_increasing ks h) l m

-- ---- the first place

-- no number of the first n is r
abbrev pub IsPast : List ℕ → ℕ → ℕ → Type 0
IsPast ks r n = (i : ℕ) → i < n → slice_index ks i ≢ r

-- a number that stands at i and nowhere before is found there
pub index_at : (ks : List ℕ) (r i : ℕ) → i < length ks → slice_index ks i ≡ r → IsPast ks r i → index_of r ks ≡ Some i
index_at [] r i l e p = absurd (omega arith)
index_at (x ∷ ks) r zero l e p = rw (eq-eqb x r e) refl
index_at (x ∷ ks) r (suc i) l e p =
    rw (ne_eqb x r (p 0 (omega arith)), index_at ks r i (omega arith) e (λ j k. p (suc j) (omega arith))) (ap (λ z. Some z) (add-one i))

pub index_none : (ks : List ℕ) (r : ℕ) → IsPast ks r (length ks) → index_of r ks ≡ None
index_none [] r p = refl
index_none (x ∷ ks) r p = rw (ne_eqb x r (p 0 (omega arith)), index_none ks r (λ j k. p (suc j) (omega arith))) refl

pub past_more : (ks : List ℕ) (r n a : ℕ) → IsPast ks r n → slice_index ks n ≡ a → a ≢ r → IsPast ks r (n + 1)
past_more ks r n a p e ne = below_more (λ i. slice_index ks i ≢ r) n p (λ h. ne (sym e ∙ h))

-- ---- halving

-- what a search by halving has left, after some looks, of a list of n: at most as many more looks as there are digits left
abbrev pub IsHalved : ℕ → ℕ → ℕ → Type 0
IsHalved n looks left = (k : ℕ) → n < 2 ^ k → (j : ℕ) × ((looks + j ≡ k) × (left < 2 ^ j))

pub halved_more : (n looks left rest : ℕ) → IsHalved n looks left → 0 < left → rest + rest ≤ left → IsHalved n (looks + 1) rest
halved_more n looks left rest h pos le k lt = go (h k lt).0 (h k lt).1.0 (h k lt).1.1
  where
    go : (j : ℕ) → looks + j ≡ k → left < 2 ^ j → (i : ℕ) × ((looks + 1 + i ≡ k) × (rest < 2 ^ i))
    go zero e l = absurd (omega (arith, l, pos))
    go (suc i) e l = (i, (omega (arith, e), omega (arith, l, le)))

pub halved_few : (n looks left : ℕ) → IsHalved n looks left → (k : ℕ) → n < 2 ^ k → looks ≤ k
halved_few n looks left h k lt = (let g = h k lt in omega (arith, g.1.0))

-- what a search has narrowed down after some looks, where at first so many places were left
pub record IsNarrowed (ks : List ℕ) (r first low high looks : ℕ) : Type 0 where
  pub between : LiesBetween ks r low high
  pub halved : IsHalved first looks (high - low)
  pub begun : looks ≡ 0 → high - low ≡ first
  pub fits : first < 2 ^ 64

abbrev pub middle : ℕ → ℕ → ℕ
middle low high = low + (high - low) / 2

pub narrowed_up : (ks : List ℕ) (r n low high looks : ℕ) → IsStrictlyIncreasing ks → IsNarrowed ks r n low high looks → low < high
    → (a : ℕ) → slice_index ks (middle low high) ≡ a → a < r → IsNarrowed ks r n (middle low high + 1) high (looks + 1)
narrowed_up ks r n low high looks up h lt key at smaller =
    let less : slice_index ks (middle low high) < r = omega (arith, at, smaller) in
    record {
      between = record {
        ordered = omega arith;
        within = h.between.within;
        below = below_more (λ i. slice_index ks i < r) (middle low high)
            (λ i l. (let a = rises ks up i (middle low high) l (omega (arith, lt, h.between.within)) in omega (arith, a, less))) less;
        above = h.between.above;
      };
      fits = h.fits;
      halved = halved_more n looks (high - low) (high - (middle low high + 1)) h.halved (omega arith) (omega arith);
      begun = λ e. absurd (omega (arith, e));
    }

pub narrowed_down : (ks : List ℕ) (r n low high looks : ℕ) → IsStrictlyIncreasing ks → IsNarrowed ks r n low high looks → low < high
    → (a : ℕ) → slice_index ks (middle low high) ≡ a → a ≢ r → r ≤ a → IsNarrowed ks r n low (middle low high) (looks + 1)
narrowed_down ks r n low high looks up h lt key at other greater =
    let less : r < slice_index ks (middle low high) = omega (arith, at, other, greater) in
    record {
      between = record {
        ordered = omega arith;
        within = omega (arith, h.between.within, lt);
        below = h.between.below;
        above = λ i l m. elim (cases_eq (middle low high) i) [
          | inl s ↦ subst (λ z. r < slice_index ks z) s less
          | inr ne ↦ (let a = rises ks up (middle low high) i (omega (arith, l, ne)) m in omega (arith, a, less))
        ];
      };
      fits = h.fits;
      halved = halved_more n looks (high - low) (middle low high - low) h.halved (omega arith) (omega arith);
      begun = λ e. absurd (omega (arith, e));
    }

pub narrowed_few : (ks : List ℕ) (r n low high looks : ℕ) → IsNarrowed ks r n low high looks → low < high → (k : ℕ) → n < 2 ^ k → looks + 1 ≤ k
narrowed_few ks r n low high looks h lt k l = halved_few n (looks + 1) 0 (halved_more n looks (high - low) 0 h.halved (omega arith) (omega arith)) k l

-- where nothing is left, the number isn't there
pub narrowed_away : (ks : List ℕ) (r low high : ℕ) → LiesBetween ks r low high → high ≤ low → LiesBetween ks r low low
narrowed_away ks r low high h le = record {
  ordered = omega arith;
  within = omega (arith, h.ordered, h.within, le);
  below = h.below;
  above = λ i l m. h.above i (omega (arith, le, l)) m;
}

-- a number that ascending ones have is found at its place
pub located_at : (ks : List ℕ) (r i : ℕ) → IsStrictlyIncreasing ks → i < length ks → slice_index ks i ≡ r → index_of r ks ≡ Some i
located_at ks r i up l e = index_at ks r i l e (λ j m k. (let a = rises ks up j i m l in absurd (omega (arith, a, e, k))))

located_nowhere : (ks : List ℕ) (r at : ℕ) → LiesBetween ks r at at → index_of r ks ≡ None
located_nowhere ks r at h = index_none ks r (λ i l k. elim (cases_lt i at) [ inl b ↦ (let a = h.below i b in omega (arith, a, k)) | inr b ↦ (let a = h.above i b l in omega (arith, a, k)) ])

-- what a search by halving finds
pub located : (ks : List ℕ) (r : ℕ) (place : Result ℕ ℕ) → IsStrictlyIncreasing ks → IsLocated ks r place → result_ok place ≡ index_of r ks
located ks r (Ok i) up h = sym (located_at ks r i up h.0 h.1)
located ks r (Err i) up h = sym (located_nowhere ks r i h)

-- ---- every eighth apart

-- where the eighths have no such number, it lies between two of them
eighths_under : (ks fs : List ℕ) (r i : ℕ) → AreEighths ks fs → IsStrictlyIncreasing ks → LiesBetween fs r i i → (j : ℕ) → j < 8 * i → slice_index ks j < r
eighths_under ks fs r zero h up b j l = absurd (omega (arith, l))
eighths_under ks fs r (suc k) h up b j l =
    let size = h.size in
    let w = b.within in
    let f = h.each k (omega (arith, w)) in
    let g = b.below k (omega arith) in
    let there : slice_index ks (8 * k + 7) < r = omega (arith, f, g) in
    elim (cases_eq j (8 * k + 7)) [
      | inl s ↦ subst (λ z. slice_index ks z < r) (sym s) there
      | inr ne ↦ (let a = rises ks up j (8 * k + 7) (omega (arith, l, ne)) (omega (arith, w, size)) in omega (arith, a, there))
    ]

pub eighths_between : (ks fs : List ℕ) (r i n : ℕ) → AreEighths ks fs → IsStrictlyIncreasing ks → LiesBetween fs r i i
    → (i < length fs → n ≡ 8 * i + 7) → (length fs ≤ i → n ≡ length ks) → LiesBetween ks r (8 * i) n
eighths_between ks fs r i n h up b next last =
    let size = h.size in
    let w = b.within in
    let under = eighths_under ks fs r i h up b in
    elim (cases_lt i (length fs)) [
      | inl l ↦ (
          let e = next l in
          let f = h.each i l in
          let g = b.above i (omega arith) l in
          let there : r < slice_index ks (8 * i + 7) = omega (arith, f, g) in
          record {
            ordered = omega (arith, e);
            within = omega (arith, e, l, size);
            below = under;
            above = λ j m o. elim (cases_eq (8 * i + 7) j) [
              | inl s ↦ subst (λ z. r < slice_index ks z) s there
              | inr ne ↦ (let a = rises ks up (8 * i + 7) j (omega (arith, e, m, ne)) o in omega (arith, a, there))
            ];
          })
      | inr l ↦ (let e = last l in record { ordered = omega (arith, e, w, size); within = omega (arith, e); below = under; above = λ j m o. absurd (omega (arith, e, m, o)) })
    ]

-- what was found among the eighths, or where it is to be looked for
pub eighths_found : (ks fs : List ℕ) (r i : ℕ) (place : Result ℕ ℕ) → AreEighths ks fs → IsStrictlyIncreasing ks → IsLocated (map (λ (n : ℕ). n) fs) r place → place ≡ Ok i
    → Some (8 * i + 7) ≡ index_of r ks
eighths_found ks fs r i place h up at e = sym (located_at ks r (8 * i + 7) up (omega (arith, there.0, size)) (sym (h.each i there.0) ∙ there.1))
  where
    there : (i < length fs) × (slice_index fs i ≡ r)
    there = subst (λ gs. IsLocated gs r (Ok i)) (map-id fs) (subst (λ p. IsLocated (map (λ (n : ℕ). n) fs) r p) e at)

    size : length fs ≡ length ks / 8
    size = h.size

pub eighths_missed : (fs : List ℕ) (r i : ℕ) (place : Result ℕ ℕ) → IsLocated (map (λ (n : ℕ). n) fs) r place → place ≡ Err i → LiesBetween fs r i i
eighths_missed fs r i place at e = subst (λ gs. LiesBetween gs r i i) (map-id fs) (subst (λ p. IsLocated (map (λ (n : ℕ). n) fs) r p) e at)

-- seven places at most lie between two of them
pub eighths_apart : (n m i to : ℕ) → m ≡ n / 8 → (i < m → to ≡ 8 * i + 7) → (m ≤ i → to ≡ n) → to - 8 * i ≤ 7
eighths_apart n m i to e next last = elim (cases_lt i m) [ inl l ↦ (let a = next l in omega (arith, a)) | inr l ↦ (let a = last l in omega (arith, a, l, e)) ]

pub eighths_within : (n m i to : ℕ) → m ≡ n / 8 → (i < m → to ≡ 8 * i + 7) → (m ≤ i → to ≡ n) → to ≤ n
eighths_within n m i to e next last = elim (cases_lt i m) [ inl l ↦ (let a = next l in omega (arith, a, l, e)) | inr l ↦ (let a = last l in omega (arith, a)) ]

-- the looks at the eighths, and then between two of them, are no more than those at all
pub eighths_few : (n m w p q k : ℕ) → m ≡ n / 8 → w ≤ 7 → w ≤ n → ((j : ℕ) → m < 2 ^ j → p ≤ j) → ((j : ℕ) → w < 2 ^ j → q ≤ j) → n < 2 ^ k → p + q ≤ k
eighths_few n m w p q zero e t l f g lt = (let a = f 0 (omega (arith, e, lt)) in let b = g 0 (omega (arith, l, lt)) in omega (arith, a, b))
eighths_few n m w p q (suc zero) e t l f g lt = (let a = f 0 (omega (arith, e, lt)) in let b = g 1 (omega (arith, l, lt)) in omega (arith, a, b))
eighths_few n m w p q (suc (suc zero)) e t l f g lt = (let a = f 0 (omega (arith, e, lt)) in let b = g 2 (omega (arith, l, lt)) in omega (arith, a, b))
eighths_few n m w p q (suc (suc (suc k))) e t l f g lt = (let a = f k (omega (arith, e, lt)) in let b = g 3 (omega (arith, t)) in omega (arith, a, b))

-- ---- what stands at the place that was found

pub found_split : (b : Bool) (o : Option ℕ) (i : ℕ) → cond b (Some 0) (one_more o) ≡ Some i → ((b ≡ true) × (i ≡ 0)) ⊎ ((b ≡ false) × ((k : ℕ) × ((o ≡ Some k) × (i ≡ k + 1))))
found_split true o i h = inl (refl, (let z : 0 ≡ i = cc in sym z))
found_split false None i h = absurd (not_none h refl)
found_split false (Some k) i h = inr (refl, (k, (refl, (let z : k + 1 ≡ i = cc in sym z))))

missing_split : (b : Bool) (o : Option ℕ) → cond b (Some 0) (one_more o) ≡ None → (b ≡ false) × (o ≡ None)
missing_split true o h = absurd (not_none refl h)
missing_split false None h = (refl, refl)
missing_split false (Some k) h = absurd (not_none refl h)

-- `first` answers the value of the first item whose key it is asked for
module _ {X Y : Type 0} (key : X → ℕ) (value : X → Y) (first : ℕ → List X → Option Y) (none : (r : ℕ) → first r [] ≡ None)
    (one : (r : ℕ) (x : X) (xs : List X) → first r (x ∷ xs) ≡ cond (key x == r) (Some (value x)) (first r xs)) where
  found : (r : ℕ) (xs : List X) (i : ℕ) (d : X) → Some i ≡ index_of r (map key xs) → (i < length xs) × (first r xs ≡ Some (value (get_or xs i d)))
  found r [] i d h = absurd (not_none (sym h) refl)
  found r (x ∷ xs) i d h = elim (found_split (key x == r) (index_of r (map key xs)) i (sym h)) [
    | inl k ↦ (omega (arith, k.1), one r x xs ∙ rw (k.0, k.1) refl)
    | inr k ↦ (let f = found r xs k.1.0 d (sym k.1.1.0) in let e = k.1.1.1 in (omega (arith, e, f.0), one r x xs ∙ rw (k.0, e, add-one k.1.0) f.1))
  ]

  missing : (r : ℕ) (xs : List X) → None ≡ index_of r (map key xs) → first r xs ≡ None
  missing r [] h = none r
  missing r (x ∷ xs) h = (let s = missing_split (key x == r) (index_of r (map key xs)) (sym h) in one r x xs ∙ rw s.0 (missing r xs (sym s.1)))

pub root_within : (r : ℕ) (es : List Entry) (i : ℕ) → Some i ≡ index_of r (roots_of es) → i < length es
root_within r [] i h = absurd (not_none (sym h) refl)
root_within r (e ∷ es) i h = (found (λ (d : Entry). d.root) (λ (d : Entry). d) first_entry (λ s. refl) (λ s d ds. refl) r (e ∷ es) i e h).0

pub entry_found : (r : ℕ) (es : List Entry) (i : ℕ) (d : Entry) → Some i ≡ index_of r (roots_of es) → first_entry r es ≡ Some (get_or es i d)
entry_found r es i d h = (found (λ (e : Entry). e.root) (λ (e : Entry). e) first_entry (λ s. refl) (λ s e ds. refl) r es i d h).1

pub entry_missing : (r : ℕ) (es : List Entry) → None ≡ index_of r (roots_of es) → first_entry r es ≡ None
entry_missing = missing (λ e. e.root) (λ e. e) first_entry (λ r. refl) (λ r e es. refl)

pub node_within : (v : ℕ) (es : List Listed) (i : ℕ) → Some i ≡ index_of v (nodes_of es) → i < length es
node_within v [] i h = absurd (not_none (sym h) refl)
node_within v (e ∷ es) i h = (found (λ (d : Listed). d.node) (λ (d : Listed). d.label) first_listed (λ s. refl) (λ s d ds. refl) v (e ∷ es) i e h).0

pub listed_found : (v : ℕ) (es : List Listed) (i : ℕ) (d : Listed) → Some i ≡ index_of v (nodes_of es) → first_listed v es ≡ Some (get_or es i d).label
listed_found v es i d h = (found (λ (e : Listed). e.node) (λ (e : Listed). e.label) first_listed (λ s. refl) (λ s e ds. refl) v es i d h).1

pub listed_missing : (v : ℕ) (es : List Listed) → None ≡ index_of v (nodes_of es) → first_listed v es ≡ None
listed_missing = missing (λ e. e.node) (λ e. e.label) first_listed (λ v. refl) (λ v e es. refl)
