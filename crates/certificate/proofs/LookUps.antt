-- What stands in a list of entries is what a look-up finds, where roots ascend.
use Rattle.certificate.proofs.Words.{◌≡◌, ◌<◌, ◌≤◌, ◌==◌, ◌+◌, ℕ, zero, suc, ◌⊎◌, inl, inr, cond, sym, refl, ap, subst, arith, List, [], ◌∷◌, length, get_or, Option, Some, None, IsSome, is_some, slice_index, ◌↔◌, All, IsStrictlyIncreasing, cases_eq, cases_lt, cond_both, eqb-true, eq-eqb, get_or-set_at, get_or-set_other}
use Rattle.certificate.proofs.Words.{get_or-set_same, length-set, slice_get_past, All-head, All-tail, replicate, set, Parts, Entry, Listed, Network, IsListed, tables, entries_at, first_entry, first_listed, items_at, or_none, roots_of, value_at, not_none, same_value, index_none, entry_found, entry_missing, key_at, keys_length}
use Rattle.certificate.proofs.Words.{located_at, rises, AreEntries, AreNext, AllAscend, AreBelow, EachEntry, IsFramed, IsNodeFramed}
use Rattle.std.specs.declared.vec.Vec.{Vec}

-- what a look-up finds has the root that was asked for, and what all entries have
pub found_has : (P : Entry → Type 0) (r : ℕ) (es : List Entry) (e : Entry) → All P es → first_entry r es ≡ Some e → P e × (e.root ≡ r)
found_has P r [] e a h = absurd (not_none h refl)
found_has P r (f ∷ es) e a h =
    cond_both (f.root == r) (Some f) (first_entry r es) (λ o. o ≡ Some e → P e × (e.root ≡ r))
    (λ t k. subst (λ z. P z × (z.root ≡ r)) (same_value refl k) (All-head P f es a, eqb-true f.root r t)) (λ _ k. found_has P r es e (All-tail P f es a) k) h

-- an entry of ascending entries is found by its root
pub found_at : (es : List Entry) → IsStrictlyIncreasing (roots_of es) → (i : ℕ) (d : Entry) → i < length es → first_entry (get_or es i d).root es ≡ Some (get_or es i d)
found_at es up i d l =
    let n = keys_length (λ (e : Entry). e.root) es in
    entry_found (get_or es i d).root es i d (sym (located_at (roots_of es) (get_or es i d).root i up (omega (arith, n, l)) (key_at (λ (e : Entry). e.root) es i d l)))

-- a listed node is found
pub listed_at : (es : List Listed) (i : ℕ) (d : Listed) → i < length es → IsSome (first_listed (get_or es i d).node es)
listed_at [] i d l = absurd (omega arith)
listed_at (f ∷ es) zero d l = ap (λ b. is_some (cond b (Some f.label) (first_listed f.node es))) (eq-eqb f.node f.node refl)
listed_at (f ∷ es) (suc i) d l = cond_both (f.node == (get_or es i d).node) (Some f.label) (first_listed (get_or es i d).node es) (λ o. IsSome o) (λ _. refl) (λ _. listed_at es i d (omega arith))

-- what all of a directory's labels have, each of them has
pub all_listed : (P : Listed → Type 0) (es : List Listed) (e : Listed) → All P es → IsListed e es → P e
all_listed P [] e a i = absurd i
all_listed P (f ∷ es) e a i = elim i [ inl k ↦ subst P (sym k) (All-head P f es a) | inr k ↦ all_listed P es e (All-tail P f es a) k ]

-- what holds of no items, and of those at each place, holds of those anywhere
pub anywhere : {X A : Type 0} (vs : List (Vec X A)) (x : ℕ) (P : List X → Type 0) → P [] → (x < length vs → P (items_at vs x)) → P (items_at vs x)
anywhere vs x P none here = elim (cases_lt x (length vs)) [
  | inl l ↦ here l
  | inr le ↦ subst (λ o. P (elim o [ None ↦ [] | Some v ↦ v.items ])) (sym (slice_get_past vs x le)) none
]

-- a place that has a value is there
pub value_inside : {X : Type 0} (os : List (Option X)) (x : ℕ) (v : X) → value_at os x ≡ Some v → x < length os
value_inside os x v e = elim (cases_lt x (length os)) [
  | inl l ↦ l
  | inr le ↦ absurd (not_none e (ap or_none (slice_get_past os x le)))
]

-- what each entry has, each entry that is found has
pub looked_up : (m : Network) (p : Parts) → length p.entries.items ≡ m.nodes → (P : ℕ → Entry → Type 0) → EachEntry m p P → (x r : ℕ) (e : Entry) → (tables p).entry x r ≡ Some e → P x e × (e.root ≡ r)
looked_up m p n P h x r e g =
    anywhere p.entries.items x (λ es. first_entry r es ≡ Some e → P x e × (e.root ≡ r)) (λ k. absurd (not_none k refl))
    (λ l k. found_has (P x) r (entries_at p x) e (h x (omega (arith, n, l))) k) g

pub inside : (m : Network) (p : Parts) → length p.entries.items ≡ m.nodes → (x r : ℕ) (e : Entry) → (tables p).entry x r ≡ Some e → x < m.nodes
inside m p n x r e g = (looked_up m p n (λ y f. y < m.nodes) (λ y l i d k. l) x r e g).0

-- so what is said of a node, a root and an entry holds of each entry where it holds of each that is found
pub by_look_up : (m : Network) (p : Parts) → length p.entries.items ≡ m.nodes → ((x : ℕ) → x < m.nodes → IsStrictlyIncreasing (roots_of (entries_at p x))) → (P : ℕ → ℕ → Entry → Type 0)
    → EachEntry m p (λ x e. P x e.root e) ↔ ((x r : ℕ) (e : Entry) → (tables p).entry x r ≡ Some e → P x r e)
by_look_up m p n up P = (
  λ each x r e g. (let s = looked_up m p n (λ y f. P y f.root f) each x r e g in subst (λ z. P x z e) s.1 s.0),
  λ h x l i d k. h x (get_or (entries_at p x) i d).root (get_or (entries_at p x) i d) (found_at (entries_at p x) (up x l) i d k),
)

-- in a framed scheme all entries ascend
pub framed_ascend : (m : Network) (p : Parts) → IsFramed m p → AllAscend p
unfolding IsFramed IsNodeFramed
framed_ascend m p h x = anywhere p.entries.items x (λ es. IsStrictlyIncreasing (roots_of es)) (λ k l. absurd (omega (arith, l))) (λ l. (let n = h.0.1.1.1.1.0 in (h.1 x (omega (arith, n, l))).1.0))

-- ascending roots don't fall
pub roots_rise : (es : List Entry) → IsStrictlyIncreasing (roots_of es) → (i j : ℕ) → i ≤ j → j < length es → slice_index (roots_of es) i ≤ slice_index (roots_of es) j
roots_rise es up i j le l = elim (cases_lt i j) [
  | inl lt ↦ (let n = keys_length (λ (z : Entry). z.root) es in let a = rises (roots_of es) up i j lt (omega (arith, n, l)) in omega (arith, a))
  | inr ge ↦ (let same : i ≡ j = omega (arith, le, ge) in let at = ap (slice_index (roots_of es)) same in omega (arith, at))
]

-- all up to a place whose root is below are below
pub below_place : (es : List Entry) (r n : ℕ) → IsStrictlyIncreasing (roots_of es) → n < length es → slice_index (roots_of es) n < r → AreBelow r (n + 1) es
below_place es r n up l lt k kl = (let a = roots_rise es up k n (omega (arith, kl)) l in omega (arith, a, lt))

-- all up to a place are below, if each entry there is
pub below_all : (es : List Entry) (r n : ℕ) → n ≤ length es → ((k : ℕ) (d : Entry) → k < n → (get_or es k d).root < r) → AreBelow r n es
below_all [] r n le h k l = absurd (omega (arith, le, l))
below_all (e ∷ es) r n le h k l = (let a = key_at (λ (z : Entry). z.root) (e ∷ es) k e (omega (arith, le, l)) in let b = h k e l in omega (arith, a, b))

-- a root has no entry, if all in front of a place are below it and the one there is above
pub nowhere : (r n : ℕ) (es : List Entry) → IsStrictlyIncreasing (roots_of es) → AreBelow r n es → (n < length es → r < slice_index (roots_of es) n) → first_entry r es ≡ None
nowhere r n es up below above = entry_missing r es (sym (index_none (roots_of es) r (λ i l e. elim (cases_lt i n) [
  | inl lt ↦ (let a = below i lt in omega (arith, a, e))
  | inr le ↦ (
      let many = keys_length (λ (z : Entry). z.root) es in
      let a = roots_rise es up n i le (omega (arith, many, l)) in
      let b = above (omega (arith, le, l, many)) in
      omega (arith, a, b, e))
])))

-- a list of noughts says nothing of any node
pub kept_nought : (n x : ℕ) → slice_index (replicate n 0) x ≡ 0
kept_nought zero x = refl
kept_nought (suc n) zero = refl
kept_nought (suc n) (suc x) = kept_nought n x

pub nexts_more : (p : Parts) (from x v : ℕ) (nexts : List ℕ) → x < length nexts → ((q : ℕ) → from ≤ q → q < v → first_entry q (entries_at p x) ≡ None) → AreNext p from nexts → AreNext p from (set nexts x v)
nexts_more p from x v nexts inside none h y q le lt = elim (cases_eq y x) [
  | inl s ↦ subst (λ z. (tables p).entry z q ≡ None) (sym s) (none q le (let e = get_or-set_at nexts x y v 0 s inside in omega (arith, lt, e)))
  | inr ne ↦ h y q le (let e = get_or-set_other nexts x y v 0 ne in omega (arith, lt, e))
]

pub entries_more : (p : Parts) (x at : ℕ) (e : Entry) (es : List Entry) → AllAscend p → x < length es → at < length (entries_at p x) → e ≡ get_or (entries_at p x) at e → AreEntries p es → AreEntries p (set es x e)
entries_more p x at e es up inside within is h y d l = elim (cases_eq y x) [
  | inl s ↦ rw (s, get_or-set_same es x e d inside) (inr (subst (λ (z : Entry). first_entry z.root (entries_at p x) ≡ Some z) (sym is) (found_at (entries_at p x) (up x) at e within)))
  | inr ne ↦ rw (get_or-set_other es x y e d ne) (h y d (let n = length-set es x e in omega (arith, l, n)))
]

-- the entry that is kept, if it is for the root
pub entry_kept : (p : Parts) (x r : ℕ) (e : Entry) (es : List Entry) → AreEntries p es → x < length es → e ≡ get_or es x e → e.root ≡ r → r < 65535 → (tables p).entry x r ≡ Some e
entry_kept p x r e es h l is root few = elim (subst (λ (z : Entry). (z.root ≡ 65535) ⊎ ((tables p).entry x z.root ≡ Some z)) (sym is) (h x e l)) [
  | inl none ↦ absurd (omega (arith, none, root, few))
  | inr there ↦ subst (λ z. (tables p).entry x z ≡ Some e) root there
]
