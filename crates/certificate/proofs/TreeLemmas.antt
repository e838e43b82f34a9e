-- The swift pass: what stands in front of the places, and what follows once all trees are right.
use Rattle.certificate.proofs.Words.{◌≡◌, ◌<◌, ◌≤◌, ◌+◌, inl, inr, ℕ, false, sym, refl, ap, subst, ◌∙◌, arith, List, length, get_or, IsSome, slice_index, All, cases_eq, cases_lt, get_or-set_at, get_or_default, get_or-set_other, length-set, set, Network, IsSound, Parts, Entry, Fault, IsChecked, k1, k2, k3, k4, k5, k6, k7, k8, tables}
use Rattle.certificate.proofs.Words.{entries_at, key_at, HasLabelsAt, AllAscend, AreBelow, HasDirectoryAt, IsListedBack, IsStrictAt, IsClosedAt, IsFramed, IsNodeFramed, IsRightOver, IsTightAt, HoldOfAll, IsSwept, HoldsAt, HoldsBefore, AreRightTo, ArePast, GoOn, IsEntryRight, IsTreeRight}
use Rattle.certificate.proofs.LabelLemmas.{linked_to}
use Rattle.certificate.proofs.LookUps.{roots_rise}
use Rattle.certificate.proofs.Rules.{first_of, rule, checked_by}

-- at first nothing counts that stands in front of the places
pub right_first : (m : Network) (p : Parts) (first : ℕ) (places : List ℕ) → ((x : ℕ) → x < m.nodes → AreBelow first (slice_index places x) (entries_at p x)) → AreRightTo m p first places
right_first m p first places below x j d l k in_list le =
    let b = below x l j k in
    let key = key_at (λ (z : Entry). z.root) (entries_at p x) j d in_list in
    absurd (omega (arith, b, key, le))

-- a place goes on behind an entry that is right
pub gone_on : (m : Network) (p : Parts) (x k r : ℕ) (old : List ℕ) (e : Entry) → x < length old → slice_index old x < length (entries_at p x) → e ≡ get_or (entries_at p x) (slice_index old x) e → e.root ≡ r → k ≤ slice_index old x + 1
    → IsSwept m (tables p) x e → IsStrictAt (tables p) x e → ((tables p).landmark r ≡ false → IsSome ((tables p).listed r x)) → GoOn m p old (set old x k)
unfolding IsListedBack
gone_on m p x k r old e room within is root step swept strict listed = record {
  room = length-set old x k;
  right = λ first h y j d l lt in_list le. elim (cases_eq y x) [
    | inl same ↦ (
        let s = get_or-set_at old x y k 0 same room in
        elim (cases_lt j (slice_index old x)) [
          | inl a ↦ h y j d l (let o = ap (slice_index old) same in omega (arith, o, a)) in_list le
          | inr a ↦ (
              let at : j ≡ slice_index old x = omega (arith, s, a, lt, step) in
              let right : IsEntryRight m p x e = record { swept = swept; strict = strict; listed = subst (λ z. (tables p).landmark z ≡ false → IsSome ((tables p).listed z x)) (sym root) listed } in
              rw (same, at) (subst (IsEntryRight m p x) (is ∙ get_or_default (entries_at p x) (slice_index old x) e d within) right))
        ])
    | inr ne ↦ h y j d l (let s = get_or-set_other old x y k 0 ne in omega (arith, s, lt)) in_list le
  ];
}

pub goes_on : (m : Network) (p : Parts) (a b c : List ℕ) → GoOn m p a b → GoOn m p b c → GoOn m p a c
goes_on m p a b c f g = record { room = g.room ∙ f.room; right = λ first h. g.right first (f.right first h) }

pub stays : (m : Network) (p : Parts) (a : List ℕ) → GoOn m p a a
stays m p a = record { room = refl; right = λ first h. h }

-- at the end all entries for a root of the range stand in front of the places
pub right_last : (m : Network) (p : Parts) (first last r : ℕ) (places : List ℕ) → AllAscend p → AreRightTo m p first places → ArePast p m.nodes last places → first ≤ r → r < last
    → (x : ℕ) → x < m.nodes → All (λ e. e.root ≡ r → IsEntryRight m p x e) (entries_at p x)
right_last m p first last r places up h past from to x l j d in_list root = elim (cases_lt j (slice_index places x)) [
  | inl front ↦ h x j d l front in_list (omega (arith, root, from))
  | inr le ↦ (
      let a = past x l (omega (arith, le, in_list)) in
      let b = roots_rise (entries_at p x) (up x) (slice_index places x) j le in_list in
      let key = key_at (λ (z : Entry). z.root) (entries_at p x) j d in_list in
      absurd (omega (arith, a, b, key, root, to)))
]

-- so all rules hold
module _ (m : Network) (p : Parts) (sound : IsSound m) (framed : IsFramed m p) (trees : HoldOfAll IsTreeRight m p) where
  all_right : (x : ℕ) → x < m.nodes → All (IsEntryRight m p x) (entries_at p x)
  unfolding IsFramed IsNodeFramed
  all_right x l i d k = (trees (get_or (entries_at p x) i d).root ((framed.1 x l).1.1.1 i d k)).entries x l i d k refl

  holds_at : (k : Fault) → HoldsBefore m p k → (x : ℕ) → x < m.nodes → HoldsAt m p k x
  unfolding IsSwept IsRightOver IsClosedAt IsTightAt HasLabelsAt HasDirectoryAt
  holds_at k1 before x l = λ i d k. (all_right x l i d k).swept.0
  holds_at k2 before x l = λ i d k j f n. ((all_right x l i d k).swept.1.1.0 j f n).0
  holds_at k3 before x l = λ i d k j f n. ((all_right x l i d k).swept.1.1.0 j f n).1
  holds_at k4 before x l = λ i d k. (all_right x l i d k).strict
  holds_at k5 before x l = (trees x l).root.nearest
  holds_at k6 before x l = ((trees x l).root.root, λ i d k. (all_right x l i d k).swept)
  holds_at k7 before x l = (let h = first_of m p sound k7 (omega arith) before in (linked_to m p h x (trees x l).root.linked, (trees x l).root.home h))
  holds_at k8 before x l = ((trees x l).root.order, ((trees x l).root.listed, λ i d k. (all_right x l i d k).listed))

  pub trees_checked : IsChecked m p
  trees_checked = checked_by m p (λ k before. (rule m p sound framed k before).0 (holds_at k before))
