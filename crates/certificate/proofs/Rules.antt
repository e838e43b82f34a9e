-- The rules by what they say of each node, and the other way round, once those before them hold; and from these answers, in their order,
-- to the verdict.
use Rattle.certificate.proofs.Words.{◌<◌, ℕ, arith, All, ◌↔◌, Parts, Network, IsSound, Holds, number_of, k1, k2, k3, k4, k5, k6, k7, k8, tables, entries_at, records_check, labels_check, HoldsFirst, IsClosedAt, IsFramed, IsRightOver, IsTightAt, FitsAt, IsLocalAt, IsPorted, IsSwept, HoldsAt, HoldsBefore, ◌≡◌, ◌+◌, ◌≤◌, ◌==◌, zero, suc, inl, inr}
use Rattle.certificate.proofs.Words.{cond, sym, refl, ap, subst, ◌∙◌, Ok, Err, cases_eq, cases_order, IsChecked, IsFirstFault, rule_of, IsExact, HoldsTo}
use Rattle.certificate.proofs.LabelLemmas.{distances_first, labels}
use Rattle.certificate.proofs.FirstRules.{shape_to, shape_from, edges, parents, strict, nearest_to, nearest_from, directories}
use Rattle.certificate.proofs.RowLemmas.{records}
use Rattle.schemes.specs.Checks.{Fault as Rule}
use Rattle.certificate.specs.declared.fault.Fault.{Fault}
use Rattle.certificate.specs.declared.fault.Fault.TheVariants.{Shape, Edges, Parents, Strict, Nearest, Records, Labels, Directories}

module _ (m : Network) (p : Parts) (sound : IsSound m) where
  -- before the sixth rule and the seventh the first five hold
  pub first_of : (k : Rule) → 5 < number_of k → HoldsBefore m p k → HoldsFirst m p
  unfolding HoldsFirst
  first_of k l before = (sound, λ j le. before j (omega (arith, l, le)))

  -- where the first three rules hold, an entry is swept exactly if its record fits
  swept : HoldsBefore m p k6 → (x : ℕ) → x < m.nodes → All (IsSwept m (tables p) x) (entries_at p x) ↔ All (λ e. IsPorted m x e × FitsAt m (tables p) x e) (entries_at p x)
  unfolding IsSwept IsRightOver IsClosedAt IsTightAt
  swept before x l =
      let shaped = before k1 (omega arith) in (
        λ h i d k. ((h i d k).1.0, (h i d k).1.1.1),
        λ fit i d k. (
          shape_from m p shaped x l i d k,
          (
            (fit i d k).0,
            (λ j f n. ((edges m p sound shaped).1 (before k2 (omega arith)) x l i d k j f n, (parents m p sound shaped).1 (before k3 (omega arith)) x l i d k j f n), (fit i d k).1),
          ),
        ),
      )

  pub rule : IsFramed m p → (k : Rule) → HoldsBefore m p k → ((x : ℕ) → x < m.nodes → HoldsAt m p k x) ↔ Holds m p k
  unfolding IsLocalAt
  rule framed k1 before = (shape_to m p framed, shape_from m p)
  rule framed k2 before = edges m p sound (before k1 (omega arith))
  rule framed k3 before = parents m p sound (before k1 (omega arith))
  rule framed k4 before = strict m p (before k1 (omega arith))
  rule framed k5 before = (let s = before k1 (omega arith) in (nearest_to m p s, nearest_from m p s))
  rule framed k6 before =
      let d = distances_first m p (first_of k6 (omega arith) before) in
      let s = before k1 (omega arith) in
      let c = records_check m (tables p) d s.nodes in
      (λ each. c.1 ((records m p d s).0 (λ x l. ((each x l).0, (swept before x l).0 (each x l).1))), λ h x l. (let k = (records m p d s).1 (c.0 h) x l in (k.0, (swept before x l).1 k.1)))
  rule framed k7 before =
      let s = before k1 (omega arith) in
      let c = labels_check m p (distances_first m p (first_of k7 (omega arith) before)) (before k6 (omega arith)) s.nodes in
      (λ each. c.1 ((labels m p s).0 each), λ h. (labels m p s).1 (c.0 h))
  rule framed k8 before = directories m p (before k1 (omega arith))

-- ---- rules by their numbers

numbered : ℕ → Fault
numbered n = cond (n == 1) Shape (cond (n == 2) Edges (cond (n == 3) Parents (cond (n == 4) Strict (cond (n == 5) Nearest (cond (n == 6) Records (cond (n == 7) Labels Directories))))))

fault_back : (f : Fault) → numbered (number_of (rule_of f)) ≡ f
unfolding numbered
fault_back Shape = refl
fault_back f = refl

rule_back : (j : Rule) → rule_of (numbered (number_of j)) ≡ j
unfolding numbered
rule_back k1 = refl
rule_back j = refl

-- the numbers are those from 1 to 8
from_1_to_8 : (j : Rule) → (0 < number_of j) × (number_of j ≤ 8)
from_1_to_8 k1 = (omega arith, omega arith)
from_1_to_8 j = (omega arith, omega arith)

-- ---- the rules up to a number

pub to_none : (m : Network) (p : Parts) → HoldsTo m p 0
to_none m p j l = (let g = (from_1_to_8 j).0 in absurd (omega (arith, l, g)))

pub to_next : (m : Network) (p : Parts) (n : ℕ) (k : Rule) → number_of k ≡ n + 1 → HoldsTo m p n → Holds m p k → HoldsTo m p (n + 1)
to_next m p n k e h at j l = elim (cases_eq (number_of j) (number_of k)) [
  | inl same ↦ subst (Holds m p) (sym (rule_back k) ∙ ap (λ i. rule_of (numbered i)) (sym same) ∙ rule_back j) at
  | inr ne ↦ h j (omega (arith, l, e, ne))
]

-- ---- what follows from them

pub all_eight : (m : Network) (p : Parts) → HoldsTo m p 8 → IsChecked m p
all_eight m p h j = h j (from_1_to_8 j).1

-- all rules hold, if each does where those before it do
pub checked_by : (m : Network) (p : Parts) → ((k : Rule) → HoldsBefore m p k → Holds m p k) → IsChecked m p
checked_by m p each = all_eight m p (up_to 8)
  where
    up_to : (n : ℕ) → HoldsTo m p n
    up_to zero j l = to_none m p j l
    up_to (suc n) j l = each j (λ i li. up_to n i (omega (arith, l, li)))

-- ---- exactness

one_fault : (m : Network) (p : Parts) (f g : Fault) → IsFirstFault m p (rule_of f) → IsFirstFault m p (rule_of g) → f ≡ g
one_fault m p f g a b = sym (fault_back f) ∙ ap numbered (elim (cases_order (number_of (rule_of f)) (number_of (rule_of g))) [
  | inl same ↦ same
  | inr (inl l) ↦ absurd (a.0 (b.1 (rule_of f) l))
  | inr (inr l) ↦ absurd (b.0 (a.1 (rule_of g) l))
]) ∙ fault_back g

pub exact_fault : (m : Network) (p : Parts) (f : Fault) → IsFirstFault m p (rule_of f) → IsExact m p (Err f)
exact_fault m p f a = record {
  ok = (λ e. absurd cc, λ h. absurd (a.0 (h (rule_of f))));
  fault = λ g. (λ e. (let same : f ≡ g = cc in subst (λ z. IsFirstFault m p (rule_of z)) same a), λ b. ap (λ z. Err z) (one_fault m p f g a b));
}

pub exact_ok : (m : Network) (p : Parts) → IsChecked m p → IsExact m p (Ok tt)
exact_ok m p h = record {
  ok = (λ e. h, λ h. refl);
  fault = λ g. (λ e. absurd cc, λ b. absurd (b.0 (h (rule_of g))));
}
