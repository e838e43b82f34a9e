-- How many light ports a label has.
use Rattle.std.proofs.Common.{◌≡◌, ℕ, suc, ◌+◌, ◌*◌, ◌^◌, ◌≤◌, ◌<◌, Bool, true, false, inl, inr, List, [], ◌∷◌, ◌++◌, length, refl, ap, ◌∙◌, arith, length-append, add-one}
use Rattle.std.specs.Prelude.{Option, None}
use Rattle.std.proofs.Math.Nat.{mul-le-mul_right, pow-succ'}
use Rattle.std.proofs.Math.Pow.{pow_mono}
use Rattle.std.proofs.lemmas.Bool.{cases_lt}
use Rattle.route_tree.specs.Rose.{Forest, no_trees, twig, count, Tree}
use Rattle.heavy_labels.specs.Numbering.{Line, place, lights_at, lines, tree_lines, or_zero, Among, label_of}
use Rattle.route_tree.specs.Shape.{widest, IsHeavyHead, IsHeavyFirst}
use Rattle.heavy_labels.proofs.OneOf.{in_append}

-- ---- a light edge halves the size

pub few_next : (h : Bool) (x p most : ℕ) (ls : List ℕ) (d : Option ℕ) → x ≤ p → (h ≡ false → 2 * x + 1 ≤ p) → (p + 1) * 2 ^ length ls ≤ most → (x + 1) * 2 ^ length (lights_at h ls d) ≤ most
few_next true x p most ls d l k b = omega (arith, b, mul-le-mul_right {m = x + 1} {n = p + 1} (2 ^ length ls) (omega (arith, l)))
few_next false x p most ls d l k b =
    let long : length (ls ++ or_zero d ∷ []) ≡ suc (length ls) = length-append ls (or_zero d ∷ []) ∙ add-one (length ls) in
    let twice : 2 ^ length (ls ++ or_zero d ∷ []) ≡ 2 * 2 ^ length ls = ap (λ k. 2 ^ k) long ∙ pow-succ' 2 (length ls) in
    rw twice (omega (arith, b, mul-le-mul_right {m = (x + 1) * 2} {n = p + 1} (2 ^ length ls) (omega (arith, k refl))))

-- what so many members have of light ports: fewer than 2 ^ 15 - 1 members give at most 13
pub most_lights : (k x : ℕ) (ls : List ℕ) → 1 ≤ x → (x + 1) * 2 ^ length ls < 2 ^ (k + 2) → length ls ≤ k
most_lights k x ls some b = elim (cases_lt k (length ls)) [
  | inl l ↦ absurd (
      let big : 2 ^ (k + 1) ≤ 2 ^ length ls = pow_mono (omega arith) in
      let twice : 2 ^ (k + 2) ≡ 2 * 2 ^ (k + 1) = ap (λ z. 2 ^ z) (let e : k + 2 ≡ suc (k + 1) = omega arith in e) ∙ pow-succ' 2 (k + 1) in
      omega (arith, b, big, twice, mul-le-mul_right {m = 2} {n = x + 1} (2 ^ length ls) (omega arith)))
  | inr l ↦ l
]

-- ---- what is left of the children of a member

-- of a member of size s: the first may be a heavy one, and of the others each is less than half as large
abbrev pub Room : Bool → ℕ → Forest → Type 0
Room h s no_trees = Unit {0}
Room h s (twig n u d below beside) = (1 + count below ≤ s) × ((h ≡ false → 2 * (1 + count below) + 1 ≤ s) × (2 * widest beside + 1 ≤ s))

widest_le : (fo : Forest) → widest fo ≤ count fo
widest_le no_trees = omega arith
widest_le (twig n u d below beside) = omega (arith, widest_le beside)

pub room_below : (below : Forest) → IsHeavyHead below → Room true (1 + count below) below
room_below no_trees h = tt
room_below (twig n u d below beside) h = (omega arith, (λ e. cc, omega (arith, h, widest_le beside)))

pub room_beside : (h : Bool) (s : ℕ) (fo : Forest) → 2 * widest fo + 1 ≤ s → Room h s fo
room_beside h s no_trees r = tt
room_beside h s (twig n u d below beside) r = (omega arith, (λ e. omega arith, omega arith))

few_lights : (fo : Forest) (h : Bool) (f : ℕ) (ls : List ℕ) (above : Line) (s most : ℕ) → Room h s fo → IsHeavyFirst fo → (s + 1) * 2 ^ length ls ≤ most
    → (x : Line) → Among x (lines fo h f ls above) → (1 + 1) * 2 ^ length (label_of x).lights ≤ most
few_lights no_trees h f ls above s most r v b x m = absurd m
few_lights (twig n u d below beside) h f ls above s most r v b x m =
    let ls1 = lights_at h ls d in
    let here = place n u d below f ls1 above ∷ above in
    let less = few_next h (1 + count below) s most ls d r.0 r.1.0 b in
    elim m [
      | inl e ↦ rw e (omega (arith, less, mul-le-mul_right {m = 2} {n = 1 + count below + 1} (2 ^ length ls1) (omega arith)))
      | inr k ↦ elim (in_append x (lines below true (f + 1) ls1 here) (lines beside false (f + 1 + count below) ls above) k) [
        | inl i ↦ few_lights below true (f + 1) ls1 here (1 + count below) most (room_below below v.0) v.1.0 less x i
        | inr i ↦ few_lights beside false (f + 1 + count below) ls above s most (room_beside false s beside r.1.1) v.1.1 b x i
      ]
    ]

pub tree_lights : (t : Tree) (k : ℕ) → IsHeavyHead t.below → IsHeavyFirst t.below → 1 + count t.below + 1 < 2 ^ (k + 2) → (x : Line) → Among x (tree_lines t) → length (label_of x).lights ≤ k
tree_lights t k hd v few x m = most_lights k 1 (label_of x).lights (omega arith) (elim m [
  | inl e ↦ rw e (omega arith)
  | inr i ↦ (let b = few_lights t.below true 1 [] (place t.node None None t.below 0 [] [] ∷ []) (1 + count t.below) (1 + count t.below + 1) (room_below t.below hd) v (omega arith) x i in omega (arith, b, few))
])
