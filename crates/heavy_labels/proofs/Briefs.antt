-- What `number` lists is what the lines of the tree have at their heads.
use Rattle.std.proofs.Common.{◌≡◌, ℕ, ◌+◌, Bool, true, false, List, [], ◌∷◌, ◌++◌, map, refl, sym, ap, subst, ◌∙◌, suc, length, arith, length-append}
use Rattle.std.specs.Prelude.{None}
use Rattle.std.proofs.lemmas.List.{map-append, length-map}
use Rattle.route_tree.specs.Rose.{Forest, no_trees, twig, count, Tree, tree_size}
use Rattle.heavy_labels.specs.Numbering.{Line, place, lights_at, lines, tree_lines}
use Rattle.heavy_labels.specs.Numbered.{Brief, IsNumberedFrom, brief, briefs, tree_briefs, head_brief, seen}
use Rattle.heavy_labels.specs.declared.numbered_member.NumberedMember.{NumberedMember}

pub lines_are : (fo : Forest) (h : Bool) (f : ℕ) (ls : List ℕ) (above : Line) → map head_brief (lines fo h f ls above) ≡ briefs fo h f ls
lines_are no_trees h f ls above = refl
lines_are (twig n u d below beside) h f ls above =
    let ls1 = lights_at h ls d in
    let here = place n u d below f ls1 above ∷ above in
    ap (λ z. brief n u d below f ls1 ∷ z)
    (map-append head_brief (lines below true (f + 1) ls1 here) (lines beside false (f + 1 + count below) ls above)
    ∙ ap (λ z. z ++ map head_brief (lines beside false (f + 1 + count below) ls above)) (lines_are below true (f + 1) ls1 here)
    ∙ ap (λ z. briefs below true (f + 1) ls1 ++ z) (lines_are beside false (f + 1 + count below) ls above))

-- at a root, which has no ports to a parent
pub tree_lines_are : (t : Tree) → t.up ≡ None → t.down ≡ None → map head_brief (tree_lines t) ≡ tree_briefs t 0 []
tree_lines_are t e1 e2 =
    ap (λ z. brief t.node None None t.below 0 [] ∷ z) (lines_are t.below true 1 [] (place t.node None None t.below 0 [] [] ∷ []))
    ∙ ap (λ u. brief t.node u None t.below 0 [] ∷ briefs t.below true 1 []) (sym e1)
    ∙ ap (λ d. brief t.node t.up d t.below 0 [] ∷ briefs t.below true 1 []) (sym e2)

-- as many are listed as there are members
pub briefs_count : (fo : Forest) (h : Bool) (f : ℕ) (ls : List ℕ) → length (briefs fo h f ls) ≡ count fo
briefs_count no_trees h f ls = refl
briefs_count (twig n u d below beside) h f ls =
    let a = briefs_count below true (f + 1) (lights_at h ls d) in
    let b = briefs_count beside false (f + 1 + count below) ls in
    let both = length-append (briefs below true (f + 1) (lights_at h ls d)) (briefs beside false (f + 1 + count below) ls) in
    omega (arith, a, b, both)

numbered_append : (f : ℕ) (xs ys : List Brief) → IsNumberedFrom f xs → IsNumberedFrom (f + length xs) ys → IsNumberedFrom f (xs ++ ys)
numbered_append f [] ys a b = subst (λ k. IsNumberedFrom k ys) (let e : f + 0 ≡ f = omega arith in e) b
numbered_append f (x ∷ xs) ys a b = (a.0, numbered_append (f + 1) xs ys a.1 (subst (λ k. IsNumberedFrom k ys) (let e : f + suc (length xs) ≡ f + 1 + length xs = omega arith in e) b))

pub briefs_numbered : (fo : Forest) (h : Bool) (f : ℕ) (ls : List ℕ) → IsNumberedFrom f (briefs fo h f ls)
briefs_numbered no_trees h f ls = tt
briefs_numbered (twig n u d below beside) h f ls = (
  refl,
  numbered_append (f + 1) (briefs below true (f + 1) (lights_at h ls d)) (briefs beside false (f + 1 + count below) ls)
      (briefs_numbered below true (f + 1) (lights_at h ls d))
      (subst (λ k. IsNumberedFrom (f + 1 + k) (briefs beside false (f + 1 + count below) ls)) (sym (briefs_count below true (f + 1) (lights_at h ls d)))
      (briefs_numbered beside false (f + 1 + count below) ls)),
)

-- what is listed, where it is what the definition has
pub listed_count : (t : Tree) (f : ℕ) (ls : List ℕ) (all : List NumberedMember) → map seen all ≡ tree_briefs t f ls → length all ≡ tree_size t
listed_count t f ls all e = (let n = length-map all seen in let m = ap (λ (z : List Brief). length z) e in let k = briefs_count t.below true (f + 1) ls in omega (arith, n, m, k))

pub tree_briefs_numbered : (t : Tree) (f : ℕ) (ls : List ℕ) → IsNumberedFrom f (tree_briefs t f ls)
tree_briefs_numbered t f ls = (refl, briefs_numbered t.below true (f + 1) ls)
