-- Lists that have the numbers of a tree's members.
use Rattle.std.proofs.Common.{◌≡◌, ℕ, ◌+◌, Bool, true, false, refl, sym, ap, subst, ◌∙◌, List, [], ◌∷◌, ◌++◌, map, IsPermutation}
use Rattle.std.specs.Prelude.{Option, Some, None}
use Rattle.std.proofs.lemmas.List.{map-append}
use Rattle.std.proofs.lemmas.List.Sorted.{IsPermutation-map, IsPermutation-refl, IsPermutation-sym, IsPermutation-trans}
use Rattle.route_tree.specs.Rose.{Forest, no_trees, twig, count, Tree}
use Rattle.route_tree.specs.Growth.{subtrees, first_or}
use Rattle.route_tree.specs.Members.{AreMembers, listed, members_of}
use Rattle.route_tree.specs.declared.member.Member.{Member}
use Rattle.route_tree.proofs.EachOnce.{each_once}
use Rattle.heavy_labels.specs.Numbering.{Line, place, lights_at, lines, tree_lines}
use Rattle.heavy_labels.specs.Numbered.{AreNumbersOf, Brief, IsListed, head_brief, seen}
use Rattle.heavy_labels.specs.declared.numbered_member.NumberedMember.{NumberedMember}

-- ---- the nodes of a tree, in preorder

abbrev node_in : Line → ℕ
node_in l = (head_brief l).0

lines_nodes : (fo : Forest) (h : Bool) (f : ℕ) (ls : List ℕ) (above : Line) (p : Option ℕ) → map node_in (lines fo h f ls above) ≡ map (λ (a : Member). a.node) (listed p fo)
lines_nodes no_trees h f ls above p = refl
lines_nodes (twig n u d below beside) h f ls above p =
    let ls1 = lights_at h ls d in
    let here = place n u d below f ls1 above ∷ above in
    ap (λ z. n ∷ z)
    (map-append node_in (lines below true (f + 1) ls1 here) (lines beside false (f + 1 + count below) ls above)
    ∙ ap (λ z. z ++ map node_in (lines beside false (f + 1 + count below) ls above)) (lines_nodes below true (f + 1) ls1 here (Some n))
    ∙ ap (λ z. map (λ (a : Member). a.node) (listed (Some n) below) ++ z) (lines_nodes beside false (f + 1 + count below) ls above p)
    ∙ sym (map-append (λ (a : Member). a.node) (listed (Some n) below) (listed p beside)))

tree_nodes : (t : Tree) → map node_in (tree_lines t) ≡ map (λ (a : Member). a.node) (members_of t)
tree_nodes t = ap (λ z. t.node ∷ z) (lines_nodes t.below true 1 [] (place t.node None None t.below 0 [] [] ∷ []) (Some t.node))

head_nodes : (ls : List Line) → map (λ (b : Brief). b.0) (map head_brief ls) ≡ map node_in ls
head_nodes [] = refl
head_nodes (l ∷ ls) = ap (λ z. node_in l ∷ z) (head_nodes ls)

seen_nodes : (ns : List NumberedMember) → map (λ (n : NumberedMember). n.node) ns ≡ map (λ (b : Brief). b.0) (map seen ns)
seen_nodes [] = refl
seen_nodes (n ∷ ns) = ap (λ z. n.node ∷ z) (seen_nodes ns)

-- ---- what is listed

-- the lines of a tree are its numbers
pub heads_numbers : (t : Tree) (all : List Brief) → all ≡ map head_brief (tree_lines t) → AreNumbersOf t all
heads_numbers t all e = record {
  each = λ b i. subst (IsListed b) (sym e) i;
  once =
      subst (IsPermutation (map (λ (a : Member). a.node) (members_of t)))
      (sym (ap (λ z. map (λ (b : Brief). b.0) z) e ∙ head_nodes (tree_lines t) ∙ tree_nodes t))
      (IsPermutation-refl (map (λ (a : Member). a.node) (members_of t)));
}

-- members that are listed in their own order, among them each line of their tree, have its numbers
pub flat_numbers : (ms : List Member) (d : Tree) (ns : List NumberedMember) → AreMembers ms → map (λ (n : NumberedMember). n.node) ns ≡ map (λ (a : Member). a.node) ms
    → ((b : Brief) → IsListed b (map head_brief (tree_lines (first_or d (subtrees ms)))) → IsListed b (map seen ns)) → AreNumbersOf (first_or d (subtrees ms)) (map seen ns)
flat_numbers ms d ns a e h =
    let t = first_or d (subtrees ms) in
    record {
      each = h;
      once =
          subst (IsPermutation (map (λ (a : Member). a.node) (members_of t))) (sym e ∙ seen_nodes ns)
          (IsPermutation-sym (map (λ (a : Member). a.node) ms) (map (λ (a : Member). a.node) (members_of t))
          (IsPermutation-map (λ (a : Member). a.node) ms (members_of t) (each_once ms d a)));
    }

-- what has the numbers of the members' tree has the members' nodes
pub numbered_nodes : (ms : List Member) (d : Tree) (ns : List NumberedMember) → AreMembers ms → AreNumbersOf (first_or d (subtrees ms)) (map seen ns)
    → IsPermutation (map (λ (a : Member). a.node) ms) (map (λ (n : NumberedMember). n.node) ns)
numbered_nodes ms d ns a h =
    let t = first_or d (subtrees ms) in
    IsPermutation-trans (map (λ (a : Member). a.node) ms) (map (λ (a : Member). a.node) (members_of t)) (map (λ (n : NumberedMember). n.node) ns)
    (IsPermutation-map (λ (a : Member). a.node) ms (members_of t) (each_once ms d a))
    (subst (IsPermutation (map (λ (a : Member). a.node) (members_of t))) (sym (seen_nodes ns)) h.once)
