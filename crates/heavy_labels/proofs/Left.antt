-- What is left to number below a member, from one child to the next.
use Rattle.std.proofs.Common.{◌≡◌, ℕ, ◌+◌, ◌*◌, ◌^◌, ◌≤◌, ◌<◌, true, false, List, [], ◌∷◌, ◌++◌, length, map, drop, get_or, sym, ap, ap₂, subst, ◌∙◌, arith, append_assoc}
use Rattle.std.specs.Prelude.{eqb}
use Rattle.std.proofs.lemmas.List.{drop_more, map_push}
use Rattle.std.proofs.lemmas.Bool.{ne_eqb}
use Rattle.route_tree.specs.Rose.{Forest, twig, count, Tree, tree_size, of_list}
use Rattle.heavy_labels.specs.Numbering.{lights_at}
use Rattle.route_tree.specs.Shape.{HasPorts, IsHeavyFirst}
use Rattle.heavy_labels.specs.Numbered.{seen, Brief, briefs, tree_briefs, brief, HasRoom}
use Rattle.heavy_labels.specs.declared.label.TheConstants.{MOST_LIGHTS}
use Rattle.heavy_labels.specs.declared.numbered_member.NumberedMember.{NumberedMember}
use Rattle.route_tree.proofs.Fronts.{size_at}
use Rattle.heavy_labels.proofs.Bound.{Room, room_below, room_beside, few_next, most_lights}

-- of the children cs of a member of size s, those from i on are left, and the next number is `next`
pub record Left (s f : ℕ) (ls : List ℕ) (cs : List Tree) (i next : ℕ) (listed wanted : List Brief) : Type 0 where
  pub at_most : i ≤ length cs
  pub number : next + count (of_list (drop i cs)) ≡ f + s
  pub rest : listed ++ briefs (of_list (drop i cs)) (eqb i 0) next ls ≡ wanted
  pub room : Room (eqb i 0) s (of_list (drop i cs))
  pub ports : HasPorts (of_list (drop i cs))
  pub heavy : IsHeavyFirst (of_list (drop i cs))
  pub fits : f + s ≤ 2 ^ 16
  pub small : (s + 1) * 2 ^ length ls < 2 ^ (MOST_LIGHTS + 2)

pub left_first : (t : Tree) (f : ℕ) (ls : List ℕ) (cs : List Tree) (old : List Brief) → HasRoom t f ls → of_list cs ≡ t.below
    → Left (tree_size t) f ls cs 0 (f + 1) (old ++ brief t.node t.up t.down t.below f ls ∷ []) (old ++ tree_briefs t f ls)
left_first t f ls cs old r e = record {
  at_most = omega arith;
  number = (let n = ap count e in omega (arith, n));
  rest = append_assoc old (brief t.node t.up t.down t.below f ls ∷ []) (briefs (of_list cs) true (f + 1) ls)
      ∙ ap (λ z. old ++ brief t.node t.up t.down t.below f ls ∷ briefs z true (f + 1) ls) e;
  room = subst (Room true (tree_size t)) (sym e) (room_below t.below r.heavy);
  ports = subst HasPorts (sym e) r.ports;
  heavy = subst IsHeavyFirst (sym e) r.heavy_below;
  fits = r.numbers;
  small = r.lights;
}

-- the child at i
at_child : (cs : List Tree) (i : ℕ) (c : Tree) → i < length cs → c ≡ get_or cs i c → of_list (drop i cs) ≡ twig c.node c.up c.down c.below (of_list (drop (i + 1) cs))
at_child cs i c h e = ap of_list (drop_more cs i c h) ∙ ap (λ z. of_list (z ∷ drop (i + 1) cs)) (sym e)

module _ (s f : ℕ) (ls : List ℕ) (cs : List Tree) (i next : ℕ) (listed wanted : List Brief) (c : Tree) (l : Left s f ls cs i next listed wanted) (h : i < length cs) (e : c ≡ get_or cs i c) where
  child_is : of_list (drop i cs) ≡ twig c.node c.up c.down c.below (of_list (drop (i + 1) cs))
  child_is = at_child cs i c h e

  room_now : Room (eqb i 0) s (twig c.node c.up c.down c.below (of_list (drop (i + 1) cs)))
  room_now = subst (Room (eqb i 0) s) child_is l.room

  pub child_room : HasRoom c next (lights_at (eqb i 0) ls c.down)
  child_room =
      let heavy = subst IsHeavyFirst child_is l.heavy in
      record {
        ports = (subst HasPorts child_is l.ports).1.1.0;
        numbers = (let n = ap count child_is in omega (arith, n, l.number, l.fits));
        heavy = heavy.0;
        heavy_below = heavy.1.0;
        lights = (let b = few_next (eqb i 0) (tree_size c) s ((s + 1) * 2 ^ length ls) ls c.down room_now.0 room_now.1.0 (omega arith) in omega (arith, b, l.small));
      }

  pub left_next : (more : List Brief) → more ≡ listed ++ tree_briefs c next (lights_at (eqb i 0) ls c.down) → Left s f ls cs (i + 1) (next + tree_size c) more wanted
  left_next more g =
      let later : eqb (i + 1) 0 ≡ false = ne_eqb (i + 1) 0 (λ q. omega (arith, q)) in
      let mine = tree_briefs c next (lights_at (eqb i 0) ls c.down) in
      let rest = of_list (drop (i + 1) cs) in
      record {
        at_most = omega arith;
        number = (let n = ap count child_is in omega (arith, n, l.number));
        rest =
            ap (λ z. z ++ briefs rest (eqb (i + 1) 0) (next + tree_size c) ls) g
            ∙ append_assoc listed mine (briefs rest (eqb (i + 1) 0) (next + tree_size c) ls)
            ∙ ap₂ (λ b k. listed ++ (mine ++ briefs rest b k ls)) later (let k : next + tree_size c ≡ next + 1 + count c.below = omega arith in k)
            ∙ ap (λ z. listed ++ briefs z (eqb i 0) next ls) (sym child_is)
            ∙ l.rest;
        room = room_beside (eqb (i + 1) 0) s rest room_now.1.1;
        ports = (subst HasPorts child_is l.ports).1.1.1;
        heavy = (subst IsHeavyFirst child_is l.heavy).1.1;
        fits = l.fits;
        small = l.small;
      }

-- a label's list has room for the light ports
pub few : (t : Tree) (f : ℕ) (ls : List ℕ) → HasRoom t f ls → length ls ≤ MOST_LIGHTS
few t f ls r = most_lights MOST_LIGHTS (tree_size t) ls (omega arith) r.lights

pub pushed : (old new : List NumberedMember) (n : NumberedMember) (b : Brief) → new ≡ old ++ n ∷ [] → seen n ≡ b → map seen new ≡ map seen old ++ b ∷ []
pushed old new n b e f = ap (map seen) e ∙ map_push seen old n ∙ ap (λ z. map seen old ++ z ∷ []) f

pub child_less : (cs : List Tree) (i : ℕ) (c : Tree) (below : Forest) → i < length cs → c ≡ get_or cs i c → of_list cs ≡ below → tree_size c < 1 + count below
child_less cs i c below h e f = (let a = size_at cs i c h in let g = ap tree_size e in let k = ap count f in omega (arith, a, g, k))
