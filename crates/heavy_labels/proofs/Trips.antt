-- The trip between two listed members.
use Rattle.std.proofs.Common.{◌≡◌, ℕ, ◌+◌, ◌^◌, ◌≤◌, ◌<◌, Bool, true, false, inl, inr, List, [], ◌∷◌, ◌++◌, length, map, reverse, refl, sym, ap, subst, ◌∙◌}
use Rattle.std.specs.Prelude.{None}
use Rattle.route_tree.specs.Rose.{Forest, no_trees, twig, count, Tree}
use Rattle.route_tree.specs.Shape.{HasPorts, IsHeavyHead, IsHeavyFirst}
use Rattle.heavy_labels.specs.Label.{Label}
use Rattle.heavy_labels.specs.Numbering.{Place, Line, Way, place, lights_at, lines, tree_lines, Among, label_of}
use Rattle.heavy_labels.specs.Numbered.{head_brief, brief_of, IsOn, IsListed, LeadsEverywhere, HasFewLights}
use Rattle.heavy_labels.specs.declared.label.TheConstants.{MOST_LIGHTS}
use Rattle.heavy_labels.proofs.OneOf.{in_append, in_left, in_right, in_reverse, in_map, map_in}
use Rattle.heavy_labels.proofs.Walks.{tree_way}
use Rattle.heavy_labels.proofs.Bound.{tree_lights}

-- ---- each member on a line is listed

module _ (all : List Line) where
  abbrev Listed : Place → Type 0
  Listed p = IsListed (brief_of p) (map head_brief all)

  on_here : (z : Place) (above : Line) → Among (z ∷ above) all → ((p : Place) → IsOn p above → Listed p) → (p : Place) → IsOn p (z ∷ above) → Listed p
  on_here z above m up p (inl e) = subst Listed (sym e) (in_map head_brief (z ∷ above) all m)
  on_here z above m up p (inr k) = up p k

  on_lines : (fo : Forest) (h : Bool) (f : ℕ) (ls : List ℕ) (above : Line) → ((x : Line) → Among x (lines fo h f ls above) → Among x all) → ((p : Place) → IsOn p above → Listed p)
      → (x : Line) → Among x (lines fo h f ls above) → (p : Place) → IsOn p x → Listed p
  on_lines no_trees h f ls above there up x m p on = absurd m
  on_lines (twig n u d below beside) h f ls above there up x m p on =
      let z = place n u d below f (lights_at h ls d) above in
      let A = lines below true (f + 1) (lights_at h ls d) (z ∷ above) in
      let B = lines beside false (f + 1 + count below) ls above in
      let here = on_here z above (there (z ∷ above) (inl refl)) up in
      elim m [
        | inl e ↦ here p (subst (IsOn p) e on)
        | inr k ↦ elim (in_append x A B k) [
          | inl i ↦ on_lines below true (f + 1) (lights_at h ls d) (z ∷ above) (λ y j. there y (inr (in_left y A B j))) here x i p on
          | inr i ↦ on_lines beside false (f + 1 + count below) ls above (λ y j. there y (inr (in_right y A B j))) up x i p on
        ]
      ]

on_tree : (t : Tree) (x : Line) → Among x (tree_lines t) → (p : Place) → IsOn p x → IsListed (brief_of p) (map head_brief (tree_lines t))
on_tree t x m p on =
    let z = place t.node None None t.below 0 [] [] in
    let here = on_here (tree_lines t) z [] (inl refl) (λ q k. absurd k) in
    elim m [
      | inl e ↦ here p (subst (IsOn p) e on)
      | inr i ↦ on_lines (tree_lines t) t.below true 1 [] (z ∷ []) (λ y j. inr j) here x i p on
    ]

-- each place on the way between two members is a member
way_listed : (t : Tree) (x v : Line) (l : Label) (m : ℕ) → Among x (tree_lines t) → Among v (tree_lines t) → (w : Way x v l m)
    → (p : Place) → IsOn p (w.up ++ w.at ∷ reverse w.down) → IsListed (brief_of p) (map head_brief (tree_lines t))
way_listed t x v l m mx mv w p h = elim (in_append p w.up (w.at ∷ reverse w.down) h) [
  | inl a ↦ on_tree t x mx p (subst (IsOn p) (sym w.from) (in_left p w.up (w.at ∷ w.above) a))
  | inr (inl e) ↦ on_tree t x mx p (subst (IsOn p) (sym w.from) (in_right p w.up (w.at ∷ w.above) (inl e)))
  | inr (inr c) ↦ on_tree t v mv p (subst (IsOn p) (sym w.to) (in_left p w.down (w.at ∷ w.above) (in_reverse p w.down c)))
]

-- ---- what `number` says of its list

label_is : (x : Line) → label_of x ≡ (head_brief x).1.1
label_is [] = refl
label_is (p ∷ ps) = refl

pub heads_lead : (t : Tree) → HasPorts t.below → LeadsEverywhere t (map head_brief (tree_lines t))
heads_lead t ports b c mb mc =
    let x = map_in head_brief b (tree_lines t) mb in
    let v = map_in head_brief c (tree_lines t) mc in
    let w = subst (λ l. Way x.0 v.0 l (count t.below)) (label_is v.0 ∙ ap (λ z. z.1.1) v.1.1) (tree_way t ports x.0 v.0 x.1.0 v.1.0) in
    record { start = x.0; goal = v.0; start_among = x.1.0; goal_among = v.1.0; start_is = x.1.1; goal_is = v.1.1; way = w; listed = way_listed t x.0 v.0 c.1.1 (count t.below) x.1.0 v.1.0 w }

pub heads_few : (t : Tree) → IsHeavyHead t.below → IsHeavyFirst t.below → 1 + count t.below + 1 < 2 ^ (MOST_LIGHTS + 2) → HasFewLights (map head_brief (tree_lines t))
heads_few t head below small b mb =
    let x = map_in head_brief b (tree_lines t) mb in
    subst (λ l. length l.lights ≤ MOST_LIGHTS) (label_is x.0 ∙ ap (λ z. z.1.1) x.1.1) (tree_lights t MOST_LIGHTS head below small x.0 x.1.0)
