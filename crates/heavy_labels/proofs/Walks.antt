-- Steps by a label go along the way in the tree.
use Rattle.std.proofs.Common.{◌≡◌, ℕ, suc, ◌+◌, ◌-◌, ◌≤◌, ◌<◌, Bool, true, false, cond, ◌⊎◌, inl, inr, List, [], ◌∷◌, ◌++◌, length, reverse, refl, sym, ap, subst, ◌∙◌, arith, append_assoc, length-append}
use Rattle.std.specs.Prelude.{Option, Some, None, nat_lt, slice_get}
use Rattle.std.proofs.lemmas.Bool.{cases_lt, lt-ltb, le-ltb}
use Rattle.std.proofs.lemmas.List.{append-nil, reverse-append}
use Rattle.route_tree.specs.Rose.{Forest, no_trees, twig, count, Tree}
use Rattle.route_tree.specs.Shape.{HasPorts}
use Rattle.heavy_labels.specs.Label.{Label}
use Rattle.heavy_labels.specs.Numbering.{Place, Line, arrived, port, step, or_zero, place, lights_at, lines, tree_lines, Joins, Follows, Way, Among, IsApart, IsSimple, label_of}
use Rattle.heavy_labels.proofs.OneOf.{In, in_append}
use Rattle.heavy_labels.proofs.Steps.{arrives, goes_up, goes_heavy, goes_light, slice_get-middle}

pub Among-append : (x : Line) (xs ys : List Line) → Among x (xs ++ ys) → Among x xs ⊎ Among x ys
Among-append = in_append

-- ---- each step leads nearer

-- what is left of the way at a member with the numbers b to c, for a label with the number a: less below the members off its side
unfoldable left : ℕ → ℕ → ℕ → ℕ
left a b c = cond (nat_lt a b) (1 + a + b) (cond (nat_lt c a) (1 + a + b) (a - b))

left_inside : (a b c : ℕ) → b ≤ a → a ≤ c → left a b c ≡ a - b
unfolding left
left_inside a b c h k = rw (le-ltb a b h, le-ltb c a k) refl

left_outside : (a b c : ℕ) → (b ≤ a → c < a) → left a b c ≡ 1 + a + b
unfolding left
left_outside a b c h = elim (cases_lt a b) [ inl l ↦ rw (lt-ltb a b l) refl | inr l ↦ rw (le-ltb a b l, lt-ltb c a (h l)) refl ]

left_between : (a b c : ℕ) → (a - b ≤ left a b c) × (left a b c ≤ 1 + a + b)
left_between a b c = elim (cases_lt a b) [
  | inl l ↦ (let e = left_outside a b c (λ k. absurd (omega (arith, l, k))) in (omega (arith, e), omega (arith, e)))
  | inr l ↦ elim (cases_lt c a) [
    | inl k ↦ (let e = left_outside a b c (λ _. k) in (omega (arith, e), omega (arith, e)))
    | inr k ↦ (let e = left_inside a b c l k in (omega (arith, e), omega (arith, e)))
  ]
]

abbrev left_at : Label → Place → ℕ
left_at l p = left l.first p.tree_record.first p.tree_record.last

-- the steps by a label go along a list of members, each nearer than the one before, and say at its last one that they arrived
abbrev Sinks : Label → List Place → Type 0
Sinks l [] = ⊥
Sinks l (a ∷ []) = step a.tree_record l ≡ arrived
Sinks l (a ∷ b ∷ rest) = (((q : ℕ) × ((step a.tree_record l ≡ port q) × Joins a b q)) × (left_at l b < left_at l a)) × Sinks l (b ∷ rest)

sinks_follow : (l : Label) (ps : List Place) → Sinks l ps → Follows l ps
sinks_follow l [] s = s
sinks_follow l (a ∷ []) s = s
sinks_follow l (a ∷ b ∷ rest) s = (s.0.0, sinks_follow l (b ∷ rest) s.1)

sinks_apart : (l : Label) (p q : Place) (ps : List Place) → left_at l q < left_at l p → Sinks l (q ∷ ps) → IsApart p (q ∷ ps)
sinks_apart l p q [] h s = (λ e. (let n = ap (left_at l) e in absurd (omega (arith, n, h))), tt)
sinks_apart l p q (r ∷ ps) h s = (λ e. (let n = ap (left_at l) e in absurd (omega (arith, n, h))), sinks_apart l p r ps (omega (arith, h, s.0.1)) s.1)

sinks_simple : (l : Label) (ps : List Place) → Sinks l ps → IsSimple ps
sinks_simple l [] s = absurd s
sinks_simple l (a ∷ []) s = (tt, tt)
sinks_simple l (a ∷ b ∷ rest) s = (sinks_apart l a b rest s.0.1 s.1, sinks_simple l (b ∷ rest) s.1)

-- ---- a member and the forest below it

-- the first child's numbers are the heavy ones
abbrev HeavyFits : Bool → Place → ℕ → Forest → Type 0
HeavyFits true p f no_trees = Unit {0}
HeavyFits true p f (twig n u d below beside) = (p.tree_record.heavy_last ≡ f + count below) × (p.tree_record.heavy_port ≡ d)
HeavyFits false p f fo = p.tree_record.heavy_last < f

-- p's record and label fit the forest fo below it, or what is left of that, whose numbers begin at f; ls are its light ports
record Above (p : Place) (h : Bool) (f : ℕ) (ls : List ℕ) (fo : Forest) : Type 0 where
  number : p.label.first ≡ p.tree_record.first
  ports : p.label.lights ≡ ls
  low : p.tree_record.first < f
  high : f + count fo ≤ suc p.tree_record.last
  lights : p.tree_record.light_depth ≡ length ls
  heavy : HeavyFits h p f fo

above_here : (n : ℕ) (u d : Option ℕ) (below : Forest) (f : ℕ) (ls : List ℕ) (above : Line) → Above (place n u d below f ls above) true (f + 1) ls below
above_here n u d below f ls above = record {
  number = refl;
  ports = refl;
  low = omega arith;
  high = omega arith;
  lights = refl;
  heavy = elim below as (λ b. HeavyFits true (place n u d b f ls above) (f + 1) b) [ no_trees ↦ tt | twig n1 u1 d1 b1 s1 ↦ (refl, refl) ];
}

-- the light ports of a forest's members begin with those at its root's
abbrev Begins : List ℕ → List ℕ → Type 0
Begins ls ms = (more : List ℕ) × (ms ≡ ls ++ more)

-- From p down to the member of the line v: p's own, or one of the forest below it, with numbers from f on and before `end`. It is
-- over no more edges than c.
record Descent (v : Line) (p : Place) (above : Line) (f end c : ℕ) (ls : List ℕ) : Type 0 where
  down : List Place
  to : v ≡ down ++ p ∷ above
  goes : Sinks (label_of v) (p ∷ reverse down)
  short : length down ≤ c
  low : p.tree_record.first ≤ (label_of v).first
  gap : p.tree_record.first < (label_of v).first → f ≤ (label_of v).first
  high : (label_of v).first < end
  begins : Begins ls (label_of v).lights

descend_less : {v : Line} {p : Place} {above : Line} {f g end last c k : ℕ} {ls : List ℕ} → Descent v p above g end c ls → f ≤ g → end ≤ last → c ≤ k → Descent v p above f last k ls
descend_less d e1 e2 e3 = record { down = d.down; to = d.to; goes = d.goes; short = omega (arith, d.short); low = d.low; gap = λ w. (let k = d.gap w in omega (arith, k)); high = omega (arith, d.high); begins = d.begins }

-- from the member of the line x up to p, and on from there
record Ascent (x : Line) (l : Label) (p : Place) (above : Line) (c : ℕ) : Type 0 where
  up : List Place
  from : x ≡ up ++ p ∷ above
  goes : (rest : List Place) → Sinks l (p ∷ rest) → Sinks l (up ++ p ∷ rest)
  short : length up ≤ c

ascend_less : {x : Line} {l : Label} {p : Place} {above : Line} {c k : ℕ} → Ascent x l p above c → c ≤ k → Ascent x l p above k
ascend_less d e = record { up = d.up; from = d.from; goes = d.goes; short = omega (arith, d.short) }

-- ---- one step between p and its child `here`

begins_more : (h : Bool) (ls : List ℕ) (d : Option ℕ) (ms : List ℕ) → Begins (lights_at h ls d) ms → Begins ls ms
begins_more true ls d ms b = b
begins_more false ls d ms b = (or_zero d ∷ b.0, b.1 ∙ append_assoc ls (or_zero d ∷ []) b.0)

down_step : (h : Bool) (p : Place) (f : ℕ) (ls : List ℕ) (n : ℕ) (u d : Option ℕ) (below beside : Forest) (l : Label) (b : ℕ) → d ≡ Some b → Above p h f ls (twig n u d below beside)
    → f ≤ l.first → l.first < f + 1 + count below → Begins (lights_at h ls d) l.lights → step p.tree_record l ≡ port b
down_step true p f ls n u d below beside l b e a lo hi bg =
    goes_heavy p.tree_record l b (a.heavy.1 ∙ e) (omega (arith, a.low)) (omega (arith, a.high)) (omega (arith, a.heavy.0))
down_step false p f ls n u d below beside l b e a lo hi bg =
    let is : l.lights ≡ ls ++ (b ∷ bg.0) = bg.1 ∙ append_assoc ls (or_zero d ∷ []) bg.0 ∙ ap (λ o. ls ++ (or_zero o ∷ bg.0)) e in
    let at : slice_get l.lights p.tree_record.light_depth ≡ Some b = ap (λ ms. slice_get ms p.tree_record.light_depth) is ∙ ap (λ k. slice_get (ls ++ (b ∷ bg.0)) k) a.lights ∙ slice_get-middle ls bg.0 b in
    goes_light p.tree_record l b at (omega (arith, a.low)) (omega (arith, a.high)) (omega (arith, a.heavy))

module _ (h : Bool) (f : ℕ) (ls : List ℕ) (n : ℕ) (u d : Option ℕ) (below beside : Forest) (p : Place) (above : Line) where
  abbrev here : Place
  here = place n u d below f (lights_at h ls d) (p ∷ above)

  above_beside : Above p h f ls (twig n u d below beside) → Above p false (f + 1 + count below) ls beside
  above_beside a = record {
    number = a.number;
    ports = a.ports;
    low = omega (arith, a.low);
    high = omega (arith, a.high);
    lights = a.lights;
    heavy = (elim h as (λ b. HeavyFits b p f (twig n u d below beside) → p.tree_record.heavy_last < f + 1 + count below) [ true ↦ λ e. omega (arith, e.0) | false ↦ λ e. omega (arith, e) ]) a.heavy;
  }

  step_up : (ports : (a : ℕ) × (u ≡ Some a)) → p.tree_record.first < f → (l : Label) → (f ≤ l.first → f + count below < l.first) → (x : Line) → Ascent x l here (p ∷ above) (count below) → Ascent x l p above (1 + count below)
  step_up ports low l out x r =
      let near = (left_between l.first p.tree_record.first p.tree_record.last).1 in
      let far = left_outside l.first f (f + count below) out in
      record {
        up = r.up ++ here ∷ [];
        from = r.from ∙ sym (append_assoc r.up (here ∷ []) (p ∷ above));
        goes = λ rest g. subst (Sinks l) (sym (append_assoc r.up (here ∷ []) (p ∷ rest)))
            (r.goes (p ∷ rest) (((ports.0, (goes_up here.tree_record l ports.0 (omega arith) ports.1 out, inl (refl, ports.1))), omega (arith, near, far, low)), g));
        short = omega (arith, r.short, length-append r.up (here ∷ []));
      }

  step_down : (ports : (b : ℕ) × (d ≡ Some b)) → Above p h f ls (twig n u d below beside) → (v : Line) → Descent v here (p ∷ above) (f + 1) (f + 1 + count below) (count below) (lights_at h ls d)
      → Descent v p above f (f + 1 + count below) (1 + count below) ls
  step_down ports a v r =
      let l = label_of v in
      let lo : f ≤ l.first = r.low in
      let turned : reverse (r.down ++ here ∷ []) ≡ here ∷ reverse r.down = reverse-append r.down (here ∷ []) in
      let near = left_inside l.first f (f + count below) lo (omega (arith, r.high)) in
      let far = (left_between l.first p.tree_record.first p.tree_record.last).0 in
      record {
        down = r.down ++ here ∷ [];
        to = r.to ∙ sym (append_assoc r.down (here ∷ []) (p ∷ above));
        goes = rw turned (((ports.0, (down_step h p f ls n u d below beside l ports.0 ports.1 a lo r.high r.begins, inr (refl, ports.1))), omega (arith, near, far, lo, a.low)), r.goes);
        short = omega (arith, r.short, length-append r.down (here ∷ []));
        low = omega (arith, lo, a.low);
        gap = λ _. lo;
        high = r.high;
        begins = begins_more h ls d l.lights r.begins;
      }

-- the lines of p and of the forest below it: those of its first tree, and p's with the others
parted : (x p z : Line) (xs ys : List Line) → In x (p ∷ z ∷ (xs ++ ys)) → In x (z ∷ xs) ⊎ In x (p ∷ ys)
parted x p z xs ys (inl e) = inr (inl e)
parted x p z xs ys (inr (inl e)) = inl (inl e)
parted x p z xs ys (inr (inr m)) = elim (in_append x xs ys m) [ inl a ↦ inl (inr a) | inr b ↦ inr (inr b) ]

only : (x p : Line) → In x (p ∷ []) → x ≡ p
only x p m = elim m [ inl e ↦ e | inr i ↦ absurd i ]

descend : (fo : Forest) (h : Bool) (f : ℕ) (ls : List ℕ) (p : Place) (above : Line) → HasPorts fo → Above p h f ls fo
    → (v : Line) → In v ((p ∷ above) ∷ lines fo h f ls (p ∷ above)) → Descent v p above f (f + count fo) (count fo) ls
descend no_trees h f ls p above ports a v m =
    subst (λ w. Descent w p above f (f + 0) 0 ls) (sym (only v (p ∷ above) m)) (record {
      down = [];
      to = refl;
      goes = arrives p.tree_record p.label a.number;
      short = omega arith;
      low = omega (arith, a.number);
      gap = λ w. absurd (omega (arith, a.number, w));
      high = omega (arith, a.number, a.low);
      begins = ([], a.ports ∙ sym (append-nil ls));
    })
descend (twig n u d below beside) h f ls p above ports a v m =
    let ls1 = lights_at h ls d in
    let z = here h f ls n u d below beside p above in
    elim (parted v (p ∷ above) (z ∷ p ∷ above) (lines below true (f + 1) ls1 (z ∷ p ∷ above)) (lines beside false (f + 1 + count below) ls (p ∷ above)) m) [
      | inl i ↦ descend_less (step_down h f ls n u d below beside p above ports.1.0 a v (descend below true (f + 1) ls1 z (p ∷ above) ports.1.1.0 (above_here n u d below f ls1 (p ∷ above)) v i))
          (omega arith) (omega arith) (omega arith)
      | inr i ↦ descend_less (descend beside false (f + 1 + count below) ls p above ports.1.1.1 (above_beside h f ls n u d below beside p above a) v i) (omega arith) (omega arith) (omega arith)
    ]

ascend : (fo : Forest) (h : Bool) (f : ℕ) (ls : List ℕ) (p : Place) (above : Line) → HasPorts fo → p.tree_record.first < f → (l : Label) → (f ≤ l.first → f + count fo ≤ l.first)
    → (x : Line) → In x ((p ∷ above) ∷ lines fo h f ls (p ∷ above)) → Ascent x l p above (count fo)
ascend no_trees h f ls p above ports low l out x m = record { up = []; from = only x (p ∷ above) m; goes = λ rest g. g; short = omega arith }
ascend (twig n u d below beside) h f ls p above ports low l out x m =
    let ls1 = lights_at h ls d in
    let z = here h f ls n u d below beside p above in
    elim (parted x (p ∷ above) (z ∷ p ∷ above) (lines below true (f + 1) ls1 (z ∷ p ∷ above)) (lines beside false (f + 1 + count below) ls (p ∷ above)) m) [
      | inl i ↦ ascend_less (step_up h f ls n u d below beside p above ports.0 low l (λ g. omega (arith, out)) x
          (ascend below true (f + 1) ls1 z (p ∷ above) ports.1.1.0 (omega arith) l (λ g. omega (arith, out)) x i)) (omega arith)
      | inr i ↦ ascend_less (ascend beside false (f + 1 + count below) ls p above ports.1.1.1 (omega arith) l (λ g. omega (arith, out)) x i) (omega arith)
    ]

-- up to p and down again
way_by : {x v : Line} {p : Place} {above : Line} {f end j k m : ℕ} {ls : List ℕ} → Ascent x (label_of v) p above j → Descent v p above f end k ls → j + k ≤ m → Way x v (label_of v) m
way_by {v = v} {p = p} {above = above} up down few =
    let all = up.goes (reverse down.down) down.goes in
    record { up = up.up; at = p; down = down.down; above = above; from = up.from; to = down.to; follows = sinks_follow (label_of v) _ all; simple = sinks_simple (label_of v) _ all; short = omega (arith, up.short, down.short) }

way_less : {x v : Line} {l : Label} {m k : ℕ} → Way x v l m → m ≤ k → Way x v l k
way_less w e = record { up = w.up; at = w.at; down = w.down; above = w.above; from = w.from; to = w.to; follows = w.follows; simple = w.simple; short = omega (arith, w.short) }

way : (fo : Forest) (h : Bool) (f : ℕ) (ls : List ℕ) (p : Place) (above : Line) → HasPorts fo → Above p h f ls fo
    → (x v : Line) → In x ((p ∷ above) ∷ lines fo h f ls (p ∷ above)) → In v ((p ∷ above) ∷ lines fo h f ls (p ∷ above)) → Way x v (label_of v) (count fo)
way no_trees h f ls p above ports a x v mx mv = way_by (ascend no_trees h f ls p above ports a.low (label_of v) (λ g. omega arith) x mx) (descend no_trees h f ls p above ports a v mv) (omega arith)
way (twig n u d below beside) h f ls p above ports a x v mx mv =
    let ls1 = lights_at h ls d in
    let z = here h f ls n u d below beside p above in
    let A = lines below true (f + 1) ls1 (z ∷ p ∷ above) in
    let B = lines beside false (f + 1 + count below) ls (p ∷ above) in
    let inner = above_here n u d below f ls1 (p ∷ above) in
    let rest = above_beside h f ls n u d below beside p above a in
    elim (parted x (p ∷ above) (z ∷ p ∷ above) A B mx) [
      | inl i ↦ elim (parted v (p ∷ above) (z ∷ p ∷ above) A B mv) [
        | inl j ↦ way_less (way below true (f + 1) ls1 z (p ∷ above) ports.1.1.0 inner x v i j) (omega arith)
        | inr j ↦ (
            let r = descend beside false (f + 1 + count below) ls p above ports.1.1.1 rest v j in
            let out : f ≤ (label_of v).first → f + 1 + count below ≤ (label_of v).first = λ g. r.gap (omega (arith, a.low, g)) in
            way_by (step_up h f ls n u d below beside p above ports.0 a.low (label_of v) (λ g. omega (arith, out)) x
            (ascend below true (f + 1) ls1 z (p ∷ above) ports.1.1.0 (omega arith) (label_of v) (λ g. omega (arith, out)) x i)) r (omega arith))
      ]
      | inr i ↦ elim (parted v (p ∷ above) (z ∷ p ∷ above) A B mv) [
        | inl j ↦ (
            let r = descend below true (f + 1) ls1 z (p ∷ above) ports.1.1.0 inner v j in
            way_by (ascend beside false (f + 1 + count below) ls p above ports.1.1.1 (omega (arith, a.low)) (label_of v) (λ g. omega (arith, g, r.high)) x i)
            (step_down h f ls n u d below beside p above ports.1.0 a v r) (omega arith))
        | inr j ↦ way_less (way beside false (f + 1 + count below) ls p above ports.1.1.1 rest x v i j) (omega arith)
      ]
    ]

-- The theorem: between any two members of a tree, steps by the label of the one lead from the other along the way in the
-- tree, over fewer edges than the tree has members.
pub tree_way : (t : Tree) → HasPorts t.below → (x v : Line) → Among x (tree_lines t) → Among v (tree_lines t) → Way x v (label_of v) (count t.below)
tree_way t ports x v mx mv = way t.below true 1 [] (place t.node None None t.below 0 [] []) [] ports (above_here t.node None None t.below 0 [] []) x v mx mv
