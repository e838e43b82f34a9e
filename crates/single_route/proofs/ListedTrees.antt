-- Lines of ancestors, by the parents that a tree's list of members has.
use Rattle.std.proofs.Common.{◌≡◌, ◌≢◌, inl, inr, ℕ, zero, suc, ◌==◌, true, false, List, [], ◌∷◌, ◌++◌, reverse, refl, sym, ap, ◌∙◌, subst, arith, append_assoc}
use Rattle.std.specs.Prelude.{Option, Some, None, IfSome}
use Rattle.std.specs.List.{Contains, list_any}
use Rattle.std.proofs.lemmas.List.{append-nil, map-append}
use Rattle.std.proofs.lemmas.List.Elements.{Contains-append_right}
use Rattle.std.proofs.lemmas.Option.{same_Some, none-some}
use Rattle.std.proofs.lemmas.Bool.{eqb-true, eqb-false, false≢true, or_cases, or_parts}
use Rattle.distances.specs.declared.reach.Reached.{Reached}
use Rattle.distances.specs.declared.linked.Linked.{Linked}
use Rattle.distances.specs.Workspace.{reached_of}
use Rattle.single_route.specs.ListedLines.{HasMember, AreParentsBefore, HasOneRoot, IsAbove, IsLine, IsFork, IsListedPath}

-- ---- members

pub has_of : (x : ℕ) (tree : List Reached) (k : Reached) → Contains tree k → k.node ≡ x → HasMember x tree
has_of x [] k c e = absurd (let lt = c.1 in omega (arith, lt))
has_of x (j ∷ js) k (zero, lt, is) e = inl (ap (λ (z : Reached). z.node) is ∙ e)
has_of x (j ∷ js) k (suc i, lt, is) e = inr (has_of x js k (i, omega (arith, lt), is) e)

pub of_has : (x : ℕ) (tree : List Reached) → HasMember x tree → (k : Reached) × (Contains tree k × (k.node ≡ x))
of_has x [] h = absurd h
of_has x (j ∷ js) (inl e) = (j, ((0, omega arith, refl), e))
of_has x (j ∷ js) (inr h) = let r = of_has x js h in (r.0, (Contains-append_right (j ∷ []) js r.0 r.1.0, r.1.1))

has_before : (x : ℕ) (front : List Reached) (k : Reached) → HasMember x (front ++ k ∷ []) → (k.node ≡ x → ⊥) → HasMember x front
has_before x [] k (inl e) ne = ne e
has_before x [] k (inr h) ne = h
has_before x (j ∷ js) k (inl e) ne = inl e
has_before x (j ∷ js) k (inr h) ne = inr (has_before x js k h ne)

-- a search of the members finds one
pub any_has : (x : ℕ) (members : List Linked) → list_any (λ k. k.reached.node == x) members ≡ true → HasMember x (reached_of members)
any_has x [] e = absurd (false≢true e)
any_has x (k ∷ ks) e = elim (or_cases (k.reached.node == x) (list_any (λ k. k.reached.node == x) ks) e) [ inl t ↦ inl (eqb-true k.reached.node x t) | inr t ↦ inr (any_has x ks t) ]

-- and where it finds none there is none
pub any_lacks : (x : ℕ) (members : List Linked) → list_any (λ k. k.reached.node == x) members ≡ false → HasMember x (reached_of members) → ⊥
any_lacks x [] e h = h
any_lacks x (k ∷ ks) e (inl is) = eqb-false k.reached.node x (or_parts (k.reached.node == x) (list_any (λ k. k.reached.node == x) ks) e).0 is
any_lacks x (k ∷ ks) e (inr h) = any_lacks x ks (or_parts (k.reached.node == x) (list_any (λ k. k.reached.node == x) ks) e).1 h

-- ---- lines

line_push : (tree : List Reached) (first : Option ℕ) (xs : List ℕ) (x : ℕ) (o : Option ℕ) → IsLine tree first xs (Some x) → IsAbove tree x o → IsLine tree first (xs ++ x ∷ []) o
line_push tree first [] x o l a = (l, (o, (a, refl)))
line_push tree first (y ∷ ys) x o l a = (l.0, (l.1.0, (l.1.1.0, line_push tree l.1.0 ys x o l.1.1.1 a)))

pub line_cut : (tree : List Reached) (first : Option ℕ) (xs : List ℕ) (x : ℕ) (ys : List ℕ) (next : Option ℕ) → IsLine tree first (xs ++ x ∷ ys) next → IsLine tree first xs (Some x) × IsLine tree (Some x) (x ∷ ys) next
line_cut tree first [] x ys next l = (l.0, (refl, l.1))
line_cut tree first (z ∷ zs) x ys next l = let r = line_cut tree l.1.0 zs x ys next l.1.1.1 in ((l.0, (l.1.0, (l.1.1.0, r.0))), r.1)

-- the members that are left while a line is climbed
pub record IsClimbing (tree left : List Reached) (node : ℕ) (line : List ℕ) (above : Option ℕ) : Type 0 where
  pub before : AreParentsBefore left
  pub inside : (done : List Reached) × (tree ≡ left ++ done)
  pub stands : IfSome above (λ y. HasMember y left)
  pub line_is : IsLine tree (Some node) line above

fewer_before : (left front : List Reached) (k : Reached) → left ≡ front ++ k ∷ [] → AreParentsBefore left → AreParentsBefore front
fewer_before left front k is h f b j e = h f (b ++ k ∷ []) j (is ∙ ap (λ z. z ++ k ∷ []) e ∙ append_assoc f (j ∷ b) (k ∷ []))

more_done : (tree left front : List Reached) (k : Reached) → left ≡ front ++ k ∷ [] → (done : List Reached) × (tree ≡ left ++ done) → (done : List Reached) × (tree ≡ front ++ done)
more_done tree left front k is d = (k ∷ d.0, d.1 ∙ ap (λ z. z ++ d.0) is ∙ append_assoc front (k ∷ []) d.0)

stands_in : (tree left front : List Reached) (k : Reached) → left ≡ front ++ k ∷ [] → (done : List Reached) × (tree ≡ left ++ done) → Contains tree k
unfolding more_done
stands_in tree left front k is d = let e = more_done tree left front k is d in subst (λ z. Contains z k) (sym e.1) (Contains-append_right front (k ∷ d.0) k (0, omega arith, refl))

-- the last member is the one that is sought
pub climbing_up : (tree left front : List Reached) (node : ℕ) (line : List ℕ) (k : Reached) → left ≡ front ++ k ∷ [] → IsClimbing tree left node line (Some k.node) → IsClimbing tree front node (line ++ k.node ∷ []) k.parent
climbing_up tree left front node line k is h = record {
  before = fewer_before left front k is h.before;
  inside = more_done tree left front k is h.inside;
  stands = h.before front [] k is;
  line_is = line_push tree (Some node) line k.node k.parent h.line_is (k, (stands_in tree left front k is h.inside, refl, refl));
}

-- or it isn't
pub climbing_past : (tree left front : List Reached) (node : ℕ) (line : List ℕ) (above : Option ℕ) (k : Reached) → left ≡ front ++ k ∷ [] → above ≢ Some k.node → IsClimbing tree left node line above → IsClimbing tree front node line above
climbing_past tree left front node line None k is ne h =
    record { before = fewer_before left front k is h.before; inside = more_done tree left front k is h.inside; stands = tt; line_is = h.line_is }
climbing_past tree left front node line (Some y) k is ne h = record {
  before = fewer_before left front k is h.before;
  inside = more_done tree left front k is h.inside;
  stands = has_before y front k (subst (HasMember y) is h.stands) (λ e. ne (ap (λ z. Some z) (sym e)));
  line_is = h.line_is;
}

pub reached_push : (members before : List Linked) (k : Linked) → members ≡ before ++ k ∷ [] → reached_of members ≡ reached_of before ++ k.reached ∷ []
reached_push members before k e = ap reached_of e ∙ map-append (λ (m : Linked). m.reached) before (k ∷ [])

-- ---- what two lines end with

-- two lists up to what they both end with
pub record IsForking (up down up_left down_left : List ℕ) (first : Option ℕ) : Type 0 where
  pub common : List ℕ
  pub up_is : up ≡ up_left ++ common
  pub down_is : down ≡ down_left ++ common
  pub begins : first ≡ elim common [ [] ↦ None | x ∷ xs ↦ Some x ]

-- ---- paths

-- a line to where nothing is above ends with a root
ends_with_root : (tree : List Reached) (x : ℕ) (xs : List ℕ) → IsLine tree (Some x) xs None → (front : List ℕ) × ((root : ℕ) × ((xs ≡ front ++ root ∷ []) × IsAbove tree root None))
ends_with_root tree x [] l = absurd (none-some x (sym l))
ends_with_root tree x (y ∷ ys) l = by (λ z r. ends_with_root tree z ys r) l.1.0 l.1.1.0 l.1.1.1
  where
    nothing : (zs : List ℕ) → IsLine tree None zs None → zs ≡ []
    nothing [] r = refl
    nothing (z ∷ zs) r = absurd (none-some z r.0)

    by : ((z : ℕ) → IsLine tree (Some z) ys None → (front : List ℕ) × ((root : ℕ) × ((ys ≡ front ++ root ∷ []) × IsAbove tree root None))) → (o : Option ℕ) → IsAbove tree y o → IsLine tree o ys None → (front : List ℕ) × ((root : ℕ) × ((y ∷ ys ≡ front ++ root ∷ []) × IsAbove tree root None))
    by rest None a r = ([], (y, (ap (λ z. y ∷ z) (nothing ys r), a)))
    by rest (Some z) a r = let ih = rest z r in (y ∷ ih.0, (ih.1.0, (ap (λ w. y ∷ w) ih.1.1.0, ih.1.1.1)))

-- two lines up to the root end with it both
pub some_common : (tree : List Reached) (u v : ℕ) (up down up_left down_left : List ℕ) (first : Option ℕ) → HasOneRoot tree → IsLine tree (Some u) up None → IsLine tree (Some v) down None
    → IsFork up down up_left down_left first → first ≡ None → ⊥
some_common tree u v up down up_left down_left first one a b f none = by f.common f.up_is f.down_is f.begins
  where
    by : (common : List ℕ) → up ≡ up_left ++ common → down ≡ down_left ++ common → first ≡ elim common as (λ _. Option ℕ) [ [] ↦ None | x ∷ xs ↦ Some x ] → ⊥
    by [] p q e =
        let r = ends_with_root tree u up a in
        let s = ends_with_root tree v down b in
        let same : r.1.0 ≡ s.1.0 = one r.1.0 s.1.0 r.1.1.1 s.1.1.1 in
        f.differ r.1.0 r.0 s.0 (sym (append-nil up_left) ∙ sym p ∙ r.1.1.0) (sym (append-nil down_left) ∙ sym q ∙ s.1.1.0 ∙ ap (λ z. s.0 ++ z ∷ []) (sym same))
    by (x ∷ xs) p q e = absurd (none-some x (sym none ∙ e))

-- up to the first node that both have, and down
pub listed_path : (tree : List Reached) (u v at : ℕ) (up down up_left down_left path : List ℕ) (first : Option ℕ) → IsLine tree (Some u) up None → IsLine tree (Some v) down None
    → IsFork up down up_left down_left first → first ≡ Some at → path ≡ up_left ++ at ∷ reverse down_left → IsListedPath tree u v path
listed_path tree u v at up down up_left down_left path first a b f some is = by f.common f.up_is f.down_is f.begins
  where
    by : (common : List ℕ) → up ≡ up_left ++ common → down ≡ down_left ++ common → first ≡ elim common as (λ _. Option ℕ) [ [] ↦ None | x ∷ xs ↦ Some x ] → IsListedPath tree u v path
    by [] p q e = absurd (none-some at (sym e ∙ some))
    by (x ∷ xs) p q e =
        let same : x ≡ at = same_Some x at (sym e ∙ some) in
        let l = line_cut tree (Some u) up_left x xs None (subst (λ z. IsLine tree (Some u) z None) p a) in
        let r = line_cut tree (Some v) down_left x xs None (subst (λ z. IsLine tree (Some v) z None) q b) in
        record {
          up = up_left;
          at = at;
          down = down_left;
          rises = subst (λ z. IsLine tree (Some u) up_left (Some z)) same l.0;
          falls = subst (λ z. IsLine tree (Some v) down_left (Some z)) same r.0;
          differ = f.differ;
          listed = is;
        }
