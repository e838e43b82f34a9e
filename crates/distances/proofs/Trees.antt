-- The tree that a search and its parents make.
use Rattle.std.proofs.Common.{◌≡◌, ℕ, ◌+◌, ◌<◌, ◌≤◌, true, inl, inr, List, [], ◌∷◌, map, set, length, get_or, Option, Some, None, refl, sym, ap, ◌∙◌, subst, arith, get_or-set_same, get_or-set_other}
use Rattle.std.specs.List.{All, Contains}
use Rattle.std.proofs.lemmas.Bool.{cases_eq, cases_lt}
use Rattle.std.proofs.lemmas.List.{get_or_past}
use Rattle.distances.specs.declared.linked.Linked.{Linked}
use Rattle.distances.specs.Workspace.{reached_of}
use Rattle.std.proofs.lemmas.List.Elements.{All-nil, All-cons, All-head, All-tail, All-contains, All-weaker, Contains-append_right}
use Rattle.std.proofs.lemmas.List.Sums.{sum_by-cons}
use Rattle.std.proofs.lemmas.Option.{same_Some, none-some}
use Rattle.graph_edits.specs.Edges.{EdgeMap, Network, IsSound}
use Rattle.graph_edits.specs.Walks.{walk_length, IsLeast}
use Rattle.graph_edits.specs.Laws.{weight_between-sym}
use Rattle.distances.specs.declared.search.Settled.{Settled}
use Rattle.distances.specs.declared.reach.Reached.{Reached}
use Rattle.distances.specs.Search.{is_below, number_at, IsAtZero, AreGentle, IsAscending, EachSettled, HasNode, degrees}
use Rattle.distances.specs.Table.{IsTable, IsListing, IsTightBy, IsFirstTight}
use Rattle.graph_edits.specs.Edges.{degree_of}
use Rattle.distances.specs.Reach.{settled_of, IsTight, IsParent, IsTree, degrees_of}
use Rattle.distances.proofs.Tight.{tight_exists}

-- ---- other words for the sources

pub least_from : (m : EdgeMap) (Source Other : ℕ → Type 0) → ((s : ℕ) → Source s → Other s) → ((s : ℕ) → Other s → Source s) → (v d : ℕ) → IsLeast m Source v d → IsLeast m Other v d
least_from m Source Other to back v d h = let a = h.attained in record { attained = (a.0, (to a.0 a.1.0, a.1.1)); least = λ s xs o walk. h.least s xs (back s o) walk }

pub table_from : (m : EdgeMap) (Source Other : ℕ → Type 0) → ((s : ℕ) → Source s → Other s) → ((s : ℕ) → Other s → Source s) → (limit number : ℕ → Option ℕ) → IsTable m Source limit number → IsTable m Other limit number
table_from m Source Other to back limit number h = record {
  exact = λ y e is. let x = h.exact y e is in (least_from m Source Other to back y e x.0, x.1);
  complete = λ s x xs o walk below. h.complete s x xs (back s o) walk below;
}

-- where no node has a number, the root alone stands at 0 once it is put there
pub only_root : (numbers : List (Option ℕ)) (root s : ℕ) → ((y : ℕ) → number_at numbers y ≡ None) → IsAtZero (set numbers root (Some 0)) s → s ≡ root
only_root numbers root s none t = elim (cases_eq s root) [
  | inl e ↦ e
  | inr ne ↦ absurd (none-some 0 (sym (get_or-set_other numbers root s (Some 0) None ne ∙ none s) ∙ t))
]

pub root_is : (numbers : List (Option ℕ)) (root s : ℕ) → root < length numbers → s ≡ root → IsAtZero (set numbers root (Some 0)) s
root_is numbers root s lt e = ap (number_at (set numbers root (Some 0))) e ∙ get_or-set_same numbers root (Some 0) None lt

-- ---- members

pub listed_members : (number : ℕ → Option ℕ) (tree : List Reached) → EachSettled (λ x d. number x ≡ Some d) (map settled_of tree) → All (λ r. number r.node ≡ Some r.distance) tree
listed_members number [] h = All-nil (λ r. number r.node ≡ Some r.distance)
listed_members number (r ∷ rs) h = All-cons (λ r. number r.node ≡ Some r.distance) r rs h.0 (listed_members number rs h.1)

has_member : (x : ℕ) (tree : List Reached) → HasNode x (map settled_of tree) → (r : Reached) × (Contains tree r × (r.node ≡ x))
has_member x [] h = absurd h
has_member x (r ∷ rs) (inl e) = (r, ((0, omega arith, refl), e))
has_member x (r ∷ rs) (inr h) = let m = has_member x rs h in (m.0, (Contains-append_right (r ∷ []) rs m.0 m.1.0, m.1.1))

pub degrees_members : (g : Network) (tree : List Reached) → degrees g (map settled_of tree) ≡ degrees_of g tree
degrees_members g [] = refl
degrees_members g (r ∷ rs) =
    let a = sum_by-cons (λ s. degree_of g s.node) (settled_of r) (map settled_of rs) in
    let b = sum_by-cons (λ r. degree_of g r.node) r rs in
    let c = degrees_members g rs in
    omega (arith, a, b, c)

module _ (g : Network) (sound : IsSound g) (root : ℕ) (limit number : ℕ → Option ℕ) (gentle : AreGentle g.edges limit) (table : IsTable g.edges (λ s. s ≡ root) limit number) (order : List Settled) (listing : IsListing number order) (ascending : IsAscending order)
    (tree : List Reached) (same : map settled_of tree ≡ order) (first : All (λ r. IsFirstTight g.edges number r.node r.distance r.parent) tree) where
  members : All (λ r. number r.node ≡ Some r.distance) tree
  members = listed_members number tree (subst (EachSettled (λ x d. number x ≡ Some d)) (sym same) listing.listed)

  member : (x d : ℕ) → number x ≡ Some d → (r : Reached) × (Contains tree r × (r.node ≡ x))
  member x d is = has_member x tree (subst (HasNode x) (sym same) (listing.has x d is))

  to_tight : (x d y : ℕ) → IsTightBy g.edges number x d y → IsTight g.edges tree x d y
  to_tight x d y t =
      let k = member y t.0 t.1.1.0 in
      let at : number k.0.node ≡ Some k.0.distance = All-contains (λ r. number r.node ≡ Some r.distance) tree k.0 members k.1.0 in
      let e : k.0.distance ≡ t.0 = same_Some k.0.distance t.0 (sym at ∙ ap number k.1.1 ∙ t.1.1.0) in
      (k.0, t.1.0, (k.1.0, k.1.1, weight_between-sym g.edges y x ∙ t.1.1.1, ap (λ n. n + t.1.0) e ∙ t.1.1.2))

  from_tight : (x d y : ℕ) → IsTight g.edges tree x d y → IsTightBy g.edges number x d y
  from_tight x d y t =
      let at : number t.0.node ≡ Some t.0.distance = All-contains (λ r. number r.node ≡ Some r.distance) tree t.0 members t.2.0 in
      (t.0.distance, (t.1, (ap number (sym t.2.1) ∙ at, weight_between-sym g.edges x y ∙ t.2.2, t.2.3)))

  root_at : (d : ℕ) → number root ≡ Some d → d ≤ 0
  root_at d is = (table.exact root d is).0.least root [] refl refl

  no_tight_root : (x d y : ℕ) → number x ≡ Some d → IsTightBy g.edges number x d y → x ≡ root → ⊥
  no_tight_root x d y is t e =
      let z = root_at d (ap number (sym e) ∙ is) in
      let one = (sound.weighted x y t.1.0 t.1.1.1).0 in
      absurd (omega (arith, z, one, t.1.1.2))

  parent_is : (x d : ℕ) (o : Option ℕ) → number x ≡ Some d → IsFirstTight g.edges number x d o → IsParent g.edges root tree x d o
  parent_is x d None is h = elim (cases_eq x root) [
    | inl e ↦ e
    | inr ne ↦ let t = tight_exists g.edges (λ s. s ≡ root) limit number table gentle x d is ne in absurd (h t.0 t.1)
  ]
  parent_is x d (Some y) is h = (no_tight_root x d y is h.0, to_tight x d y h.0, λ z t. h.1 z (from_tight x d z t))

  parents_each : (rs : List Reached) → All (λ r. number r.node ≡ Some r.distance) rs → All (λ r. IsFirstTight g.edges number r.node r.distance r.parent) rs → All (λ r. IsParent g.edges root tree r.node r.distance r.parent) rs
  parents_each rs n f = λ i d lt. parent_is (get_or rs i d).node (get_or rs i d).distance (get_or rs i d).parent (n i d lt) (f i d lt)

  pub tree_done : IsTree g.edges root limit tree
  tree_done = record {
    ascending = subst IsAscending (sym same) ascending;
    exact = All-weaker (λ r. number r.node ≡ Some r.distance) (λ r. IsLeast g.edges (λ s. s ≡ root) r.node r.distance × (is_below r.distance (limit r.node) ≡ true)) (λ r is. table.exact r.node r.distance is) tree members;
    complete = λ x d h below.
        let a = h.attained in
        let e = table.complete a.0 x a.1.1.0 a.1.0 a.1.1.1.0 (subst (λ k. is_below k (limit x) ≡ true) (sym a.1.1.1.1) below) in
        member x e.0 e.1;
    parents = parents_each tree members first;
  }

pub within_order : (n : ℕ) (distances : List (Option ℕ)) → length distances ≡ n → (order : List Settled) → EachSettled (λ x d. number_at distances x ≡ Some d) order → All (λ s. s.node < n) order
within_order n distances e [] h = All-nil (λ s. s.node < n)
within_order n distances e (s ∷ ss) h = All-cons (λ s. s.node < n) s ss (elim (cases_lt s.node (length distances)) [
  | inl lt ↦ omega (arith, lt, e)
  | inr le ↦ absurd (none-some s.distance (sym (get_or_past distances s.node None le) ∙ h.0))
]) (within_order n distances e ss h.1)

-- members with their ports, and without
pub reached_each : (P : Reached → Type 0) (members : List Linked) → All (λ m. P m.reached) members → All P (reached_of members)
reached_each P [] h = All-nil P
reached_each P (m ∷ ms) h = All-cons P m.reached (reached_of ms) (All-head (λ m. P m.reached) m ms h) (reached_each P ms (All-tail (λ m. P m.reached) m ms h))

-- a table by other words for the limits
pub table_limits : (m : EdgeMap) (Source : ℕ → Type 0) (limit other number : ℕ → Option ℕ) → ((x : ℕ) → limit x ≡ other x) → IsTable m Source limit number → IsTable m Source other number
table_limits m Source limit other number same h = record {
  exact = λ y e is. let x = h.exact y e is in (x.0, ap (is_below e) (sym (same y)) ∙ x.1);
  complete = λ s x xs source walk below. h.complete s x xs source walk (ap (is_below (walk_length m s xs)) (same x) ∙ below);
}
