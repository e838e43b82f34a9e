-- One edge more of a list in its network.
use Rattle.std.proofs.Common.{◌≡◌, ◌⊎◌, inl, inr, ⊎_elim, ℕ, ◌+◌, ◌<◌, Bool, true, false, cond, ◌&&◌, List, [], ◌∷◌, ◌++◌, length, get_or, take, None, Some, eqb, refl, sym, ap, ap₂, ◌∙◌, subst, length-append}
use Rattle.std.specs.FinMap.{get, insert, empty, len, get-insert, get-empty, len-empty}
use Rattle.std.specs.Option.{is_some}
use Rattle.std.specs.Ordering.{eq_by_cmp}
use Rattle.std.proofs.lemmas.Bool.Decides.{Decides-eqb}
use Rattle.std.proofs.lemmas.Bool.{and_parts}
use Rattle.std.proofs.lemmas.List.{take_more}
use Rattle.std.proofs.lemmas.Option.{same_Some, slice_get-get_or}
use Rattle.graph_edits.specs.Changes.{IsRefusedOp, refusal_at}
use Rattle.graph_edits.specs.Edges.{EdgeMap, Network, pair_cmp, pair_of, weight_between}
use Rattle.graph_edits.specs.declared.edits.EditRefused.{EditRefused}
use Rattle.graph_edits.specs.declared.edits.EditRefused.TheVariants.{Op as OpRefused, Memory}
use Rattle.graph_edits.proofs.EdgesOfRows.{pair_tied, pair_total}
use Rattle.graph_edits.proofs.Ops.{add_passed, one_more_edge}
use Rattle.network_load.specs.declared.list.Edge.{Edge}
use Rattle.network_load.specs.Networks.{HoldsJust, IsNoNetwork, Joins, SomeJoins, op_of, refused_as}

-- no edges yet
pub just_none : (nodes : ℕ) (g : Network) → g ≡ record { nodes = nodes; edges = empty } → HoldsJust nodes [] g
just_none nodes g is = subst (HoldsJust nodes []) (sym is) (record {
  nodes_are = refl;
  just = λ a b w. (λ there. let none : None ≡ Some w = sym (get-empty pair_cmp (pair_of a b)) ∙ there in absurd cc, λ none. absurd none);
  count = len-empty pair_cmp ℕ;
})

-- an edge behind others
some_before : (edges : List Edge) (edge : Edge) (a b w : ℕ) → SomeJoins edges a b w → SomeJoins (edges ++ edge ∷ []) a b w
some_before [] edge a b w none = absurd none
some_before (e ∷ es) edge a b w (inl joins) = inl joins
some_before (e ∷ es) edge a b w (inr some) = inr (some_before es edge a b w some)

some_last : (edges : List Edge) (edge : Edge) (a b w : ℕ) → Joins edge a b w → SomeJoins (edges ++ edge ∷ []) a b w
some_last [] edge a b w joins = inl joins
some_last (e ∷ es) edge a b w joins = inr (some_last es edge a b w joins)

some_of : (edges : List Edge) (edge : Edge) (a b w : ℕ) → SomeJoins (edges ++ edge ∷ []) a b w → SomeJoins edges a b w ⊎ Joins edge a b w
some_of [] edge a b w (inl joins) = inr joins
some_of [] edge a b w (inr none) = absurd none
some_of (e ∷ es) edge a b w (inl joins) = inl (inl joins)
some_of (e ∷ es) edge a b w (inr some) = ⊎_elim (λ before. inl (inr before)) inr (some_of es edge a b w some)

-- the test of two pairs
tied_is : (p q : ℕ × ℕ) → eq_by_cmp pair_cmp p q ≡ true → p ≡ q
tied_is p q is =
    let both = and_parts (eqb p.0 q.0) (eqb p.1 q.1) (sym (pair_tied p q) ∙ is) in
    ap₂ (λ (x y : ℕ). (x, y)) ((Decides-eqb p.0 q.0).0 both.0) ((Decides-eqb p.1 q.1).0 both.1)

is_tied : (p q : ℕ × ℕ) → p ≡ q → eq_by_cmp pair_cmp p q ≡ true
is_tied p q is =
    pair_tied p q ∙ ap₂ (λ (x y : Bool). x && y) ((Decides-eqb p.0 q.0).1 (ap (λ (r : ℕ × ℕ). r.0) is)) ((Decides-eqb p.1 q.1).1 (ap (λ (r : ℕ × ℕ). r.1) is))

module _ (m : EdgeMap) (k : ℕ × ℕ) (v : ℕ) (free : is_some (get m k) ≡ false) where
  here : (q : ℕ × ℕ) (w : ℕ) (t : Bool) → eq_by_cmp pair_cmp q k ≡ t → get (insert m k v) q ≡ Some w → (get m q ≡ Some w) ⊎ ((k ≡ q) × (v ≡ w))
  here q w true is there = inr (sym (tied_is q k is), same_Some v w (ap (λ (t : Bool). cond t (Some v) (get m q)) (sym is) ∙ sym (get-insert pair_total m k v q) ∙ there))
  here q w false is there = inl (ap (λ (t : Bool). cond t (Some v) (get m q)) (sym is) ∙ sym (get-insert pair_total m k v q) ∙ there)

  new : (q : ℕ × ℕ) (w : ℕ) → k ≡ q → v ≡ w → get (insert m k v) q ≡ Some w
  new q w same is = get-insert pair_total m k v q ∙ ap (λ (t : Bool). cond t (Some v) (get m q)) (is_tied q k (sym same)) ∙ ap Some is

  old : (q : ℕ × ℕ) (w : ℕ) (t : Bool) → eq_by_cmp pair_cmp q k ≡ t → get m q ≡ Some w → get (insert m k v) q ≡ Some w
  old q w true is there =
      let clash : true ≡ false = sym (ap is_some (ap (get m) (sym (tied_is q k is)) ∙ there)) ∙ free in absurd cc
  old q w false is there = get-insert pair_total m k v q ∙ ap (λ (t : Bool). cond t (Some v) (get m q)) is ∙ there

-- with one edge more the network has just it more
pub just_more : (nodes : ℕ) (edges : List Edge) (edge : Edge) (g h : Network) → HoldsJust nodes edges g → refusal_at g.nodes g.edges (op_of edge) ≡ None
    → h ≡ record { nodes = g.nodes; edges = insert g.edges (pair_of edge.a edge.b) edge.weight } → HoldsJust nodes (edges ++ edge ∷ []) h
just_more nodes edges edge g h holds passed is = subst (HoldsJust nodes (edges ++ edge ∷ [])) (sym is) (record {
  nodes_are = holds.nodes_are;
  just = λ a b w. (
    λ there. ⊎_elim (λ was. some_before edges edge a b w ((holds.just a b w).0 was)) (some_last edges edge a b w) (here g.edges k edge.weight free (pair_of a b) w _ refl there),
    λ some. ⊎_elim (λ before. old g.edges k edge.weight free (pair_of a b) w _ refl ((holds.just a b w).1 before)) (λ joins. new g.edges k edge.weight free (pair_of a b) w joins.0 joins.1) (some_of edges edge a b w some),
  );
  count = one_more_edge g.edges edge.a edge.b edge.weight free ∙ ap (λ n. n + 1) holds.count ∙ sym (length-append edges (edge ∷ []));
})
  where
    k : ℕ × ℕ
    k = pair_of edge.a edge.b

    free : is_some (weight_between g.edges edge.a edge.b) ≡ false
    free = (add_passed g.nodes (len g.edges) edge.a edge.b edge.weight _ passed).free

module _ (nodes : ℕ) (edges : List Edge) (place : ℕ) (d : Edge) (g : Network) (within : place < length edges) (holds : HoldsJust nodes (take place edges) g) where
  abbrev edge : Edge
  edge = get_or edges place d

  -- the edge of a place more
  pub just_to : (h : Network) → refusal_at g.nodes g.edges (op_of edge) ≡ None → h ≡ record { nodes = g.nodes; edges = insert g.edges (pair_of edge.a edge.b) edge.weight } → HoldsJust nodes (take (place + 1) edges) h
  just_to h passed added =
      subst (λ (l : List Edge). HoldsJust nodes l h) (sym (take_more edges place d within)) (just_more nodes (take place edges) edge g h holds passed added)

  -- the edge of a place is refused
  pub none_of : (refused : EditRefused) → IsRefusedOp 0 (refusal_at g.nodes g.edges (op_of edge)) refused → IsNoNetwork nodes edges (refused_as place refused)
  none_of (OpRefused index code) why = record {
    before = g;
    taken = holds;
    edge = edge;
    there = slice_get-get_or edges place d within;
    why = subst (λ n. refusal_at n g.edges (op_of edge) ≡ Some code) holds.nodes_are why.1;
  }
  none_of Memory why = tt
