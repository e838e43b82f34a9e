-- Entries after entries: the counts, the networks and the tickets add up.
use Rattle.std.proofs.Common.{◌≡◌, ℕ, ◌+◌, List, [], ◌∷◌, ◌++◌, length, Option, None, Some, refl, sym, ◌∙◌, ap, arith, length-append}
use Rattle.std.specs.Prelude.{Result, Ok, Err}
use Rattle.std.specs.Option.{option_map, option_and_then}
use Rattle.std.proofs.lemmas.List.{append-nil, map-append}
use Rattle.std.proofs.lemmas.List.Concat.{flat_map-append, flat_map-cons}
use Rattle.graph_edits.specs.Edges.{EdgeMap, Network}
use Rattle.graph_edits.specs.declared.edits.Op.{Op}
use Rattle.graph_edits.specs.declared.edits.Code.{Code}
use Rattle.graph_edits.specs.Changes.{fold_within, edges_after_within, after_within}
use Rattle.journal.specs.Forms.{EntryForm}
use Rattle.journal.specs.Records.{entries_of}
use Rattle.layout_reader.specs.Forms.{LayoutForm, IsLayoutForm}
use Rattle.layout_reader.specs.State.{State, state_with, changes_of, after}
use Rattle.layout_reader.proofs.Results.{some_is, ok_is}

module _ (most : ℕ) where
  pub fold-append : (g : Network) (xs ys : List (List Op)) → fold_within most g (xs ++ ys) ≡ option_and_then (λ h. fold_within most h ys) (fold_within most g xs)
  fold-append g [] ys = refl
  fold-append g (x ∷ xs) ys =
      elim (after_within most g x) as (λ r. (elim r [ Ok h ↦ fold_within most h (xs ++ ys) | Err e ↦ None ]) ≡ option_and_then (λ h. fold_within most h ys) (elim r [ Ok h ↦ fold_within most h xs | Err e ↦ None ])) [
        | Ok h ↦ fold-append h xs ys
        | Err e ↦ refl
      ]

  -- changes keep the number of nodes
  nodes_after : (g h : Network) (change : List Op) → after_within most g change ≡ Ok h → h.nodes ≡ g.nodes
  nodes_after g h change is = by (edges_after_within most g.nodes g.edges 0 change) is
    where
      by : (r : Result EdgeMap (ℕ × Code)) → (elim r as (λ _. Result Network (ℕ × Code)) [ Ok m ↦ Ok (record g { edges = m }) | Err e ↦ Err e ]) ≡ Ok h → h.nodes ≡ g.nodes
      by (Ok m) e = sym (ap (λ (u : Network). u.nodes) (ok_is (record g { edges = m }) h e))
      by (Err x) e = absurd cc

  pub nodes_fold : (g h : Network) (changes : List (List Op)) → fold_within most g changes ≡ Some h → h.nodes ≡ g.nodes
  nodes_fold g h [] is = ap (λ (u : Network). u.nodes) (sym (some_is g h is))
  nodes_fold g h (x ∷ xs) is = by (λ m e. nodes_fold m h xs e) (after_within most g x) refl is
    where
      by : ((m : Network) → fold_within most m xs ≡ Some h → h.nodes ≡ m.nodes) → (r : Result Network (ℕ × Code)) → after_within most g x ≡ r → (elim r as (λ _. Option Network) [ Ok m ↦ fold_within most m xs | Err e ↦ None ]) ≡ Some h → h.nodes ≡ g.nodes
      by later (Ok m) e is = later m is ∙ nodes_after g m x e
      by later (Err x) _ is = absurd cc

  -- one change more
  pub fold_next : (g h : Network) (x : List Op) (xs : List (List Op)) → after_within most g x ≡ Ok h → fold_within most g (x ∷ xs) ≡ fold_within most h xs
  fold_next g h x xs is = ap (λ (r : Result Network (ℕ × Code)). elim r as (λ _. Option Network) [ Ok m ↦ fold_within most m xs | Err e ↦ None ]) is

  -- where one is refused, all are
  pub fold_refused : (g : Network) (x : List Op) (xs : List (List Op)) (e : ℕ × Code) → after_within most g x ≡ Err e → fold_within most g (x ∷ xs) ≡ None
  fold_refused g x xs e is = ap (λ (r : Result Network (ℕ × Code)). elim r as (λ _. Option Network) [ Ok m ↦ fold_within most m xs | Err e ↦ None ]) is

module _ {E T : Type 0} {F : EntryForm E} (form : LayoutForm F T) where
  -- the state after entries
  pub after_is : (s : State T) (es : List E) (graph : Network) → fold_within form.sizes.most_edges s.graph (changes_of form es) ≡ Some graph → after form s es ≡ Some (state_with (s.count + length es) graph (form.tickets_after s.tickets es))
  after_is s es graph is = ap (option_map (λ graph. state_with (s.count + length es) graph (form.tickets_after s.tickets es))) is

  pub after_count : (s t : State T) (es : List E) → after form s es ≡ Some t → t.count ≡ s.count + length es
  after_count s t es is = by (fold_within form.sizes.most_edges s.graph (changes_of form es)) is
    where
      made : Network → State T
      made graph = state_with (s.count + length es) graph (form.tickets_after s.tickets es)

      by : (o : Option Network) → option_map made o ≡ Some t → t.count ≡ s.count + length es
      by None e = absurd cc
      by (Some g) e = sym (ap (λ (u : State T). u.count) (some_is (made g) t e))

  module _ (laws : IsLayoutForm form) where
    pub after-nil : (s : State T) → after form s [] ≡ Some s
    after-nil s = ap (λ k. Some (state_with k s.graph (form.tickets_after s.tickets []))) (omega arith) ∙ ap (λ (ts : T). Some (state_with s.count s.graph ts)) (laws.after_none s.tickets)

    pub after-append : (s : State T) (xs ys : List E) → after form s (xs ++ ys) ≡ option_and_then (λ t. after form t ys) (after form s xs)
    after-append s xs ys =
        ap (λ cs. option_map all (fold_within form.sizes.most_edges s.graph cs)) (map-append form.change_of xs ys)
        ∙ ap (option_map all) (fold-append form.sizes.most_edges s.graph (changes_of form xs) (changes_of form ys)) ∙ by (fold_within form.sizes.most_edges s.graph (changes_of form xs))
      where
        all : Network → State T
        all graph = state_with (s.count + length (xs ++ ys)) graph (form.tickets_after s.tickets (xs ++ ys))

        by : (o : Option Network)
            → option_map all (option_and_then (λ h. fold_within form.sizes.most_edges h (changes_of form ys)) o) ≡ option_and_then (λ t. after form t ys) (option_map (λ graph. state_with (s.count + length xs) graph (form.tickets_after s.tickets xs)) o)
        by None = refl
        by (Some h) =
            ap (λ k. option_map (λ graph. state_with k graph (form.tickets_after s.tickets (xs ++ ys))) (fold_within form.sizes.most_edges h (changes_of form ys))) (omega (arith, length-append xs ys))
            ∙ ap (λ (ts : T). option_map (λ graph. state_with (s.count + length xs + length ys) graph ts) (fold_within form.sizes.most_edges h (changes_of form ys))) (laws.after_parts s.tickets xs ys)

    -- one group more
    pub after-push : (s t u : State T) (groups : List (List E)) (group : List E) → after form s (entries_of groups) ≡ Some t → after form t group ≡ Some u → after form s (entries_of (groups ++ group ∷ [])) ≡ Some u
    after-push s t u groups group so_far more =
        let all : entries_of (groups ++ group ∷ []) ≡ entries_of groups ++ group = flat_map-append (λ (g : List E). g) groups (group ∷ []) ∙ ap (λ (l : List E). entries_of groups ++ l) (flat_map-cons (λ (g : List E). g) group [] ∙ append-nil group) in
        ap (after form s) all ∙ after-append s (entries_of groups) group ∙ ap (option_and_then (λ v. after form v group)) so_far ∙ more
