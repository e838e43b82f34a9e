use Rattle.std.proofs.Common.{◌≡◌, ℕ, List, sym, refl, ap, subst, false, true}
use Rattle.std.specs.Prelude.{Option, None}
use Rattle.std.proofs.lemmas.Result.{IfOk-weaker}
use Rattle.std.proofs.lemmas.Bool.{false≢true}
use Rattle.graph_edits.specs.Edges.{Network}
use Rattle.distances.specs.declared.linked.Linked.{Linked}
use Rattle.heavy_labels.specs.declared.numbered_member.NumberedMember.{NumberedMember}
use Rattle.distances.specs.Reach.{IsTree}
use Rattle.distances.specs.Nearest.{near_limit}
use Rattle.distances.specs.Search.{is_below}
use Rattle.distances.specs.Workspace.{reached_of}
use Rattle.node_table.specs.Building.{limit_by}
use Rattle.node_table.specs.Columns.{AreRowsWithin, IsTreeWithin}
use Rattle.node_table.specs.RowLists.{rows_by}
use Rattle.node_table.proofs.Builds.BuildSteps.{cluster_within, flag_false}
use Rattle.node_table.proofs.building.root_members.Goals as goal

-- the same rows under names that are equal to their own
rows_within : (m : Network) (r : ℕ) (table : List ℕ) (ns : List NumberedMember) (ks js : List Linked) (f h : ℕ → Option ℕ) → ks ≡ js → f ≡ h
    → AreRowsWithin m f r (rows_by r ks table ns) → AreRowsWithin m h r (rows_by r js table ns)
rows_within m r table ns ks js f h e d c = subst (λ z. AreRowsWithin m h r (rows_by r z table ns)) e (subst (λ limit. AreRowsWithin m limit r (rows_by r ks table ns)) d c)

-- the same tree
tree_within : (m : Network) (r : ℕ) (limit : ℕ → Option ℕ) (ks js : List Linked) → ks ≡ js → IsTree m.edges r limit (reached_of js) → is_below 0 (limit r) ≡ true
    → IsTreeWithin m limit r ks
tree_within m r limit ks js e tree below = (subst (λ ms. IsTree m.edges r limit (reached_of ms)) (sym e) tree, below)

pub cluster_in-requires-clause-nearest : goal.cluster_in-requires-clause-nearest
cluster_in-requires-clause-nearest g c = (c.args.survey.now.landmarks.now, c.requires.known.nearest)

pub number_reached-requires-2-clause-tree : goal.number_reached-requires-2-clause-tree
number_reached-requires-2-clause-tree g c = (
  near_limit c.args.survey.now.nearest.now.nearest,
  tree_within c.args.survey.now.graph.now c.args.root (near_limit c.args.survey.now.nearest.now.nearest) _ _ c.members-2.ensures c.in_ok-cluster_in.ensures.tree
      (cluster_within c.args.survey.now.graph.now c.graph_is_sound.ensures c.args.survey.now.landmarks.now c.args.survey.now.nearest.now.nearest c.args.root c.requires.known.nearest (λ k. false≢true (c.if-holds.ensures.1 k))),
)

pub returns-clause-column : goal.returns-clause-column
returns-clause-column g c = IfOk-weaker c.number_reached-2.result _ _ (λ numbered k.
    rows_within c.args.survey.now.graph.now c.args.root c.number_reached-2.new.places numbered.items _ _ _ _ c.members-2.ensures
    (ap (λ b. limit_by b c.args.survey.now.nearest.now.nearest) (sym (flag_false c.args.survey.now.landmarks.now c.args.root (λ k. false≢true (c.if-holds.ensures.1 k)))))
    (k (near_limit c.args.survey.now.nearest.now.nearest)
    (tree_within c.args.survey.now.graph.now c.args.root (near_limit c.args.survey.now.nearest.now.nearest) _ _ c.members-2.ensures c.in_ok-cluster_in.ensures.tree
    (cluster_within c.args.survey.now.graph.now c.graph_is_sound.ensures c.args.survey.now.landmarks.now c.args.survey.now.nearest.now.nearest c.args.root c.requires.known.nearest (λ k. false≢true (c.if-holds.ensures.1 k)))))) c.number_reached-2.ensures.column

pub returns-then-holds-clause-column : goal.returns-then-holds-clause-column
returns-then-holds-clause-column g c = IfOk-weaker c.number_reached.result _ _ (λ numbered k.
    rows_within c.args.survey.now.graph.now c.args.root c.number_reached.new.places numbered.items _ _ (λ x. None) _ c.members.ensures
    (ap (λ b. limit_by b c.args.survey.now.nearest.now.nearest) (sym (c.if-holds.ensures.0 refl)))
    (k (λ x. None) (tree_within c.args.survey.now.graph.now c.args.root (λ x. None) _ _ c.members.ensures c.in_ok-from_root.ensures.tree refl))) c.number_reached.ensures.column
