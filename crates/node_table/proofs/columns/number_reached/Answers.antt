use Rattle.std.proofs.Common.{◌≡◌, ◌<◌, refl, sym, ◌∙◌, subst, arith, map, List, IsPermutation}
use Rattle.std.specs.List.{All, Contains}
use Rattle.distances.specs.Workspace.{reached_of}
use Rattle.route_tree.specs.Members.{AreMembers}
use Rattle.route_tree.specs.Growth.{IsEachOnce, first_or, subtrees}
use Rattle.route_tree.specs.Places.{HasPlaces}
use Rattle.route_tree.specs.Rose.{Tree}
use Rattle.route_tree.specs.declared.member.Member.{Member}
use Rattle.heavy_labels.specs.ByNode.{no_tree}
use Rattle.heavy_labels.specs.Numbered.{AreNumbersOf, seen}
use Rattle.heavy_labels.proofs.NumbersOf.{numbered_nodes}
use Rattle.heavy_labels.specs.declared.numbered_member.NumberedMember.{NumberedMember}
use Rattle.node_table.specs.Columns.{member_of}
use Rattle.node_table.specs.RowLists.{nodes_linked, nodes_numbered, rows_by}
use Rattle.node_table.proofs.Builds.RowSteps.{has_places, members_are, members_have, members_reached, nodes_are, reached_length, rows_list}
use Rattle.node_table.proofs.Builds.RowColumns.{are_members, few_members, nodes_inside, key_columns, numbers_inside, numbers_reached, column_of}
use Rattle.node_table.proofs.columns.number_reached.Goals as goal

pub numbered-requires-clause-members : goal.numbered-requires-clause-members
numbered-requires-clause-members g c =
    subst AreMembers (sym (c.deref.ensures.value ∙ c.in_ok-members.ensures ∙ members_are c.args.graph.now c.args.reached.now c.requires.ports)) (are_members c.args.graph.now c.nodes-sound.ensures.sound c.args.root c.requires.inside (reached_of c.args.reached.now) c.requires.tree)

pub note_places-requires-clause-few : goal.note_places-requires-clause-few
note_places-requires-clause-few g c = (let n = reached_length c.args.reached.now in let f = few_members c.args.graph.now c.nodes-sound.ensures.sound c.args.root c.requires.inside (reached_of c.args.reached.now) c.requires.tree in omega (arith, n, f))

pub note_places-requires-clause-nodes : goal.note_places-requires-clause-nodes
note_places-requires-clause-nodes g c =
    subst (λ n. All (λ x. x < n) (nodes_linked c.args.reached.now)) (sym c.requires.places)
    (subst (All (λ x. x < c.args.graph.now.nodes)) (sym (nodes_are c.args.reached.now)) (nodes_inside c.args.graph.now c.nodes-sound.ensures.sound c.args.root c.requires.inside (reached_of c.args.reached.now) c.requires.tree))

pub numbered-requires-clause-places : goal.numbered-requires-clause-places
numbered-requires-clause-places g c =
    subst (λ ms. HasPlaces ms c.note_places.new.places) (sym (c.deref.ensures.value ∙ c.in_ok-members.ensures))
    (has_places c.args.reached.now c.note_places.new.places c.note_places.ensures.places
    (subst (λ n. All (λ x. x < n) (nodes_linked c.args.reached.now)) (sym (c.note_places.ensures.length ∙ c.requires.places))
    (subst (All (λ x. x < c.args.graph.now.nodes)) (sym (nodes_are c.args.reached.now)) (nodes_inside c.args.graph.now c.nodes-sound.ensures.sound c.args.root c.requires.inside (reached_of c.args.reached.now) c.requires.tree)))
    (subst IsEachOnce (sym (members_are c.args.graph.now c.args.reached.now c.requires.ports)) (are_members c.args.graph.now c.nodes-sound.ensures.sound c.args.root c.requires.inside (reached_of c.args.reached.now) c.requires.tree).once))

-- the nodes that are numbered are the members'
same_nodes : (ms all : List Member) (ns : List NumberedMember) → all ≡ ms → AreMembers ms → ((d : Tree) → AreNumbersOf (first_or d (subtrees all)) (map seen ns))
    → IsPermutation (map (λ a. a.node) ms) (map (λ n. n.node) ns)
same_nodes ms all ns e a h = numbered_nodes ms no_tree ns a (subst (λ z. AreNumbersOf (first_or no_tree (subtrees z)) (map seen ns)) e (h no_tree))

pub returns-clause-apart : goal.returns-clause-apart
returns-clause-apart g c =
    key_columns c.args.graph.now c.nodes-sound.ensures.sound c.args.root c.requires.inside (reached_of c.args.reached.now) c.requires.tree c.in_ok-numbered.numbered.items
    (same_nodes (map (λ k. member_of c.args.graph.now k) (reached_of c.args.reached.now)) c.deref.result.now c.in_ok-numbered.numbered.items
    (c.deref.ensures.value ∙ c.in_ok-members.ensures ∙ members_are c.args.graph.now c.args.reached.now c.requires.ports)
    (are_members c.args.graph.now c.nodes-sound.ensures.sound c.args.root c.requires.inside (reached_of c.args.reached.now) c.requires.tree) c.in_ok-numbered.ensures)

pub returns-clause-inside : goal.returns-clause-inside
returns-clause-inside g c =
    members_have (λ x. x < c.args.graph.now.nodes) c.in_ok-numbered.numbered.items
    (numbers_inside c.args.graph.now c.nodes-sound.ensures.sound c.args.root c.requires.inside (reached_of c.args.reached.now) c.requires.tree c.in_ok-numbered.numbered.items
    (same_nodes (map (λ k. member_of c.args.graph.now k) (reached_of c.args.reached.now)) c.deref.result.now c.in_ok-numbered.numbered.items
    (c.deref.ensures.value ∙ c.in_ok-members.ensures ∙ members_are c.args.graph.now c.args.reached.now c.requires.ports)
    (are_members c.args.graph.now c.nodes-sound.ensures.sound c.args.root c.requires.inside (reached_of c.args.reached.now) c.requires.tree) c.in_ok-numbered.ensures))

pub returns-clause-reached : goal.returns-clause-reached
returns-clause-reached g c =
    let nodes = same_nodes (map (λ k. member_of c.args.graph.now k) (reached_of c.args.reached.now)) c.deref.result.now c.in_ok-numbered.numbered.items
    (c.deref.ensures.value ∙ c.in_ok-members.ensures ∙ members_are c.args.graph.now c.args.reached.now c.requires.ports)
    (are_members c.args.graph.now c.nodes-sound.ensures.sound c.args.root c.requires.inside (reached_of c.args.reached.now) c.requires.tree) c.in_ok-numbered.ensures in
    record {
      places = subst (λ n. All (λ (a : NumberedMember). a.node < n) c.in_ok-numbered.numbered.items) (sym (c.note_places.ensures.length ∙ c.requires.places))
          (members_have (λ x. x < c.args.graph.now.nodes) c.in_ok-numbered.numbered.items
          (numbers_inside c.args.graph.now c.nodes-sound.ensures.sound c.args.root c.requires.inside (reached_of c.args.reached.now) c.requires.tree c.in_ok-numbered.numbered.items nodes));
      reached = members_reached c.args.reached.now c.note_places.new.places c.in_ok-numbered.numbered.items c.note_places.ensures.places
          (subst (λ xs. All (λ x. Contains xs x) (nodes_numbered c.in_ok-numbered.numbered.items)) (sym (nodes_are c.args.reached.now))
          (numbers_reached c.args.graph.now c.nodes-sound.ensures.sound c.args.root c.requires.inside (reached_of c.args.reached.now) c.requires.tree c.in_ok-numbered.numbered.items nodes));
    }

pub returns-clause-column : goal.returns-clause-column
returns-clause-column g c limit tree =
    let ms = map (λ k. member_of c.args.graph.now k) (reached_of c.args.reached.now) in
    let all_is : c.deref.result.now ≡ ms = c.deref.ensures.value ∙ c.in_ok-members.ensures ∙ members_are c.args.graph.now c.args.reached.now c.requires.ports in
    let nodes = same_nodes ms c.deref.result.now c.in_ok-numbered.numbered.items all_is
    (are_members c.args.graph.now c.nodes-sound.ensures.sound c.args.root c.requires.inside (reached_of c.args.reached.now) c.requires.tree) c.in_ok-numbered.ensures in
    column_of c.args.graph.now c.nodes-sound.ensures.sound c.args.root c.requires.inside limit (reached_of c.args.reached.now) tree.0 tree.1
    c.deref.result.now all_is c.in_ok-numbered.numbered.items c.in_ok-numbered.numbered.items refl (λ d. (c.in_ok-numbered.ensures d).each)
    (subst (λ z. IsPermutation (map (λ (a : Member). a.node) z) (map (λ (n : NumberedMember). n.node) c.in_ok-numbered.numbered.items)) (sym all_is) nodes)
    (rows_by c.args.root c.args.reached.now c.note_places.new.places c.in_ok-numbered.numbered.items)
    (rows_list c.args.root c.args.reached.now c.note_places.new.places c.in_ok-numbered.numbered.items c.note_places.ensures.places
    (subst (λ xs. All (λ x. Contains xs x) (nodes_numbered c.in_ok-numbered.numbered.items)) (sym (nodes_are c.args.reached.now))
    (numbers_reached c.args.graph.now c.nodes-sound.ensures.sound c.args.root c.requires.inside (reached_of c.args.reached.now) c.requires.tree c.in_ok-numbered.numbered.items nodes)))
