use Rattle.std.proofs.Common.{◌≡◌, ◌∙◌, ◌+◌, ◌/◌, List, Ok, ap, sym, subst, length, rules, arith}
use Rattle.std.specs.Prelude.{unwrap_or}
use Rattle.std.proofs.lemmas.Option.{slice_get_within}
use Rattle.layout_2.specs.State.{AreTickets}
use Rattle.network_load.specs.declared.list.Edge.{Edge}
use Rattle.network_load.specs.Lists.{list_says}
use Rattle.network_load.specs.Loads.{last_for, nodes_in}
use Rattle.network_load.specs.Networks.{HoldsJust, IsNoNetwork, IsRefusedAt}
use Rattle.network_load.proofs.Beginnings.{first_are, load_is, no_nodes}
use Rattle.network_load.proofs.loading.load_list.Goals as goal

pub returns-then-nodes-lt1-clause-refused : goal.returns-then-nodes-lt1-clause-refused
returns-then-nodes-lt1-clause-refused c =
    let found = rw c.in-Ok.is at c.in_ok-edges.ensures.found in
    let says : list_says (last_for c.args.nodes) c.args.text.now ≡ Ok c.in-Ok.edges.items = subst (λ n. list_says n c.args.text.now ≡ Ok c.in-Ok.edges.items) c.last_of.ensures found in
    no_nodes c.args.text.now c.args.nodes c.in-Ok.edges.items c.unwrap_or-nodes.result says c.requires (c.unwrap_or-nodes.ensures ∙ ap (unwrap_or c.args.nodes) (c.nodes_of.ensures.nodes ∙ ap nodes_in c.deref.ensures.value)) c.if-nodes-lt1.true

pub told_edge-requires : goal.told_edge-requires
told_edge-requires c =
    let refused : IsRefusedAt c.unwrap_or-nodes.result c.deref-2.result.now c.in-Err-Edge.place c.in-Err-Edge.code = subst (IsNoNetwork c.unwrap_or-nodes.result c.deref-2.result.now) c.in-Err-Edge.field-0-is c.in-Err-Edge.ensures.refused in
    let within = slice_get_within c.deref-2.result.now c.in-Err-Edge.place refused.edge refused.there in
    omega (arith, c.in-Err-Edge.place-is, within, ap length c.deref-2.ensures.value, ap length c.deref-in-Err-Edge.ensures.value)

pub image_of-requires-clause-tickets : goal.image_of-requires-clause-tickets
image_of-requires-clause-tickets c =
    subst AreTickets (sym c.first_tickets-tickets.ensures) (first_are c.changes_for-count.result (omega (arith, c.changes_for-count.ensures, c.len.type_inv)))

pub returns-in-Ok-image_of-clause-made : goal.returns-in-Ok-image_of-clause-made
returns-in-Ok-image_of-clause-made c =
    let found = rw c.in-Ok.is at c.in_ok-edges.ensures.found in
    let says : list_says (last_for c.args.nodes) c.args.text.now ≡ Ok c.in-Ok.edges.items = subst (λ n. list_says n c.args.text.now ≡ Ok c.in-Ok.edges.items) c.last_of.ensures found in
    let same : c.deref-2.result.now ≡ c.in-Ok.edges.items = c.deref-2.ensures.value in
    let holds : HoldsJust c.unwrap_or-nodes.result c.in-Ok.edges.items c.in-Ok-network_of.graph = subst (λ (l : List Edge). HoldsJust c.unwrap_or-nodes.result l c.in-Ok-network_of.graph) same c.in-Ok-network_of.ensures.made in
    let len : c.len.result ≡ length c.in-Ok.edges.items = search rules in
    let len_2 : c.len-in-Ok-image_of.result ≡ length c.in-Ok.edges.items = search rules in
    load_is c.args.text.now c.args.nodes c.in-Ok.edges.items (record { bytes = c.in-Ok-image_of.bytes; count = c.changes_for-count.result; edges = c.len-in-Ok-image_of.result; nodes = c.unwrap_or-nodes.result }) c.in-Ok-network_of.graph c.first_tickets-tickets.result
    says (c.unwrap_or-nodes.ensures ∙ ap (unwrap_or c.args.nodes) (c.nodes_of.ensures.nodes ∙ ap nodes_in c.deref.ensures.value)) holds
    (c.changes_for-count.ensures ∙ ap (λ n. (n + 15) / 16) len) len_2 c.first_tickets-tickets.ensures c.in-Ok-image_of.ensures.stands
