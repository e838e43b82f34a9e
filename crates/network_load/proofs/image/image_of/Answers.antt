use Rattle.std.proofs.Common.{◌≡◌, ◌++◌, ◌∙◌, ap, sym, subst, ℕ, List, length, arith}
use Rattle.std.specs.FinMap.{len}
use Rattle.disk_trait.specs.Disk.{overwritten}
use Rattle.graph_edits.specs.Edges.{Network}
use Rattle.layout_reader.specs.Heads.{head_text}
use Rattle.layout_2.specs.State.{state_with, tickets_text}
use Rattle.checkpoint.specs.Whole.{IsFreshWith}
use Rattle.network_load.proofs.Images.{fresh_stands, fresh_with, front_wide, room_for}
use Rattle.network_load.proofs.image.image_of.Goals as goal

pub with_bytes-requires : goal.with_bytes-requires
with_bytes-requires c =
    let g : Network = c.args.graph.now in
    let is : c.deref.result.now ≡ head_text 1 c.args.count c.args.nodes (len g.edges) ++ tickets_text c.args.tickets.now =
    c.deref.ensures.value ∙ c.in-Ok.ensures ∙ ap (λ n. head_text 1 c.args.count c.args.nodes n ++ tickets_text c.args.tickets.now) c.edges.ensures in
    let wide : length c.deref.result.now ≡ 534 = ap length is ∙ front_wide c.args.count (record { nodes = c.args.nodes; edges = g.edges }) c.args.tickets.now c.requires.tickets.wide in
    let room = room_for c.in_ok-bytes.bytes.items c.header_of.result c.deref.result.now c.in_ok-bytes.ensures.first.as_long (ap length c.header_of.ensures) wide in
    omega (arith, room, ap length c.with_bytes-headed.ensures)

pub returns-clause-fresh : goal.returns-clause-fresh
returns-clause-fresh c =
    let g : Network = c.args.graph.now in
    let larger : Network = record { nodes = c.args.nodes; edges = g.edges } in
    let is : c.deref.result.now ≡ head_text 1 c.args.count c.args.nodes (len g.edges) ++ tickets_text c.args.tickets.now =
    c.deref.ensures.value ∙ c.in-Ok.ensures ∙ ap (λ n. head_text 1 c.args.count c.args.nodes n ++ tickets_text c.args.tickets.now) c.edges.ensures in
    subst (λ (l : List ℕ). IsFreshWith (state_with c.args.count larger c.args.tickets.now) l) (sym (c.with_bytes.ensures ∙ ap (λ (l : List ℕ). overwritten l 4097 c.deref.result.now) c.with_bytes-headed.ensures))
    (fresh_with c.args.count c.args.nodes g c.args.tickets.now c.in_ok-bytes.bytes.items c.header_of.result c.deref.result.now c.in_ok-bytes.ensures c.requires.within c.requires.few c.requires.tickets c.header_of.ensures is)

pub returns-clause-stands : goal.returns-clause-stands
returns-clause-stands c =
    let larger : Network = record { nodes = c.args.nodes; edges = c.args.graph.now.edges } in
    fresh_stands (state_with c.args.count larger c.args.tickets.now) c.with_bytes.result.items c.requires.count (returns-clause-fresh c)
