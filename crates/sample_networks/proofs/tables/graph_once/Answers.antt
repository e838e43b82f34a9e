use Rattle.std.proofs.Common.{◌∙◌, ap, sym, ◌+◌, ◌<◌, ◌≤◌, ℕ, length, map}
use Rattle.std.proofs.lemmas.List.{get_or_default}
use Rattle.std.specs.FinMap.{len, len-empty}
use Rattle.graph_edits.specs.Changes.{edges_after}
use Rattle.graph_edits.specs.Edges.{Network, pair_cmp}
use Rattle.sample_networks.specs.Tables.{IsTableRefused, added}
use Rattle.sample_networks.proofs.TableLemmas.{all_taken, handed_on, row_taken, still_refused}
use Rattle.sample_networks.proofs.tables.graph_once.Goals as goal

pub loop-place-init : goal.loop-place-init
loop-place-init c =
    let bare = c.in_ok-graph.ensures in
    record {
      nodes = ap (λ (g : Network). g.nodes) bare;
      count = ap (λ (g : Network). len g.edges) bare ∙ len-empty pair_cmp ℕ;
      rest = sym (ap (λ (g : Network). edges_after c.args.nodes g.edges 0 (map added c.args.edges.now)) bare);
    }

pub loop-place-preserved : goal.loop-place-preserved
loop-place-preserved c =
    let i : ℕ = c.loop-place.place in
    let lt : i < length c.args.edges.now = c.loop-place-test.true in
    let g : Network = c.loop-place.graph in
    let more = row_taken c.args.nodes g c.add_row.new.graph c.args.edges.now i _ lt (get_or_default c.args.edges.now i _ _ lt) c.loop-place.invariant.nodes c.in_ok-add_row.ensures.ok in
    record { nodes = more.0; count = more.1 ∙ ap (λ (k : ℕ). k + 1) c.loop-place.invariant.count; rest = c.loop-place.invariant.rest ∙ more.2 }

pub returns-in_err-add_row-clause-refused : goal.returns-in_err-add_row-clause-refused
returns-in_err-add_row-clause-refused c =
    let i : ℕ = c.loop-place.place in
    let lt : i < length c.args.edges.now = c.loop-place-test.true in
    handed_on c.from_residual-in_err-add_row.result (λ refused. IsTableRefused c.args.nodes c.args.edges.now refused) c.in_err-add_row.field-0.0 c.from_residual-in_err-add_row.ensures.1
    (still_refused c.args.nodes c.loop-place.graph c.args.edges.now i _ c.in_err-add_row.field-0.0 lt (get_or_default c.args.edges.now i _ _ lt) c.loop-place.invariant.nodes c.loop-place.invariant.rest c.in_err-add_row.ensures.refused)

pub returns-clause-ok : goal.returns-clause-ok
returns-clause-ok c =
    let end : length c.args.edges.now ≤ c.loop-place.place = c.loop-place-test.false in
    all_taken c.args.nodes c.loop-place.graph c.args.edges.now c.loop-place.place end c.loop-place.invariant.nodes c.loop-place.invariant.rest
