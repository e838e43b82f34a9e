use Rattle.std.proofs.Common.{◌≡◌, ◌∙◌, map, subst, arith}
use Rattle.node_table.specs.Building.{IsBuiltFrom, IsWith, listed_member}
use Rattle.node_table.specs.RowLists.{rows_by}
use Rattle.node_table.proofs.Builds.OneRootMore.{built_of_more, rows_of}
use Rattle.node_table.proofs.building.add_roots.Goals as goal

pub loop-root-preserved : goal.loop-root-preserved
loop-root-preserved g c =
    let s = c.args.survey.now in
    let built = c.loop-root.invariant.0 in
    let p = c.loop-root.parts in
    let q = c.add_rows.new.parts in
    let ns = c.in_ok-numbered.numbered.items in
    let ks = c.root_members.new.workspace.members in
    let places = c.root_members.new.places in
    let rows = rows_of s.graph.now s.landmarks.now s.nearest.now.nearest s.generation p c.args.first c.loop-root.root ks places ns built c.in_ok-numbered.ensures.apart c.in_ok-numbered.ensures.inside c.in_ok-numbered.ensures.column in
    let added = subst (λ js. IsWith p c.loop-root.root (rows_by c.loop-root.root js places ns) (map listed_member ns) q) c.members.ensures c.in_ok-add_rows.ensures in (
      built_of_more s.graph.now s.landmarks.now s.nearest.now.nearest s.generation p q c.args.first c.loop-root.root ks places ns c.loop-root.auto.root built rows added,
      c.in_ok-numbered.ensures.workspace ∙ c.loop-root.invariant.1,
      c.root_members.auto.places ∙ c.loop-root.invariant.2,
    )

pub returns : goal.returns
returns g c =
    let e : c.loop-root.root ≡ c.args.last = omega (arith, c.loop-root-test.false, c.requires.range.order, c.loop-root.auto.root-end) in
    subst (IsBuiltFrom c.args.survey.now c.loop-root.parts c.args.first) e c.loop-root.invariant.0
