use Rattle.std.proofs.Common.{◌≡◌, ◌+◌, ◌*◌, ◌<◌, ◌≤◌, ◌∙◌, length, ap, subst, arith}
use Rattle.std.proofs.lemmas.Grind.{div_ceil_times}
use Rattle.std.specs.Int.{div_ceil}
use Rattle.scheme_builds.specs.Ranges.{bound_at, IsBuilt}
use Rattle.scheme_builds.proofs.RangeLemmas.{each_range, last_bound}
use Rattle.scheme_builds.proofs.ranges.build_ranges.Goals as goal

pub join_ranges-requires-clause-ranges : goal.join_ranges-requires-clause-ranges
join_ranges-requires-clause-ranges g c =
    let items = c.in_ok-made.made.items in
    each_range c.args.task.now c.range_size-roots.result items c.loop-begun.begun
    (λ k d l. (c.in_ok-made.ensures.each k d (omega (arith, l, c.in_ok-made.ensures.len))).1.met)

pub loop-begun-preserved : goal.loop-begun-preserved
loop-begun-preserved g c =
    let task = c.args.task.now in
    let roots = c.range_size-roots.result in
    let all : length c.in_ok-made.made.items ≡ c.min-many.result = omega (arith, c.in_ok-made.ensures.len) in
    record {
      within = omega (arith, c.loop-begun-test.true, c.min-many.ensures);
      joined = subst (λ k. IsBuilt task c.in_ok-whole-2.whole 0 (bound_at task.survey.graph.now roots (c.loop-begun.begun + k))) all c.in_ok-whole-2.ensures;
    }

pub returns : goal.returns
returns g c =
    let task = c.args.task.now in
    let roots = c.range_size-roots.result in
    let count = c.div_ceil-count.result in
    let some : 0 < roots = c.range_size-roots.ensures in
    let bound : c.nodes-2.result ≤ div_ceil c.nodes-2.result roots * roots = (div_ceil_times c.nodes-2.result roots some).0 in
    let same : count * roots ≡ div_ceil c.nodes-2.result roots * roots = ap (λ k. k * roots) c.div_ceil-count.ensures in
    let all : task.survey.graph.now.nodes ≤ count * roots = omega (arith, bound, same, c.nodes-2.ensures.nodes) in
    let end : c.loop-begun.begun ≡ count = omega (arith, c.loop-begun.invariant.within, c.loop-begun-test.false) in
    subst (IsBuilt task c.loop-begun.whole 0) (ap (bound_at task.survey.graph.now roots) end ∙ last_bound task roots count all) c.loop-begun.invariant.joined
