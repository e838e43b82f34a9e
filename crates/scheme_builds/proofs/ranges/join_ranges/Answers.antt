use Rattle.std.proofs.Common.{◌≡◌, ◌<◌, ◌+◌, length, subst, arith}
use Rattle.scheme_builds.specs.Ranges.{AreRanges, IsBuilt, bound_at}
use Rattle.scheme_builds.proofs.RangeLemmas.{first_range, other_ranges, made_range, bounds_rise, one_fewer}
use Rattle.scheme_builds.proofs.ranges.join_ranges.Goals as goal

pub loop-k-preserved : goal.loop-k-preserved
loop-k-preserved c =
    let task = c.args.task.now in
    let size = c.args.size in
    let i = c.args.begun + c.loop-k._k in
    let some : 0 < length c.loop-k.made.items = omega (arith, c.loop-k.invariant.left, c.loop-k-test.true) in
    let rest = c.remove.ensures.by_index.2 in
    let here = first_range task size i c.loop-k.made.items c.remove.result c.loop-k.invariant.ranges some c.remove.ensures.value in
    let next : i + 1 ≡ c.args.begun + (c.loop-k._k + 1) = omega arith in
    record {
      left = (let fewer = one_fewer c.loop-k.made.items c.remove.new.self.items some rest in omega (arith, fewer, c.loop-k.invariant.left));
      ranges = subst (λ j. AreRanges task size j c.remove.new.self.items) next
          (other_ranges task size i c.loop-k.made.items c.remove.new.self.items c.loop-k.invariant.ranges some rest);
      joined = subst (λ j. IsBuilt task c.in_ok-whole.whole 0 (bound_at task.survey.graph.now size j)) next
          (c.in_ok-whole.ensures.ranges task.survey.graph.now task.survey.landmarks.now task.survey.nearest.now.nearest task.survey.generation 0 (bound_at task.survey.graph.now size i) (bound_at task.survey.graph.now size (i + 1)) (omega arith) (bounds_rise task size i) c.loop-k.invariant.joined
          (made_range task size i c.remove.result c.in_ok-next.next c.in_ok-next.was here));
    }
