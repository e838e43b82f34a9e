use Rattle.std.proofs.Common.{sym, subst, arith, ◌<◌}
use Rattle.single_route.specs.Answers.{IsAnswer, Routes}
use Rattle.single_route.proofs.AnswerLemmas.{trail_answers, unreachable_answers, memory_answers}
use Rattle.single_route.proofs.routes.Routes.route.Goals as goal
use Rattle.single_route.proofs.routes.Routes.route.Goals.{in-Ok-Some, in-Ok-None, in-Err}

pub returns-clause-answer : goal.returns-clause-answer
returns-clause-answer c =
    let m = c.self.inside.graph.now in
    let flags = c.self.inside.landmarks.now in
    let i : c.args.from < m.nodes = omega (arith, c.nodes-nodes.ensures.nodes, c.if-from-nodes.false) in
    let j : c.args.to < m.nodes = omega (arith, c.nodes-nodes.ensures.nodes, c.if-to-nodes.false) in
    let there : IsAnswer m flags c.args.from c.args.to c.match-found.result = elim c.match-found.branch [
      | in-Ok-Some w ↦ subst (IsAnswer m flags c.args.from c.args.to) (sym w.result-is)
          (trail_answers m flags c.args.from c.args.to i j c.nodes-nodes.ensures.sound w.in-Ok-Some.trail (rw w.in-Ok-Some.field-0-is at w.in-Ok-Some.ensures.trail))
      | in-Ok-None w ↦ subst (IsAnswer m flags c.args.from c.args.to) (sym w.result-is)
          (unreachable_answers m flags c.args.from c.args.to i j (rw w.in-Ok-None.field-0-is at w.in-Ok-None.ensures.trail))
      | in-Err w ↦ subst (IsAnswer m flags c.args.from c.args.to) (sym w.result-is) (memory_answers m flags c.args.from c.args.to i j)
    ] in
    subst (λ (r : Routes). IsAnswer r.graph r.flags c.args.from c.args.to c.match-found.result) c.self.view_is there
