use Rattle.std.proofs.Common.{rules, sym, subst}
use Rattle.event_model.specs.declared.event.Event.{Event}
use Rattle.interleave.specs.Events.{WorldAnswers}
use Rattle.interleave.proofs.world.World.step.Goals as goal

pub returns-in-Launch-clause-step : goal.returns-in-Launch-clause-step
returns-in-Launch-clause-step g c = record {
  ran = search rules;
  still = search rules;
  commits = search rules;
  answers = subst (λ (e : Event). WorldAnswers e c.args.self.now c.launch.result c.launch.new.self) (sym c.in-Launch.is) c.launch.ensures.answers;
}
