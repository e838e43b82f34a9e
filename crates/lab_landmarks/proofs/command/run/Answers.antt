use Rattle.std.proofs.Common.{rules}
use Rattle.layout_2.specs.Loading.{state_of}
use Rattle.lab_landmarks.proofs.command.run.Goals as goal

pub returns-in-Ok-print_choice-clause-printed : goal.returns-in-Ok-print_choice-clause-printed
returns-in-Ok-print_choice-clause-printed g c = λ zero. record {
  path = c.in-Some.path.now;
  disk = c.in-Ok.device;
  left = c.loaded_of-loaded.new.disk;
  named = search rules;
  was_opened = search rules;
  was_closed = search rules;
  holds = record {
    state = state_of c.in-Ok-loaded.loaded;
    wanted = c.in-Ok-Ok.wanted;
    chosen = c.in-Ok-print_choice.chosen;
    holds = search rules;
    asked = search rules;
    kept = c.tell.ensures.kept.0 zero;
    has = c.in-Ok-print_choice.ensures.chosen;
  };
}
