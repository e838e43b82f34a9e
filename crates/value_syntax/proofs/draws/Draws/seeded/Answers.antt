use Rattle.value_syntax.specs.Words.{first_state}
use Rattle.value_syntax.proofs.draws.Draws.seeded.Goals as goal

pub returns : goal.returns
unfolding first_state
returns c = c.seed_from_u64.ensures
