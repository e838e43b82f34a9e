use Rattle.std.proofs.Common.{◌∙◌}
use Rattle.checkpoint.proofs.FormatLemmas.{headed}
use Rattle.checkpoint.proofs.formatting.first_checkpoint.Goals as goal

pub returns : goal.returns
returns c = headed c.args.nodes c.copy_from_slice.new.self (c.copy_from_slice.ensures.after ∙ c.first_head.ensures)
