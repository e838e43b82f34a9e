use Rattle.std.proofs.Common.{Err, subst, sym, ◌∙◌}
use Rattle.checkpoint.specs.StoreWords.{state_of}
use Rattle.device_commands.specs.Answer.{state_by}
use Rattle.device_commands.specs.Edits.{IsSettledTo}
use Rattle.device_commands.specs.Openings.{IsQueueFault}
use Rattle.device_commands.proofs.OneRequest.{untouched}
use Rattle.device_commands.proofs.one_round.settled.Goals as goal

pub returns-in_default-clause-settled : goal.returns-in_default-clause-settled
returns-in_default-clause-settled g c = untouched c.args.store _ _ _ c.requires.up (λ same. absurd (cc))

pub returns-in-Err-clause-settled : goal.returns-in-Err-clause-settled
returns-in-Err-clause-settled g c =
    let same = c.into_store-in-Err.ensures ∙ (c.new-committer.ensures.store ∙ c.new.ensures.store) in
    subst (λ s. IsSettledTo (state_by (state_of c.args.store) c.args.request) c.args.request.change c.args.store s (Err c.in-Err.fault)) (sym same)
    (untouched c.args.store _ _ c.in-Err.fault c.requires.up (λ device. subst IsQueueFault device c.in-Err.ensures.fault))
