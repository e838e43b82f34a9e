use Rattle.device_info.specs.Json.{next_text}
use Rattle.device_info.proofs.Texts.{one_more}
use Rattle.device_info.proofs.json.push_rest.Goals as goal

pub loop-suspect-preserved : goal.loop-suspect-preserved
loop-suspect-preserved c = one_more next_text _ _ _ c.args.suspects.now c.loop-suspect.suspect-index _ c.loop-suspect-test.true c.loop-suspect.invariant c.in_ok-push_next.ensures
