use Rattle.device_info.specs.Json.{other_text}
use Rattle.device_info.proofs.Texts.{one_more}
use Rattle.device_info.proofs.json.push_others.Goals as goal

pub loop-one-preserved : goal.loop-one-preserved
loop-one-preserved c = one_more other_text _ _ _ c.args.held.now c.loop-one.one-index _ c.loop-one-test.true c.loop-one.invariant c.in_ok-push_other.ensures
