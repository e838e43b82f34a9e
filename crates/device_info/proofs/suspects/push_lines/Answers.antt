use Rattle.device_info.specs.Present.{suspect_line}
use Rattle.device_info.proofs.Texts.{one_more}
use Rattle.device_info.proofs.suspects.push_lines.Goals as goal

pub loop-suspect-preserved : goal.loop-suspect-preserved
loop-suspect-preserved c = one_more suspect_line _ _ _ c.args.suspects.now c.loop-suspect.suspect-index _ c.loop-suspect-test.true c.loop-suspect.invariant c.in_ok-push_line.ensures
