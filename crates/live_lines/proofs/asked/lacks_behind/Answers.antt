use Rattle.value_syntax.specs.Reading.{texts_of}
use Rattle.live_lines.proofs.Asking.{ops_lack_none}
use Rattle.live_lines.proofs.asked.lacks_behind.Goals as goal

pub returns-then-branch : goal.returns-then-branch
returns-then-branch c = ops_lack_none (texts_of c.args.words.now) (texts_of c.args.ops.now) c.args.ticket c.in_ok-are_ops.field-0 c.requires.parts c.in_ok-are_ops.ensures c.if-branch.true
