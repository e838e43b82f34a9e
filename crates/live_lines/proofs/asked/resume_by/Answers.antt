use Rattle.std.proofs.Common.{arith}
use Rattle.value_syntax.specs.Reading.{texts_of}
use Rattle.live_lines.proofs.Asking.{resume_alone}
use Rattle.live_lines.proofs.asked.resume_by.Goals as goal

pub returns : goal.returns
returns c =
    resume_alone c.args.editors (texts_of c.args.words.now) (texts_of c.args.rest.now) c.args.session c.alone.result (omega (arith, c.ranges.session.fits)) c.requires.parts c.requires.editor c.alone.ensures.empty
    c.alone.ensures.others
