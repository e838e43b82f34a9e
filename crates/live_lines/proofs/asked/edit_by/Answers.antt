use Rattle.std.proofs.Common.{rules, IsTrue, arith}
use Rattle.value_syntax.specs.Reading.{texts_of}
use Rattle.live_lines.proofs.Asking.{no_change}
use Rattle.live_lines.proofs.asked.edit_by.Goals as goal

pub returns : goal.returns
returns c =
    let denied : IsTrue c.in_ok-lacks_ops.field-0 → ⊥ = search rules in
    no_change c.args.editors (texts_of c.args.words.now) (texts_of c.args.rest.now) c.args.session c.in_ok-lacks_ops.field-0 (omega (arith, c.ranges.session.fits)) c.requires.parts c.requires.editor
    (λ ticket change named ops written. c.in_default.not-Some (ticket, change) (c.in_ok-ticket.ensures.only ticket change named ops written))
    c.in_ok-lacks_ops.ensures denied
