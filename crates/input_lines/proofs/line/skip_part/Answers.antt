use Rattle.std.proofs.Common.{refl}
use Rattle.input_lines.proofs.ReadLemmas.{part_read, shown_skips}
use Rattle.input_lines.proofs.line.skip_part.Goals as goal

pub returns-clause-ok : goal.returns-clause-ok
returns-clause-ok g c =
    let line = c.first_line-part in
    shown_skips _ _ line.result.now _ (part_read _ _ _ _ _ c.in-Ok.shown line.result.now _ line.ensures refl c.in-Ok.is c.fill_buf.follows.holds-at-none c.in-Ok.ensures.front c.in-Ok.ensures.end c.consume.ensures.bytes)
