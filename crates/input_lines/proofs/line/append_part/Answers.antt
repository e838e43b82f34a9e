use Rattle.std.proofs.Common.{◌<◌, ◌+◌, length, true, false, refl, ap, arith, rules}
use Rattle.std.proofs.lemmas.Bool.{lt-ltb, le-ltb}
use Rattle.input_lines.specs.Lines.{first_line, longest_line}
use Rattle.input_lines.proofs.ReadLemmas.{part_read, too_long}
use Rattle.input_lines.proofs.line.append_part.Goals as goal

pub returns-then-part-len-clause-ok : goal.returns-then-part-len-clause-ok
returns-then-part-len-clause-ok g c =
    let shown = c.in-Ok.shown.now in
    let is = ap (λ l. length l) c.first_line-part.ensures in
    let long : longest_line < length c.args.line.now.items + length (first_line shown) = omega (arith, is, c.if-part-len.true, c.len.ensures, c.requires.bounded) in
    (refl, c.fill_buf.follows.holds-at-none.0, too_long _ c.args.line.now.items shown c.in-Ok.ensures.front long)

pub returns-then-fed-clause-ok : goal.returns-then-fed-clause-ok
returns-then-fed-clause-ok g c =
    let line = c.first_line-part in
    let read = part_read _ _ _ _ _ c.in-Ok.shown line.result.now true line.ensures (lt-ltb _ _ c.if-fed.true) c.in-Ok.is c.fill_buf.follows.holds-at-none c.in-Ok.ensures.front c.in-Ok.ensures.end c.consume.ensures.bytes in
    record { part = line.result.now; grown = search rules; unfed = read.0; read = read.1 }

pub returns-else-fed-clause-ok : goal.returns-else-fed-clause-ok
returns-else-fed-clause-ok g c =
    let line = c.first_line-part in
    let read = part_read _ _ _ _ _ c.in-Ok.shown line.result.now false line.ensures (le-ltb _ _ c.if-fed.false) c.in-Ok.is c.fill_buf.follows.holds-at-none c.in-Ok.ensures.front c.in-Ok.ensures.end c.consume.ensures.bytes in
    record { part = line.result.now; grown = search rules; unfed = read.0; read = read.1 }
