use Rattle.std.proofs.Common.{◌<◌, length, rules}
use Rattle.input_lines.proofs.ReadLemmas.{last_next}
use Rattle.input_lines.proofs.line.last_line.Goals as goal

pub returns-else-is_empty : goal.returns-else-is_empty
returns-else-is_empty c =
    let some : 0 < length c.args.line.now = search rules in
    last_next c.args.line.now some c.requires.bounded c.requires.unfed
