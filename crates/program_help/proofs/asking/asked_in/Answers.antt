use Rattle.std.proofs.Common.{rules}
use Rattle.program_help.proofs.Asks.{help_of}
use Rattle.program_help.proofs.asking.asked_in.Goals as goal

pub returns-in-len2 : goal.returns-in-len2
returns-in-len2 c = help_of c.args.words.now _ (search (rules, c.in-len2)) (search (rules, c.in-len2)) (search rules)
