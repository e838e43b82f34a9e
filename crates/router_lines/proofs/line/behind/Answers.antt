use Rattle.std.proofs.Common.{rules}
use Rattle.router_lines.proofs.Fronts.{front_of_other}
use Rattle.router_lines.proofs.line.behind.Goals as goal

pub returns-else-eq : goal.returns-else-eq
returns-else-eq c = front_of_other c.args.line.now c.args.word.now (λ same. search rules)
