use Rattle.std.proofs.Common.{rules, codes, Some, ◌≡◌}
use Rattle.clap.specs.Walk.{all_of, texts}
use Rattle.command_line.specs.Readings.{rows_in}
use Rattle.command_line.proofs.Commands.{ops_refused}
use Rattle.command_line.proofs.arguments.Arguments.change.Goals as goal

pub returns-in_err-ops : goal.returns-in_err-ops
returns-in_err-ops c =
    let here : all_of (codes "ops") (rows_in c.args.self.now) ≡ Some (texts c.in-Some.texts.now) = search rules in
    ops_refused _ (rows_in c.args.self.now) c.from_residual.result (texts c.in-Some.texts.now) c.in_err-ops.field-0.0 c.from_residual.ensures.1 here c.in_err-ops.ensures.cause
