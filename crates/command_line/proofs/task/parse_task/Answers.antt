use Rattle.std.proofs.Common.{sym, ◌∙◌}
use Rattle.clap.specs.Simple.{app_of}
use Rattle.clap.specs.Walk.{rows_of, texts}
use Rattle.clap.specs.Words.{found_of}
use Rattle.command_line.specs.declared.refused.WordsRefused.TheVariants.{Usage}
use Rattle.command_line.proofs.Asking.{by_grammar, found_is, not_taken, not_there, refuses, taken, understands}
use Rattle.command_line.proofs.task.parse_task.Goals as goal

pub returns-in-Err : goal.returns-in-Err
returns-in-Err c =
    let words = texts c.args.words.now in
    refuses words c.refused_for.result (by_grammar words c.refused_for.result c.refused_for.ensures.refusals
    (λ faultless. c.refused_for.ensures.memory (not_taken (app_of c.in_ok-grammar.field-0) words c.in-Err.error c.in_ok-grammar.ensures.app c.in-Err.ensures.kinds faultless)))

pub returns-in-Some : goal.returns-in-Some
returns-in-Some c =
    let words = texts c.args.words.now in
    let name = c.in-Some.name.now in
    let rows = rows_of (found_of c.in-Some.found.now) in
    let met = taken (app_of c.in_ok-grammar.field-0) words c.in-Ok.matches c.in_ok-grammar.ensures.app c.in-Ok.ensures.kinds c.in-Ok.ensures.matches in
    understands words name rows c.task_of.result (met.0, sym met.1 ∙ found_is c.in-Ok.matches name rows c.in-Some.ensures.name c.in-Some.ensures.rows) c.task_of.ensures

pub returns : goal.returns
returns c =
    let words = texts c.args.words.now in
    let met = taken (app_of c.in_ok-grammar.field-0) words c.in-Ok.matches c.in_ok-grammar.ensures.app c.in-Ok.ensures.kinds c.in-Ok.ensures.matches in
    refuses words Usage (λ name rows is task shape. not_there c.in-Ok.matches c.subcommand.result (name, rows) c.in-None.is c.subcommand.ensures.variant (met.1 ∙ is.1))
