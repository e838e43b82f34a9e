use Rattle.std.proofs.Common.{ap, ap₂, ◌||◌, ◌∙◌}
use Rattle.std.proofs.lemmas.Result.{IfOk-weaker}
use Rattle.clap.specs.Simple.{App, Shape, with_subcommand}
use Rattle.command_line.proofs.grammar.with.Goals as goal

pub returns : goal.returns
returns c app is =
    let top : App → Shape = λ (a : App). a.top in
    let sub = c.in_ok-command.ensures in
    IfOk-weaker c.subcommand.result _ _
    (λ whole added. record {
      app = added.shape sub.local ∙ ap₂ with_subcommand is.app (ap top sub.app);
      local = added.globals ∙ ap₂ ◌||◌ is.local sub.local;
    }) c.subcommand.ensures
