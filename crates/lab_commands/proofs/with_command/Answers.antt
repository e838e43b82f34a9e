use Rattle.std.proofs.Common.{ap, ap₂, ◌||◌, ◌∙◌}
use Rattle.std.proofs.lemmas.Result.{IfOk-weaker}
use Rattle.clap.specs.Simple.{App, Shape, with_subcommand}
use Rattle.lab_parts.specs.Grammar.{IsCommandOf}
use Rattle.lab_commands.proofs.with_command.Goals as goal

pub returns : goal.returns
returns c app added is below =
    let top : App → Shape = λ (a : App). a.top in
    let sub : IsCommandOf c.in_ok-below.field-0 added = rw c.in_ok-below.was at below in
    IfOk-weaker c.subcommand.result _ _
    (λ whole more. record {
      app = more.shape sub.local ∙ ap₂ with_subcommand is.app (ap top sub.app);
      local = more.globals ∙ ap₂ ◌||◌ is.local sub.local;
    }) c.subcommand.ensures
