use Rattle.std.proofs.Common.{ap, true, Bool, ◌∙◌}
use Rattle.clap.specs.Simple.{Shape, app_of_fields, on_top}
use Rattle.clap.specs.declared.builder.command.Command.{Command}
use Rattle.clap.specs.declared.builder.command.Command.TheOpen.{Command-F}
use Rattle.crash_trials.specs.Words.{rehearse_app}
use Rattle.device_info.specs.Commands.{info_app, journal_app}
use Rattle.lab_landmarks.specs.Words.{landmarks_app}
use Rattle.lab_parts.specs.Grammar.{IsCommandOf}
use Rattle.lab_commands.specs.Grammar.{bare_app, program}
use Rattle.network_load.specs.Commands.{grow_app, load_app}
use Rattle.lab_commands.proofs.grammar.Goals as goal

pub returns : goal.returns
unfolding program
returns c =
    let globals : Command-F Command → Bool = λ (f : Command-F Command). f.has_globals in
    let named = ap app_of_fields c.about.ensures ∙ c.new.ensures.app in
    let nameless = ap app_of_fields c.no_binary_name.ensures ∙ ap (on_top (λ (s : Shape). record s { no_binary_name = true })) named in
    let bare : IsCommandOf c.subcommand_required-whole.result bare_app = record {
      app = ap app_of_fields c.subcommand_required-whole.ensures ∙ ap (on_top (λ (s : Shape). record s { subcommand_required = true })) nameless;
      local = ap globals c.subcommand_required-whole.ensures ∙ ap globals c.no_binary_name.ensures ∙ ap globals c.about.ensures ∙ c.new.ensures.local;
    } in
    let loaded = c.in_ok-whole.ensures _ load_app bare c.grammar.ensures in
    let grown = c.in_ok-whole-2.ensures _ grow_app loaded c.grammar-2.ensures in
    let told = c.in_ok-whole-3.ensures _ info_app grown c.grammar-3.ensures in
    let recent = c.in_ok-whole-4.ensures _ journal_app told c.grammar-4.ensures in
    let chosen = c.in_ok-whole-5.ensures _ landmarks_app recent c.grammar-5.ensures in
    c.with_command-6.ensures _ rehearse_app chosen c.grammar-6.ensures
