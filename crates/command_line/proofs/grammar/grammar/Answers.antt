use Rattle.std.proofs.Common.{ap, true, Bool, ◌∙◌}
use Rattle.clap.specs.Simple.{Shape, app_of_fields, on_top}
use Rattle.clap.specs.declared.builder.command.Command.{Command}
use Rattle.clap.specs.declared.builder.command.Command.TheOpen.{Command-F}
use Rattle.command_line.specs.Grammar.{IsCommandOf, bare_app, program}
use Rattle.command_line.proofs.grammar.grammar.Goals as goal

pub returns : goal.returns
unfolding program
returns c =
    let globals : Command-F Command → Bool = λ (f : Command-F Command). f.has_globals in
    let bare : IsCommandOf c.subcommand_required-bare.result bare_app = record {
      app = ap app_of_fields c.subcommand_required-bare.ensures ∙ ap (on_top (λ (s : Shape). record s { subcommand_required = true })) (ap app_of_fields c.no_binary_name.ensures ∙ ap (on_top (λ (s : Shape). record s { no_binary_name = true })) c.new.ensures.app);
      local = ap globals c.subcommand_required-bare.ensures ∙ ap globals c.no_binary_name.ensures ∙ c.new.ensures.local;
    } in
    let edits = c.in_ok-edits.ensures _ (c.in_ok-shows.ensures _ (c.in_ok-formats.ensures _ bare)) in
    let checks = c.in_ok-checks.ensures _ (c.in_ok-routes.ensures _ (c.in_ok-resumes.ensures _ edits)) in
    c.with-10.ensures _ (c.in_ok-copies.ensures _ (c.in_ok-migrates.ensures _ (c.in_ok-tabled.ensures _ checks)))
