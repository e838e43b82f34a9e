use Rattle.line_exchange.specs.Inputs.{Script}
use Rattle.script_service.proofs.script.serve_lines.Given as goal

abbrev pub ghosts-serve_script : goal.ghosts-serve_script
ghosts-serve_script g a = record { input = Script a.script.items; editors = a.opened.config.service.editors; book = a.blank.book }
