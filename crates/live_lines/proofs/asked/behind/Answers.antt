use Rattle.std.proofs.Common.{sym, subst}
use Rattle.value_syntax.specs.Reading.{texts_of}
use Rattle.std.specs.Prelude.{IfOk}
use Rattle.live_lines.specs.declared.words.Word.{Word}
use Rattle.live_lines.specs.Lines.{AsksBehind, AsksJust}
use Rattle.live_lines.proofs.asked.behind.Goals as goal

pub returns-in-Route : goal.returns-in-Route
returns-in-Route c = subst (λ (w : Word). IfOk c.route_of.result (AsksJust (AsksBehind c.args.editors w (texts_of c.args.words.now)))) (sym c.in-Route.is) c.route_of.ensures

pub returns-in-Address : goal.returns-in-Address
returns-in-Address c = subst (λ (w : Word). IfOk c.address_of.result (AsksJust (AsksBehind c.args.editors w (texts_of c.args.words.now)))) (sym c.in-Address.is) c.address_of.ensures

pub returns-in-Launch : goal.returns-in-Launch
returns-in-Launch c = subst (λ (w : Word). IfOk c.launch_in.result (AsksJust (AsksBehind c.args.editors w (texts_of c.args.words.now)))) (sym c.in-Launch.is) c.launch_in.ensures

pub returns-in-Hop : goal.returns-in-Hop
returns-in-Hop c = subst (λ (w : Word). IfOk c.hop_in.result (AsksJust (AsksBehind c.args.editors w (texts_of c.args.words.now)))) (sym c.in-Hop.is) c.hop_in.ensures

pub returns-in-Tables : goal.returns-in-Tables
returns-in-Tables c = subst (λ (w : Word). IfOk c.tables_of.result (AsksJust (AsksBehind c.args.editors w (texts_of c.args.words.now)))) (sym c.in-Tables.is) c.tables_of.ensures

pub returns-in-Backup : goal.returns-in-Backup
returns-in-Backup c = subst (λ (w : Word). IfOk c.backup_of.result (AsksJust (AsksBehind c.args.editors w (texts_of c.args.words.now)))) (sym c.in-Backup.is) c.backup_of.ensures
