use Rattle.std.proofs.Common.{codes, string_bytes}
use Rattle.device_info.specs.Lines.{figure_text}
use Rattle.device_info.proofs.Texts.{two_texts}
use Rattle.device_info.proofs.lines.push_journal.Goals as goal

pub returns : goal.returns
returns c =
    two_texts (string_bytes c.args.text.now) (figure_text c.args.as_json (codes "since_checkpoint") c.args.info.now.since_checkpoint) (figure_text c.args.as_json (codes "journal_room_left") c.args.info.now.journal_room_left)
    (string_bytes c.push_figure.new.text) (string_bytes c.push_figure-2.new.text) c.in_ok-push_figure.ensures c.in_ok-push_figure-2.ensures
