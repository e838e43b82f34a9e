use Rattle.std.proofs.Common.{rules, ◌≡◌, codes}
use Rattle.live_lines.proofs.Asking.{dash_alone}
use Rattle.live_lines.proofs.asked.ticket_in.Goals as goal

pub returns-then-eq-clause-only : goal.returns-then-eq-clause-only
returns-then-eq-clause-only c ticket is written =
    let dash : c.args.text.now ≡ codes "-" = search rules in
    dash_alone c.args.text.now dash ticket is written
