use Rattle.device_suspects.proofs.Listed.{goes_on}
use Rattle.device_suspects.proofs.looking.go_on.Goals as goal

pub returns-clause-on : goal.returns-clause-on
returns-clause-on c = goes_on c.args.tickets.now c.args.bytes.now c.in_ok-requests.requests c.are_behind.result c.in_ok-requests.ensures.listed c.are_behind.ensures
