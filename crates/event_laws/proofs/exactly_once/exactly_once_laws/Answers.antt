use Rattle.event_laws.proofs.Refusing.{exactly_once, let_in_turn}
use Rattle.event_laws.proofs.Boards.{free_shows_last}
use Rattle.event_laws.proofs.exactly_once.exactly_once_laws.Goals as goal

pub returns : goal.returns
returns c = record { exactly_once = exactly_once; let_in_turn = let_in_turn; free_shows_last = free_shows_last }
