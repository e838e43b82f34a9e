use Rattle.std.proofs.Common.{refl}
use Rattle.live_service.proofs.Ended.{memory_early}
use Rattle.live_service.proofs.engine.seat.Goals as goal

pub returns-in-Err : goal.returns-in-Err
returns-in-Err g c = memory_early g.B.BoardName.opening g.J.Stream c.args.parts.opened.store c.args.parts.opened.store c.args.parts.opened.up refl

pub returns-in_default : goal.returns-in_default
returns-in_default g c = memory_early g.B.BoardName.opening g.J.Stream c.args.parts.opened.store c.args.parts.opened.store c.args.parts.opened.up refl
