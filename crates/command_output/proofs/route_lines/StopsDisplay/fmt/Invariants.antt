use Rattle.std.proofs.Common.{take}
use Rattle.std.specs.Fmt.{HasWritten, IsPlainFormatter}
use Rattle.command_output.specs.RouteLines.{stops_text}
use Rattle.command_output.proofs.route_lines.StopsDisplay.fmt.Given as goal

abbrev pub invariant-loop-node : goal.invariant-loop-node
invariant-loop-node g l = IsPlainFormatter l.fn.f → HasWritten g.W.Write.write_str_gives l.fn.f (stops_text (take l.node-index l.self.nodes.now)) l.f
