use Rattle.std.proofs.Common.{◌≡◌, ◌++◌, take}
use Rattle.std.specs.String.{string_bytes}
use Rattle.command_output.specs.RouteLines.{stops_text}
use Rattle.live_lines.proofs.answer.push_stops.Given as goal

abbrev pub invariant-loop-node : goal.invariant-loop-node
invariant-loop-node l = string_bytes l.text ≡ string_bytes l.fn.text ++ stops_text (take l.node-index l.nodes)
