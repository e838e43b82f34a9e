use Rattle.std.proofs.Common.{◌≡◌, ◌++◌, flat_map, string_bytes, take}
use Rattle.device_info.specs.Lines.{held_line}
use Rattle.device_info.proofs.lines.push_held.Given as goal

abbrev pub invariant-loop-session : goal.invariant-loop-session
invariant-loop-session l = string_bytes l.text ≡ string_bytes l.initial.text ++ flat_map held_line (take l.session-index l.held)
