use Rattle.std.proofs.Common.{◌≡◌, ◌++◌, take, flat_map, string_bytes}
use Rattle.device_info.specs.Present.{suspect_line}
use Rattle.device_info.proofs.suspects.push_lines.Given as goal

abbrev pub invariant-loop-suspect : goal.invariant-loop-suspect
invariant-loop-suspect l = string_bytes l.text ≡ string_bytes l.initial.text ++ flat_map suspect_line (take l.suspect-index l.suspects)
