use Rattle.std.proofs.Common.{◌≡◌, ◌++◌, take, flat_map, string_bytes}
use Rattle.device_info.specs.Json.{next_text}
use Rattle.device_info.proofs.json.push_rest.Given as goal

abbrev pub invariant-loop-suspect : goal.invariant-loop-suspect
invariant-loop-suspect l = string_bytes l.text ≡ string_bytes l.initial.text ++ flat_map next_text (take l.suspect-index l.suspects)
