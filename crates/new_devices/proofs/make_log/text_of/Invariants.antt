use Rattle.std.proofs.Common.{◌≡◌, take}
use Rattle.new_devices.proofs.make_log.text_of.Given as goal

abbrev pub invariant-loop-byte : goal.invariant-loop-byte
invariant-loop-byte l = record { text : l.text.items ≡ take l.byte-index l.byte-items }
