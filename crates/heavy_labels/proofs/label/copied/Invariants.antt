use Rattle.std.proofs.Common.{◌≡◌, take}
use Rattle.heavy_labels.proofs.label.copied.Given as goal

abbrev pub invariant-loop-port : goal.invariant-loop-port
invariant-loop-port l = l.all.items ≡ take l.port-index l.ports
