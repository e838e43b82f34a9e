use Rattle.std.proofs.Common.{◌≡◌, ◌+◌, ◌*◌, [], ◌∷◌, ◌++◌, length, take}
use Rattle.std.specs.List.{flat_map}
use Rattle.std.specs.Int.{w16, to_be_bytes}
use Rattle.packet_bytes.proofs.ports.put_ports.Given as goal

abbrev pub invariant-loop-port : goal.invariant-loop-port
invariant-loop-port g l = record {
  text : l.out.items ≡ (l.fn.out.items ++ length l.ports ∷ []) ++ flat_map (to_be_bytes w16) (take l.port-index l.ports);
  len : length l.out.items ≡ length l.fn.out.items + 1 + 2 * l.port-index;
}
