use Rattle.std.proofs.Common.{◌≡◌, take, map}
use Rattle.std.specs.List.{flat_map}
use Rattle.network_load.specs.Lists.{unless_empty}
use Rattle.network_load.proofs.list.kept.Given as goal

abbrev pub invariant-loop-part : goal.invariant-loop-part
invariant-loop-part l = map (λ x. x.now) l.words.items ≡ flat_map unless_empty (map (λ x. x.now) (take l.part-index l.parts))
