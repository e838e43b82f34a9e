use Rattle.std.proofs.Common.{◌≡◌, take, map}
use Rattle.std.specs.List.{flat_map}
use Rattle.network_load.specs.Lists.{parts_at}
use Rattle.network_load.proofs.list.cut_each.Given as goal

abbrev pub invariant-loop-text : goal.invariant-loop-text
invariant-loop-text l = map (λ x. x.now) l.parts.items ≡ flat_map (parts_at l.at) (map (λ x. x.now) (take l.text-index l.texts))
