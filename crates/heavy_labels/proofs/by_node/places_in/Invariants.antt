use Rattle.std.proofs.Common.{◌≡◌, map, take}
use Rattle.heavy_labels.proofs.by_node.places_in.Given as goal

abbrev pub invariant-loop-spot : goal.invariant-loop-spot
invariant-loop-spot g l = l.all.items ≡ map (λ s. s.place) (take l.spot-index l.spots)
