use Rattle.std.proofs.Common.{◌∙◌, ap, map}
use Rattle.heavy_labels.specs.declared.by_node.Spot.{Spot}
use Rattle.heavy_labels.proofs.Spots.{by_node_from}
use Rattle.heavy_labels.proofs.by_node.by_sorting.Goals as goal

pub returns : goal.returns
returns g c =
    by_node_from c.args.members.now c.in_ok-spots.spots.items c.sort_by_node.new.spots.items c.in_ok-places.places.items c.requires c.in_ok-spots.ensures c.sort_by_node.ensures.same c.sort_by_node.ensures.ascend
    (c.in_ok-places.ensures ∙ ap (map (λ (s : Spot). s.place)) c.as_slice.ensures.value)
