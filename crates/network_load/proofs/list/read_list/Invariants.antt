use Rattle.std.proofs.Common.{◌≡◌, ◌+◌, All, drop, map}
use Rattle.network_load.specs.Lists.{HasEndsTo, after_each, list_says, with_line}
use Rattle.network_load.proofs.list.read_list.Given as goal

abbrev pub invariant-loop-index : goal.invariant-loop-index
invariant-loop-index l =
    (list_says l.last l.text ≡ after_each (with_line l.last) (l.index + 1) (map (λ x. x.now) (drop l.index l.lines.items)) l.edges.items)
    × All (HasEndsTo l.last) l.edges.items
