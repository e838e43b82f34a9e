use Rattle.std.proofs.Common.{◌≡◌, ◌++◌, take}
use Rattle.std.specs.List.{flat_map}
use Rattle.checkpoint.specs.Rolling.{up_text}
use Rattle.checkpoint.proofs.roll.put_row.Given as goal

abbrev pub invariant-loop-neighbour : goal.invariant-loop-neighbour
invariant-loop-neighbour l = l.text.items ≡ l.initial.text.items ++ flat_map (λ e. up_text l.node e) (take l.neighbour-index l.row)
