use Rattle.std.proofs.Common.{refl}
use Rattle.route_tree.proofs.Fronts.{part_front, heavy_unique}
use Rattle.route_tree.proofs.heavy.front.Goals as goal

pub returns-then-children-gt1 : goal.returns-then-children-gt1
returns-then-children-gt1 g c =
    part_front c.args.children.now c.heaviest-heavy.result c.rotate_right.new.self _ c.heaviest-heavy.ensures.there refl c.rotate_right.ensures.after
    (heavy_unique c.args.children.now c.heaviest-heavy.result c.heaviest-heavy.ensures)
