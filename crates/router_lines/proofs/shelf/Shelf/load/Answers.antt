use Rattle.std.proofs.Common.{◌≡◌, rules}
use Rattle.router_lines.proofs.Keeping.{kept_put}
use Rattle.router_lines.proofs.shelf.Shelf.load.Goals as goal

pub invariant_of-self : goal.invariant_of-self
invariant_of-self c =
    let same : c.args.table.head.node ≡ c.self.inside.node = search rules in
    kept_put c.args.table (record { node = c.self.inside.node; tables = c.self.inside.tables.items }) c.put.new.tables.items c.put.result c.self.invariant same c.put.ensures.loaded c.put.ensures.unchanged
