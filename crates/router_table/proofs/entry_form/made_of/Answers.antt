use Rattle.std.proofs.Common.{◌==◌, refl}
use Rattle.router_table.specs.Records.{made}
use Rattle.router_table.proofs.entry_form.made_of.Goals as goal

pub returns : goal.returns
returns c =
    let a = c.args in
    made a.first a.last a.heavy_last a.light_depth a.parent_port a.heavy_port c.new.result c.new.ensures.made c.new.ensures.exact (a.first == a.last) refl
