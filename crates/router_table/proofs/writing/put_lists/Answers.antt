use Rattle.std.proofs.Common.{arith, ap, length}
use Rattle.router_table.specs.Fields.{table_of}
use Rattle.router_table.proofs.Fits.{few_ports, few_entries, few_members}
use Rattle.router_table.proofs.writing.put_lists.Goals as goal

pub put_list-requires : goal.put_list-requires
put_list-requires c = omega (arith, few_ports (table_of c.args.fields.now) c.requires, ap length c.as_slice.ensures.value)

pub put_list-requires-2 : goal.put_list-requires-2
put_list-requires-2 c = omega (arith, few_entries (table_of c.args.fields.now) c.requires, ap length c.as_slice-2.ensures.value)

pub put_list-requires-3 : goal.put_list-requires-3
put_list-requires-3 c = omega (arith, few_members (table_of c.args.fields.now) c.requires, ap length c.as_slice-3.ensures.value)
