use Rattle.router_table.proofs.FormTexts.{one_table, tables_are_read}
use Rattle.router_table.proofs.Handings.{apart_is_unreachable, handing_ends, tables_carry}
use Rattle.router_table.proofs.laws.table_laws.Goals as goal

pub returns : goal.returns
returns c = record { read = tables_are_read; one = one_table; carry = tables_carry; apart = apart_is_unreachable; ends = handing_ends }
