-- A table in the program's lists.
use Rattle.router_table.specs.declared.fields.Fields.{Fields}
use Rattle.router_table.specs.Table.{Table}

-- what they hold
abbrev pub table_of : Fields → Table
table_of f = record { head = f.head; ports = f.ports.items; entries = f.entries.items; directory = f.directory.items }
