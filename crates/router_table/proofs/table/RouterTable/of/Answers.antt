use Rattle.std.proofs.Common.{sym, subst, ◌∙◌}
use Rattle.schemes.specs.Tables.{tables}
use Rattle.router_table.specs.Table.{IsTableOf, Table}
use Rattle.router_table.proofs.Handings.{is_table_of}
use Rattle.router_table.proofs.table.RouterTable.of.Goals as goal

pub returns-in-Some-clause-same : goal.returns-in-Some-clause-same
returns-in-Some-clause-same c =
    subst (λ (a : Table). IsTableOf (tables c.args.scheme.now) c.args.node a) (sym (c.in-Some.ensures.0 ∙ c.in_ok-fields.ensures.1)) (is_table_of c.args.scheme.now c.args.node)
