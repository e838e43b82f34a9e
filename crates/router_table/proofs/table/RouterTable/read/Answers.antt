use Rattle.std.proofs.Common.{sym, subst}
use Rattle.std.proofs.lemmas.Result.{err_from_is_err_and}
use Rattle.router_table.specs.Fields.{table_of}
use Rattle.router_table.specs.Order.{IsTable}
use Rattle.router_table.specs.Spelling.{SpellsTable}
use Rattle.router_table.specs.Table.{Table}
use Rattle.router_table.proofs.FormTexts.{body_refused, order_refused, is_spelled}
use Rattle.router_table.proofs.table.RouterTable.read.Goals as goal

pub returns-in_err-fields-clause-refused : goal.returns-in_err-fields-clause-refused
returns-in_err-fields-clause-refused c =
    let p = err_from_is_err_and c.from_residual-in_err-fields.result c.from_residual-in_err-fields.ensures.1 in
    rw (p.1, p.2) (body_refused c.args.bytes.now c.in_ok-body.body.now c.in_err-fields.field-0.0 c.in_ok-body.ensures c.in_err-fields.ensures)

pub returns-in-None-clause-refused : goal.returns-in-None-clause-refused
returns-in-None-clause-refused c = order_refused c.args.bytes.now c.in_ok-body.body.now (table_of c.in_ok-fields.fields) c.in_ok-body.ensures c.in_ok-fields.ensures c.in-None.ensures

pub returns-in-Some-clause-read : goal.returns-in-Some-clause-read
returns-in-Some-clause-read c =
    let read = c.in_ok-fields.ensures in
    let made = c.in-Some.ensures in
    subst (λ (a : Table). SpellsTable c.args.bytes.now a) (sym made.0) (is_spelled c.args.bytes.now c.in_ok-body.body.now (table_of c.in_ok-fields.fields) c.in_ok-body.ensures read (subst (λ (a : Table). IsTable a) made.0 made.1))
