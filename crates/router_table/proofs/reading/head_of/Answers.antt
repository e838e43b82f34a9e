use Rattle.std.proofs.Common.{arith}
use Rattle.router_table.proofs.BodyTexts.{no_numbers, no_address, head_read}
use Rattle.router_table.proofs.reading.head_of.Goals as goal

pub returns-in_default : goal.returns-in_default
returns-in_default c = no_numbers c.args.bytes.now c.in_default.ensures

pub returns-in-Ok : goal.returns-in-Ok
returns-in-Ok c =
    let n = c.in-Some in
    head_read c.args.bytes.now n.generation n.nodes n.node n.rest.now n.ensures c.in-Ok.address c.in-Ok.ensures.1 c.head_with.result (λ i. omega (arith, c.type_inv.bytes i)) c.head_with.ensures

pub returns-in-Err : goal.returns-in-Err
returns-in-Err c = (let n = c.in-Some in no_address c.args.bytes.now n.generation n.nodes n.node n.rest.now n.ensures c.in-Err.field-0 c.in-Err.ensures)
