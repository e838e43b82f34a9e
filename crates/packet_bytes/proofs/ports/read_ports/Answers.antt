use Rattle.std.proofs.Common.{◌∙◌, sym, ◌^◌, ◌<◌, true, false, arith}
use Rattle.std.proofs.lemmas.List.Elements.{All-from_recursion}
use Rattle.packet_bytes.proofs.Places.{all_places, bad_count, ports_is_form, refusal_is}
use Rattle.packet_bytes.proofs.ports.read_ports.Goals as goal

pub returns-in_default : goal.returns-in_default
returns-in_default c = bad_count c.args.bytes.now c.requires c.in_default.ensures.items

pub returns-then-not-all_zero : goal.returns-then-not-all_zero
returns-then-not-all_zero c =
    let bytes = c.args.bytes.now in
    let ports = c.in-Some.ports.items in
    let unused = c.in-Some.unused.now in
    let read = ports_is_form.takes bytes (ports, unused) (λ i. omega (arith, c.type_inv.bytes i)) c.in-Some.ensures.items in
    refusal_is bytes ports unused false read.0.parts read.1.1 (sym c.all_zero.ensures ∙ c.if-not-all_zero.true)

pub returns : goal.returns
returns c =
    let bytes = c.args.bytes.now in
    let ports = c.in-Some.ports.items in
    let unused = c.in-Some.unused.now in
    let read = ports_is_form.takes bytes (ports, unused) (λ i. omega (arith, c.type_inv.bytes i)) c.in-Some.ensures.items in
    let zeros = sym c.all_zero.ensures ∙ c.if-not-all_zero.false in
    let each = All-from_recursion (λ port. port < 2 ^ 16) ports read.1.2 in
    (refusal_is bytes ports unused true read.0.parts read.1.1 zeros, (all_places bytes ports unused c.requires read.0.parts read.1.1 zeros, record { few = read.1.1; each = each }))
