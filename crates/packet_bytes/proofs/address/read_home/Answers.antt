use Rattle.std.proofs.Common.{◌∙◌, sym}
use Rattle.std.proofs.lemmas.List.{take_rest}
use Rattle.packet_bytes.proofs.Places.{homeless}
use Rattle.packet_bytes.proofs.address.read_home.Goals as goal

pub returns-then-all_zero : goal.returns-then-all_zero
returns-then-all_zero c =
    let bytes = c.args.bytes.now in
    let found = homeless bytes _ c.requires c.if-flag-eq0.true (take_rest bytes 1) (sym c.all_zero.ensures ∙ c.if-all_zero.true) in
    (found.0, (tt, found.1))
