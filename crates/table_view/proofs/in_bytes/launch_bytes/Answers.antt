use Rattle.std.proofs.Common.{◌≡◌, ◌∙◌, List, Ok, ap, subst, sym, ℕ}
use Rattle.std.specs.Prelude.{Result}
use Rattle.std.proofs.lemmas.Option.{same_Some}
use Rattle.schemes.specs.declared.packet.Packet.{Packet}
use Rattle.schemes.specs.declared.packet.Refused.{Refused}
use Rattle.packet_bytes.specs.Spelling.{SpellsPacket}
use Rattle.packet_bytes.proofs.Spellings.{one_address}
use Rattle.router_table.specs.Handing.{launched}
use Rattle.table_view.proofs.in_bytes.launch_bytes.Goals as goal

pub returns-in-Some-Ok : goal.returns-in-Some-Ok
returns-in-Some-Ok c = (
  c.if-out-ne-PACKET_SIZE.false,
  c.in-Ok.ensures.0,
  λ a to spelled spells. (
      let same = one_address c.args.to.now to c.in-Ok.to spells c.in-Ok.ensures.1 in
      let got = same_Some {A = Result Packet Refused} _ _ (c.in-Some-Ok.ensures a spelled) in
      let sent : launched a to ≡ Ok c.in-Some-Ok.packet = ap (launched a) same ∙ sym got ∙ c.in-Some-Ok.field-0-is in
      (c.in-Some-Ok.packet, sent, subst (λ (t : List ℕ). SpellsPacket t c.in-Some-Ok.packet) (sym c.copy_from_slice.ensures.after) c.to_bytes.ensures)),
)
