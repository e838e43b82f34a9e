use Rattle.std.proofs.Common.{refl}
use Rattle.packet_bytes.proofs.address.AddressWire.to_bytes.Goals as goal

pub returns : goal.returns
returns c = record {
  fits = record { generation = c.put_u64.ensures.fits; node = c.put_u16.ensures.fits; home = c.put_home.ensures.fits };
  text = rw (c.in-Ok.ensures.ok, c.put_home.ensures.text, c.put_u16.ensures.text, c.put_u64.ensures.text, c.new-out.ensures) refl;
}
