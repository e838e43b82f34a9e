use Rattle.std.proofs.Common.{◌<◌, ◌^◌, refl, subst}
use Rattle.packet_bytes.specs.Spelling.{ArePorts}
use Rattle.packet_bytes.proofs.packet.PacketWire.to_bytes.Goals as goal

pub returns : goal.returns
returns c = record {
  fits = record {
    generation = c.put_u64.ensures.fits;
    destination = c.put_u16.ensures.fits;
    root = c.put_u16-2.ensures.fits;
    label = (subst (λ n. n < 2 ^ 16) c.first.ensures c.put_u16-3.ensures.fits, subst ArePorts c.lights.ensures.same c.put_ports.ensures.fits);
    hops_left = c.put_u16-4.ensures.fits;
  };
  text = rw (
    c.in-Ok.ensures.ok,
    c.put_ports.ensures.text,
    c.put_u16-4.ensures.text,
    c.put_u16-3.ensures.text,
    c.put_u16-2.ensures.text,
    c.put_u16.ensures.text,
    c.put_u64.ensures.text,
    c.new-out.ensures,
    c.first.ensures,
    c.lights.ensures.same,
  ) refl;
}
