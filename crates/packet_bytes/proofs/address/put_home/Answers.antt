use Rattle.std.proofs.Common.{◌<◌, ◌^◌, append_assoc, subst}
use Rattle.packet_bytes.specs.Spelling.{ArePorts}
use Rattle.packet_bytes.proofs.address.put_home.Goals as goal

pub returns-clause-text : goal.returns-clause-text
returns-clause-text g c = rw (c.put_ports.ensures.text, c.put_u16-2.ensures.text, c.put_u16.ensures.text, c.push.ensures.items, c.in-Some.is, c.first.ensures, c.lights.ensures.same) (simp append_assoc)

pub returns-clause-fits : goal.returns-clause-fits
returns-clause-fits g c = rw c.in-Some.is (c.put_u16.ensures.fits, (subst (λ n. n < 2 ^ 16) c.first.ensures c.put_u16-2.ensures.fits, subst ArePorts c.lights.ensures.same c.put_ports.ensures.fits))
