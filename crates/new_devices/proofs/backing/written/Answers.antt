use Rattle.std.proofs.Common.{Err, ap}
use Rattle.layout_2.specs.Layout.{device_len}
use Rattle.new_devices.proofs.Blanks.{blank_foreign}
use Rattle.new_devices.proofs.backing.written.Goals as goal

pub returns-in-Ok-clause-written : goal.returns-in-Ok-clause-written
returns-in-Ok-clause-written g c = record {
  same = c.write_to.ensures.ran;
  whole = c.in-Ok.ensures.ok;
  any_moment = λ model up keeps. c.write_to.ensures.any_moment model up keeps (blank_foreign device_len (g.N.Disk.view c.args.device.now) c.requires.blank keeps);
  memory = λ is. absurd cc;
  device = λ is. absurd cc;
}

pub returns-in-Err-Memory-clause-written : goal.returns-in-Err-Memory-clause-written
returns-in-Err-Memory-clause-written g c = record {
  same = c.write_to.ensures.ran;
  whole = λ model up. tt;
  any_moment = λ model up keeps. c.write_to.ensures.any_moment model up keeps (blank_foreign device_len (g.N.Disk.view c.args.device.now) c.requires.blank keeps);
  memory = λ is. c.in-Err-Memory.ensures.memory (ap Err c.in-Err-Memory.field-0-is);
  device = λ is. absurd cc;
}

pub returns-in-Err-Device-clause-written : goal.returns-in-Err-Device-clause-written
returns-in-Err-Device-clause-written g c = record {
  same = c.write_to.ensures.ran;
  whole = λ model up. tt;
  any_moment = λ model up keeps. c.write_to.ensures.any_moment model up keeps (blank_foreign device_len (g.N.Disk.view c.args.device.now) c.requires.blank keeps);
  memory = λ is. absurd cc;
  device = λ is. c.in-Err-Device.ensures.device (ap Err c.in-Err-Device.field-0-is);
}
