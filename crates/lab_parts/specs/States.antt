-- What a device holds that was only read.
use Rattle.std.specs.Prelude.{IsTrue}
use Rattle.disk_trait.specs.Disk.{DiskView}
use Rattle.layout_2.specs.Loading.{IsRead}
use Rattle.layout_2.specs.Standing.{StandsFor}
use Rattle.layout_2.specs.State.{State}

-- a device holds this state, where it keeps the model
abbrev pub HoldsState : DiskView → State → Type 0
HoldsState disk state = IsTrue disk.keeps_model → StandsFor state disk.content

-- .. and was only read
abbrev pub Holds : DiskView → DiskView → State → Type 0
Holds disk left state = IsRead disk left × HoldsState disk state
