-- What may go to another thread: a disk in memory, one on a file, and a hooked one.
use denote.Builtin.{unit}
use denote.RattleType.{RattleType}
use denote.Param.Send.{IsSend, sendable}
use Rattle.std.proofs.Crossing.{crosses}
use Rattle.disk_trait.specs.contracts.cells.Cells as cells
use Rattle.disk_trait.specs.contracts.file.FileDisk as file
use Rattle.disk_trait.specs.contracts.log.Log as log
use Rattle.disk_trait.specs.contracts.memory.MemDisk as memory
use Rattle.test_doubles.specs.contracts.hooked.HookedDisk as hooked

failures_send : IsSend (log.the_row unit)
failures_send = search (crosses, sendable) depth 40

past_send : IsSend (log.the_row cells.the_row)
past_send = search (crosses, sendable) depth 40

pub memory_send : IsSend memory.the_row
memory_send = search (crosses, sendable, failures_send, past_send) depth 40

pub file_send : IsSend file.the_row
file_send = search (crosses, sendable, failures_send) depth 40

-- a hooked disk, where its hook may
pub hooked_send : (H : RattleType) → IsSend H → IsSend (hooked.the_row H)
hooked_send H sends = search (crosses, sendable) depth 60
