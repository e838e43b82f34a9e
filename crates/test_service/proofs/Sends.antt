-- What may go to another thread: the files of tables.
use denote.Param.Send.{IsSend, sendable}
use Rattle.std.proofs.Crossing.{crosses}
use Rattle.disk_trait.specs.contracts.log.Log as log
use Rattle.table_files.specs.contracts.place.TableFile as file

pub file_send : IsSend file.the_row
file_send = search (crosses, sendable) depth 40

-- so may the list of those that were put
pub put_send : IsSend (log.the_row file.the_row)
put_send = search (crosses, sendable) depth 40
