-- What may go to another thread.
use denote.RattleType.{RattleType}
use denote.Param.Send.{IsSend, sendable}
use Rattle.std.proofs.Crossing.{crosses}
use Rattle.disk_trait.specs.declared.disk.Disk.{Ghosts}
use Rattle.graph_edits.specs.contracts.graph.Graph as graph
use Rattle.requests.specs.contracts.request.Request as request
use Rattle.journal.specs.contracts.journal.Journal as journal
use Rattle.journal.specs.contracts.request_entry.RequestEntry.TheImpl as entry
use Rattle.checkpoint.specs.contracts.store.Store as store
use Rattle.service_actors.specs.contracts.word_source.WordSource as source
use Rattle.live_service.specs.contracts.opened.EngineConfig as config

graph_send : IsSend graph.the_row
graph_send = search (crosses, sendable) depth 40

journal_send : IsSend (journal.the_row request.the_row entry.ghosts)
journal_send = search (crosses, sendable) depth 40

-- a store where its disk may
pub store_send : (T : RattleType) (members : Ghosts T.Denot) → IsSend T → IsSend (store.the_row T members)
store_send T members sends = search (crosses, sendable, graph_send, journal_send) depth 80

pub source_send : IsSend source.the_row
source_send = search (crosses, sendable) depth 40

pub config_send : IsSend config.the_row
config_send = search (crosses, sendable) depth 40
