use denote.Param.Send.{sendable}
use Rattle.std.proofs.Crossing.{crosses}
use Rattle.generations.proofs.reader.BoardReader.TheSendSync.{the_send as reader_send}
use Rattle.generations.proofs.writer.BoardWriter.TheSendSync.{the_send as writer_send}
use Rattle.live_service.proofs.Sending.{store_send, source_send, config_send}
use Rattle.line_exchange.proofs.exchange.LineQueues.TheSendSync.{the_sync as exchange_sync}
use Rattle.live_service.proofs.running.start_engine.Goals as goal

pub spawn_with-requires-send-F : goal.spawn_with-requires-send-F
spawn_with-requires-send-F g c κs within =
    let j = c.type_bounds.send-J in
    let k = c.type_bounds.sync-J in
    let b = c.type_bounds.send-B in
    let y = c.type_bounds.sync-B in
    let d = c.type_bounds.send-A-Device in
    let h = c.type_bounds.sync-A-Gate in
    let t = c.type_bounds.send-A-Tables in
    let f = c.type_bounds.send-A-Devices in
    let q = c.type_bounds.send-Q in
    let r = c.type_bounds.sync-A-Runtime in
    search (crosses, sendable, store_send, source_send, config_send, exchange_sync, writer_send, reader_send) depth 80
