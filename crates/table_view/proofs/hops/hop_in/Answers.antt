use Rattle.packet_bytes.proofs.Spellings.{packets_are_read}
use Rattle.table_view.proofs.hops.hop_in.Goals as goal

pub hop_of-requires-clause-fits : goal.hop_of-requires-clause-fits
hop_of-requires-clause-fits c = packets_are_read c.to_bytes-bytes.result c.args.packet.now c.to_bytes-bytes.ensures
