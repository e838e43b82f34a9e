use Rattle.packet_bytes.proofs.Spellings.{addresses_are_read, one_address, one_packet, packets_are_read}
use Rattle.packet_bytes.proofs.laws.spelling_laws.Goals as goal

pub returns-clause-packets_are_read : goal.returns-clause-packets_are_read
returns-clause-packets_are_read c = packets_are_read

pub returns-clause-one_packet : goal.returns-clause-one_packet
returns-clause-one_packet c = one_packet

pub returns-clause-addresses_are_read : goal.returns-clause-addresses_are_read
returns-clause-addresses_are_read c = addresses_are_read

pub returns-clause-one_address : goal.returns-clause-one_address
returns-clause-one_address c = one_address
