use Rattle.forwarders.proofs.Ends as packets
use Rattle.forwarders.proofs.ByteEnds as spelled
use Rattle.forwarders.proofs.Gone as shelf
use Rattle.forwarders.proofs.Arrivals as sent
use Rattle.forwarders.proofs.ByteArrivals as sent_bytes
use Rattle.forwarders.proofs.laws.forwarding_laws.Goals as goal

pub returns-clause-packets_end : goal.returns-clause-packets_end
returns-clause-packets_end c = packets.every_packet_ends

pub returns-clause-packet_bytes_end : goal.returns-clause-packet_bytes_end
returns-clause-packet_bytes_end c = spelled.packet_bytes_end c.spelling_laws.ensures.packets_are_read c.spelling_laws.ensures.one_packet

pub returns-clause-unread_bytes_end : goal.returns-clause-unread_bytes_end
returns-clause-unread_bytes_end c = spelled.unread_bytes_end

pub returns-clause-hop_gone : goal.returns-clause-hop_gone
returns-clause-hop_gone c = shelf.hop_gone

pub returns-clause-launch_gone : goal.returns-clause-launch_gone
returns-clause-launch_gone c = shelf.launch_gone

pub returns-clause-address_gone : goal.returns-clause-address_gone
returns-clause-address_gone c = shelf.address_gone

pub returns-clause-one_scheme : goal.returns-clause-one_scheme
returns-clause-one_scheme c = sent.answers_are

pub returns-clause-sent_arrive : goal.returns-clause-sent_arrive
returns-clause-sent_arrive c = sent.sent_arrive

pub returns-clause-sent_bytes_arrive : goal.returns-clause-sent_bytes_arrive
returns-clause-sent_bytes_arrive c = sent_bytes.bytes_arrive c.spelling_laws.ensures.packets_are_read c.spelling_laws.ensures.one_packet
