-- The texts of packets, of addresses, of where a packet goes, and of why it goes nowhere.
use Rattle.std.specs.Prelude.{ℕ, List, ◌++◌, codes, decimal}
use Rattle.hex.specs.Hex.{encode_lower}
use Rattle.schemes.specs.declared.packet.Address.{Address}
use Rattle.schemes.specs.declared.packet.Packet.{Packet}
use Rattle.schemes.specs.declared.packet.Move.{Move}
use Rattle.schemes.specs.declared.packet.Move.TheVariants.{Delivered, Forward}
use Rattle.schemes.specs.declared.packet.Refused.{Refused}
use Rattle.schemes.specs.declared.packet.Refused.TheVariants.{NoNode, Unreachable, Stray, Spent}
use Rattle.packet_bytes.specs.Spelling.{address_text, packet_text}
use Rattle.packet_bytes.specs.declared.wire.WireRefused.{WireRefused}
use Rattle.packet_bytes.specs.declared.wire.WireRefused.TheVariants.{BadLength, BadFlag, BadCount, BadPadding}

-- why a packet isn't sent or carried
abbrev pub refused_text : Refused → List ℕ
refused_text NoNode = codes "no node"
refused_text Unreachable = codes "unreachable"
refused_text Stray = codes "stray"
refused_text Spent = codes "spent"

-- why bytes are no packet or address
abbrev pub unread_text : WireRefused → List ℕ
unread_text BadLength = codes "bad length"
unread_text BadFlag = codes "bad flag"
unread_text BadCount = codes "bad count"
unread_text BadPadding = codes "bad padding"

-- a label of text before digits
abbrev pub packet_line : Packet → List ℕ
packet_line k = codes "packet=" ++ encode_lower (packet_text k)

abbrev pub move_text : Move → List ℕ
move_text Delivered = codes "delivered"
move_text (Forward q y k) = codes "port=" ++ (decimal q ++ (codes " next=" ++ (decimal y ++ (codes " " ++ packet_line k))))

-- where a node is to be found
abbrev pub address_line : Address → List ℕ
address_line a = codes "generation=" ++ (decimal a.generation ++ (codes " address=" ++ encode_lower (address_text a)))
