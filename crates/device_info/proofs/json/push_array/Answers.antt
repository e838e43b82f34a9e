use Rattle.std.proofs.Common.{codes, string_bytes}
use Rattle.device_info.specs.Json.{tickets_text}
use Rattle.device_info.proofs.Texts.{three_texts}
use Rattle.device_info.proofs.json.push_array.Goals as goal

pub returns : goal.returns
returns c =
    three_texts (string_bytes c.args.text.now) (codes "\"tickets\":[") (tickets_text c.args.held.now) (codes "]") (string_bytes c.push_str.new.self) (string_bytes c.push_tickets.new.text) (string_bytes c.push_str-2.new.self)
    c.in_ok-push_str.ensures.bytes c.in_ok-push_tickets.ensures c.in_ok-push_str-2.ensures.bytes
