use Rattle.std.proofs.Common.{codes, flat_map, string_bytes}
use Rattle.device_info.specs.Json.{first_text, next_text}
use Rattle.device_info.proofs.Texts.{three_texts}
use Rattle.device_info.proofs.json.push_some.Goals as goal

pub returns : goal.returns
returns c =
    three_texts (string_bytes c.args.text.now) (first_text c.args.first) (flat_map next_text c.args.rest.now) (codes "]") (string_bytes c.push_first.new.text) (string_bytes c.push_rest.new.text) (string_bytes c.push_str.new.self)
    c.in_ok-push_first.ensures c.in_ok-push_rest.ensures c.in_ok-push_str.ensures.bytes
