use Rattle.std.proofs.Common.{codes, string_bytes}
use Rattle.device_info.specs.Json.{suspects_member}
use Rattle.device_info.proofs.Texts.{two_texts}
use Rattle.device_info.proofs.json.push_back.Goals as goal

pub returns : goal.returns
returns c =
    two_texts (string_bytes c.args.text.now) (suspects_member c.args.suspects.now) (codes "}\n") (string_bytes c.push_suspects.new.text) (string_bytes c.push_str.new.self) c.in_ok-push_suspects.ensures c.in_ok-push_str.ensures.bytes
