use Rattle.std.proofs.Common.{◌++◌, ◌∙◌, ap, codes, true, string_bytes}
use Rattle.device_info.specs.Json.{array_text}
use Rattle.device_info.specs.Lines.{figures_text}
use Rattle.device_info.proofs.Texts.{three_texts}
use Rattle.device_info.proofs.json.push_front.Goals as goal

pub returns : goal.returns
returns c =
    three_texts (string_bytes c.args.text.now) (codes "{") (figures_text true c.args.info.now) (array_text c.args.info.now.held.items) (string_bytes c.push_str.new.self) (string_bytes c.push_figures.new.text) (string_bytes c.push_array.new.text)
    c.in_ok-push_str.ensures.bytes c.in_ok-push_figures.ensures (c.in_ok-push_array.ensures ∙ ap (λ h. string_bytes c.push_figures.new.text ++ array_text h) c.deref.ensures.value)
