use Rattle.std.proofs.Common.{rules, ◌∙◌}
use Rattle.std.specs.String.{string_bytes}
use Rattle.network_load.proofs.load.run.Goals as goal

pub returns-in-Ok-totals_text-clause-printed : goal.returns-in-Ok-totals_text-clause-printed
returns-in-Ok-totals_text-clause-printed g c = λ zero.
    let put = c.put.ensures.put zero in
    let printed = c.put.ensures.printed zero in
    let totals = c.as_str-in-Ok-totals_text.ensures.value ∙ c.in-Ok-totals_text.ensures in
    record {
      path = c.in-Some-Some.file.now;
      text = string_bytes c.in-Ok-text_of.text;
      named = search rules;
      was_read = c.in-Ok-text_of.ensures.text;
      holds = record {
        path = c.in-Some-Some.device.now;
        nodes = c.in-Ok.nodes;
        made = c.in-Ok-load_list.made;
        named = search rules;
        asked = c.in-Ok.ensures.asked;
        is_load = rw c.as_str.ensures.value at c.in-Ok-load_list.ensures.made;
        put = rw c.deref.ensures.value at put;
        printed = rw totals at printed;
      };
    }
