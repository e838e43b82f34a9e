use Rattle.std.proofs.Common.{rules, ◌∙◌}
use Rattle.layout_2.specs.Loading.{state_of}
use Rattle.network_load.proofs.grow.run.Goals as goal

pub returns-in-Ok-grown_text-clause-printed : goal.returns-in-Ok-grown_text-clause-printed
returns-in-Ok-grown_text-clause-printed g c = λ zero.
    let put = c.put.ensures.put zero in
    let printed = c.put.ensures.printed zero in
    let line = c.as_str.ensures.value ∙ c.in-Ok-grown_text.ensures in
    record {
      path = c.in-Some-Some.path.now;
      disk = c.in-Ok-open_to_read.device;
      left = c.loaded_of-loaded.new.disk;
      named = search rules;
      was_opened = search rules;
      was_closed = search rules;
      holds = record {
        path = c.in-Some-Some.new.now;
        nodes = c.in-Ok.nodes;
        state = state_of c.in-Ok-loaded.loaded;
        bytes = c.in-Ok-grown_image.bytes.items;
        named = search rules;
        asked = c.in-Ok.ensures.asked;
        holds = search rules;
        grows = c.in-Ok-grown_image.ensures.grows;
        stands = c.in-Ok-grown_image.ensures.stands;
        put = rw c.deref.ensures.value at put;
        printed = rw line at printed;
      };
    }
