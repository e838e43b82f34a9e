use Rattle.std.proofs.Common.{arith, sym, ◌∙◌, ap, ◌+◌, take, drop}
use Rattle.std.proofs.lemmas.List.{take-take}
use Rattle.layout_reader.proofs.HeadLemmas.{gate_and, product}
use Rattle.layout_reader.specs.Heads.{start_of}
use Rattle.layout_reader.proofs.heads.read_head.Goals as goal

pub overflow_mul-room : goal.overflow_mul-room
overflow_mul-room g c = omega (arith, product c.args.room c.args.slot c.requires.slot, c.requires.room)

pub overflow_add-room : goal.overflow_add-room
overflow_add-room g c = omega (arith, product c.args.room c.args.slot c.requires.slot, c.requires.room)

pub returns-clause-head : goal.returns-clause-head
returns-clause-head g c model =
    let content = (g.D.Disk.view c.args.disk.now).content in
    let two = gate_and content c.in_ok-bytes.bytes (start_of c.args.room c.args.slot) 22 (c.in_ok-bytes.ensures.bytes model) in
    record {
      gate_is = two.0 ∙ sym c.head_of.ensures.gate;
      text = sym (take-take 22 22 (drop (start_of c.args.room c.args.slot + 1) content) (omega arith)) ∙ ap (take 22) two.1 ∙ c.head_of.ensures.text;
    }
