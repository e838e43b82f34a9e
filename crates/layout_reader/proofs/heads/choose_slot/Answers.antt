use Rattle.std.proofs.Common.{List, ℕ, subst}
use Rattle.layout_reader.specs.Choosing.{HasHead}
use Rattle.layout_reader.proofs.ReadLemmas.{still}
use Rattle.layout_reader.proofs.heads.choose_slot.Goals as goal

pub returns-in-None-clause-refused : goal.returns-in-None-clause-refused
returns-in-None-clause-refused g c model fault =
    let v0 = g.D.Disk.view c.args.disk.now in
    let v1 = g.D.Disk.view c.read_head.new.disk in
    let there : HasHead c.args.room 1 c.in_ok-second.second v0.content = subst (λ (l : List ℕ). HasHead c.args.room 1 c.in_ok-second.second l) ((c.read_head.ensures.reads model).content) (c.in_ok-second.ensures.head (still v0 v1 c.read_head.ensures.ran model)) in
    c.in-None.ensures.choice c.args.room v0.content (c.in_ok-first.ensures.head model, there)
