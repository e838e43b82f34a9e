use Rattle.std.proofs.Common.{◌∙◌, subst}
use Rattle.disk_trait.specs.Disk.{weaker}
use Rattle.layout_reader.proofs.ReadLemmas.{still}
use Rattle.checkpoint.specs.Whole.{IsWriting, IsWritten, StandsForNoneOr}
use Rattle.layout_2.specs.State.{IsLawful, state_with}
use Rattle.checkpoint.proofs.Wholes.{holds_fresh, writing_stands}
use Rattle.checkpoint.proofs.whole.write_with.Goals as goal

pub returns-in-Ok-put_whole-clause-ok : goal.returns-in-Ok-put_whole-clause-ok
returns-in-Ok-put_whole-clause-ok g c are =
    let graph = c.args.graph.now in
    let text = c.deref.result.now in
    let v0 = g.D.Disk.view c.args.disk.now in
    let v1 = g.D.Disk.view c.put_whole.new.disk in
    let lawful_text = λ (lawful : IsLawful graph). c.deref.ensures.value ∙ c.in-Ok.ensures.text lawful in
    record {
      no_failure = c.in-Ok-put_whole.ensures.no_failure;
      of_model = λ model. holds_fresh (state_with c.args.count graph c.args.tickets.now) c.sound.ensures are c.requires.count text lawful_text v1
          (λ image left. subst (λ n. IsWritten n text image) c.nodes.ensures.nodes (c.in-Ok-put_whole.ensures.ok model image left))
          (g.met.D.Disk.present c.put_whole.new.disk (still v0 v1 c.put_whole.ensures.ran model));
    }

pub returns-in-Ok-put_whole-clause-any_moment : goal.returns-in-Ok-put_whole-clause-any_moment
returns-in-Ok-put_whole-clause-any_moment g c are model foreign =
    let state = state_with c.args.count c.args.graph.now c.args.tickets.now in
    let text = c.deref.result.now in
    let v0 = g.D.Disk.view c.args.disk.now in
    let v1 = g.D.Disk.view c.put_whole.new.disk in
    weaker v0 v1 (IsWriting c.nodes.result text) (StandsForNoneOr state) (c.put_whole.ensures.any_moment model foreign)
    (λ image is. writing_stands state c.sound.ensures are c.requires.count text (λ lawful. c.deref.ensures.value ∙ c.in-Ok.ensures.text lawful) image (subst (λ n. IsWriting n text image) c.nodes.ensures.nodes is))

pub returns-clause-any_moment : goal.returns-clause-any_moment
returns-clause-any_moment g c are model foreign =
    let state = state_with c.args.count c.args.graph.now c.args.tickets.now in
    let text = c.deref.result.now in
    let v0 = g.D.Disk.view c.args.disk.now in
    let v1 = g.D.Disk.view c.put_whole.new.disk in
    weaker v0 v1 (IsWriting c.nodes.result text) (StandsForNoneOr state) (c.put_whole.ensures.any_moment model foreign)
    (λ image is. writing_stands state c.sound.ensures are c.requires.count text (λ lawful. c.deref.ensures.value ∙ c.in-Ok.ensures.text lawful) image (subst (λ n. IsWriting n text image) c.nodes.ensures.nodes is))
