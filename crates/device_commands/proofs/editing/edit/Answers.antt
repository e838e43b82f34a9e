use Rattle.std.proofs.Common.{◌≡◌, ◌∙◌, IsTrue, inr, refl, subst, sym}
use Rattle.std.proofs.lemmas.Result.{IfErr-weaker}
use Rattle.disk_trait.specs.Disk.{IsSameDevice, OnlyRead, ran_on}
use Rattle.layout_2.specs.State.{State}
use Rattle.checkpoint.specs.StoreWords.{state_of, view_of}
use Rattle.device_commands.specs.Answer.{state_after}
use Rattle.device_commands.specs.Edits.{EditsState}
use Rattle.device_commands.proofs.OneRequest.{edit_stays, edit_fails, edit_keeps, edit_leaves, edit_reads, of_one_state}
use Rattle.device_commands.proofs.OpenFaults.{change_tells, change_unwritten, not_edited}
use Rattle.device_commands.proofs.editing.edit.Goals as goal

pub returns-in-Ok : goal.returns-in-Ok
returns-in-Ok g c =
    let disk = g.D.Disk.view c.args.disk in
    let left = g.D.Disk.view c.into_disk.result in
    let opened = c.in-Ok.ensures.opened in
    let by = c.settle_one-answer.ensures in
    let answer = c.settle_one-answer.result.0 in
    let done = c.settle_one-answer.result.1 in
    let at = state_of c.in-Ok.store in
    record {
      of_one = of_one_state answer at c.args.session c.args.named c.args.change by.settled.verdict by.new;
      of_content = λ model state stands.
          let same : at ≡ state = c.standing_law.ensures at state _ (opened.of_model model).stands stands in
          let still : IsTrue (view_of c.in-Ok.store).keeps_model = subst IsTrue (sym opened.ran.model) model in
          let keeps : IsTrue (view_of done).keeps_model = subst IsTrue (sym (by.settled.ran.model ∙ opened.ran.model)) model in
          subst (λ (s : State). EditsState c.args.session c.args.named c.args.change disk left answer s) same (record {
            verdict = by.settled.verdict;
            new = by.new;
            left = edit_keeps c.into_disk.result done answer (state_after at c.args.session c.args.named c.args.change) c.into_disk.ensures keeps by.settled.state by.settled.up;
            already_in = by.already_in;
            worn = by.worn;
            refused = λ refused. edit_reads c.args.disk c.into_disk.result c.in-Ok.store done (by.settled.refused refused) c.into_disk.ensures (opened.of_model model).reads;
            kept = λ held. edit_stays c.into_disk.result done answer at c.into_disk.ensures keeps by.settled.decided by.kept;
            any_moment = λ held. edit_leaves c.args.disk c.into_disk.result c.in-Ok.store done at (λ (s : State). state_after s c.args.session c.args.named c.args.change) refl c.into_disk.ensures (opened.of_model model).reads held
                (by.settled.any_moment still);
          });
      unwritten = λ model. change_unwritten answer (OnlyRead disk left) by.faults
          (λ is. edit_reads c.args.disk c.into_disk.result c.in-Ok.store done (by.unwritten is) c.into_disk.ensures (opened.of_model model).reads)
          (λ is. edit_reads c.args.disk c.into_disk.result c.in-Ok.store done (by.settled.worn_leaves is) c.into_disk.ensures (opened.of_model model).reads)
          (λ is. edit_reads c.args.disk c.into_disk.result c.in-Ok.store done (by.settled.threadless is) c.into_disk.ensures (opened.of_model model).reads);
      tells = λ model. IfErr-weaker answer _ _ (λ fault is. change_tells fault disk.content is) by.faults;
      device = λ is. edit_fails c.args.disk c.into_disk.result c.in-Ok.store done c.into_disk.ensures opened.ran.no_fewer (by.settled.device is);
      faults = IfErr-weaker answer _ _ (λ fault is. inr is) by.faults;
      ran = subst (λ d. IsSameDevice disk (g.D.Disk.view d)) (sym c.into_disk.ensures) (ran_on disk (view_of c.in-Ok.store) (view_of done) opened.ran by.settled.ran);
    }

pub returns-in-Err : goal.returns-in-Err
returns-in-Err g c = not_edited c.args.session c.args.named c.args.change _ _ c.in-Err.fault c.in-Err.ensures.refused
