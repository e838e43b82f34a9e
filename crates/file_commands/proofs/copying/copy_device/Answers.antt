use Rattle.std.proofs.Common.{inl, inr, subst, sym, ⊎_elim, ℕ, List, Result, Ok, Err, IfOk, IsTrue, OnOk}
use Rattle.std.proofs.lemmas.Result.{IfOk-weaker}
use Rattle.disk_trait.specs.Disk.{DiskView, weaker}
use Rattle.layout_2.specs.State.{State}
use Rattle.layout_2.specs.Standing.{StandsFor}
use Rattle.checkpoint.specs.StoreWords.{state_of}
use Rattle.checkpoint.specs.Whole.{StandsForNoneOr}
use Rattle.checkpoint.specs.Written.{IsNowWritten}
use Rattle.command_output.specs.declared.fault.Fault.{Fault}
use Rattle.file_commands.specs.Copies.{CopiesNoneOrAllOf, HasCopied, IsTotalOf}
use Rattle.file_commands.specs.declared.copying.Copied.{Copied}
use Rattle.file_commands.proofs.copying.copy_device.Goals as goal

-- where a state was written for which the old content stands, that is copied
copied_of : (r : Result Copied Fault) (state : State) (old : List ℕ) (before after : DiskView) → StandsFor state old → IsTrue before.keeps_model → OnOk r (IsNowWritten state before after) → IfOk r (λ copied. IsTotalOf state copied)
    → IfOk r (λ copied. HasCopied copied old after)
copied_of (Ok copied) state old before after stood model written totals = record { state = state; totals = totals; stood = stood; holds = written.of_model model }
copied_of (Err fault) state old before after stood model written totals = tt

pub returns-in-Ok-clause-copied : goal.returns-in-Ok-clause-copied
returns-in-Ok-clause-copied g c old_model new_model =
    let opened = c.in-Ok.ensures.opened in
    copied_of c.write_copy.result (state_of c.in-Ok.store) (g.O.Disk.view c.args.old).content (g.N.Disk.view c.args.new.now) (g.N.Disk.view c.write_copy.new.new) (opened.of_model old_model).stands new_model
    (c.write_copy.ensures.written (subst IsTrue (sym opened.ran.model) old_model) opened.up) c.write_copy.ensures.totals

pub returns-in-Ok-clause-of_one : goal.returns-in-Ok-clause-of_one
returns-in-Ok-clause-of_one g c =
    IfOk-weaker c.write_copy.result (λ copied. IsTotalOf (state_of c.in-Ok.store) copied) (λ copied. (state : State) × IsTotalOf state copied) (λ copied totals. (state_of c.in-Ok.store, totals)) c.write_copy.ensures.totals

pub returns-in-Ok-clause-any_moment : goal.returns-in-Ok-clause-any_moment
returns-in-Ok-clause-any_moment g c old_model new_model foreign =
    let opened = c.in-Ok.ensures.opened in
    weaker (g.N.Disk.view c.args.new.now) (g.N.Disk.view c.write_copy.new.new) (StandsForNoneOr (state_of c.in-Ok.store)) (CopiesNoneOrAllOf (g.O.Disk.view c.args.old).content)
    (c.write_copy.ensures.any_moment (subst IsTrue (sym opened.ran.model) old_model) opened.up new_model foreign)
    (λ image is. ⊎_elim inl (λ here. inr (state_of c.in-Ok.store, (opened.of_model old_model).stands, here)) is)
