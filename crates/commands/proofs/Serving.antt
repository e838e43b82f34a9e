-- What the words of a service give, and how its device is closed.
use Rattle.std.proofs.Common.{◌≡◌, ◌≤◌, ◌∙◌, ◌∷◌, ◌++◌, [], ℕ, List, Option, Some, None, arith, subst, sym}
use Rattle.std.proofs.lemmas.List.{append-nil}
use Rattle.clap.specs.Walk.{Text}
use Rattle.command_line.specs.Asked.{IsAskedFor, IsUsual}
use Rattle.command_line.specs.declared.task.Task.{Task}
use Rattle.command_line.specs.declared.task.Task.TheVariants.{Edit, Resume, Serve}
use Rattle.committer_thread.specs.Config.{IsNumber}
use Rattle.file_commands.specs.declared.devices.Access.TheVariants.{ToChange}
use Rattle.file_commands.specs.Events.{Event, HasDone, Opened, Opening}
use Rattle.file_commands.proofs.OnDevices.{closed, left_open}
use Rattle.commands.specs.Serves.{MayRun, closing}

-- a number that is asked for is no greater than the most, as the usual one is
usual_most : (text : Option Text) (least most usual n : ℕ) → usual ≤ most → IsUsual text least most usual n → n ≤ most
usual_most None least most usual n few is = subst (λ (m : ℕ). m ≤ most) (sym is) few
usual_most (Some text) least most usual n few is = is.1.1

-- a number of a service is from 1 to 64, as the usual one is
pub seat_number : (text : Option Text) (usual n : ℕ) → IsNumber usual → IsUsual text 1 64 usual n → IsNumber n
seat_number None usual n few is = subst IsNumber (sym is) few
seat_number (Some text) usual n few is = is.1

-- a task that is asked for may run
pub may_run : (words : List Text) (task : Task) → IsAskedFor words task → MayRun task
may_run words (Edit device session ticket change) (name, rows, command, is) =
    let most = usual_most _ 0 63 0 session (omega arith) is.1.1.1.0 in
    (omega arith, tt)
may_run words (Resume device session) (name, rows, command, is) = (omega (arith, is.1.1.0.1.1), tt)
may_run words (Serve device editors forwarders places live landmarks) (name, rows, command, is) = (
  tt,
  (seat_number _ 2 editors (omega arith, omega arith) is.1.1.1.0, (seat_number _ 2 forwarders (omega arith, omega arith) is.1.1.1.1.0, seat_number _ 64 places (omega arith, omega arith) is.1.1.1.1.1.0)),
)
may_run words _ asked = (tt, tt)

-- a device that a service had is closed where it came back
pub served : {F D : Type 0} (opened : Opening D) (events : F → List (Event D)) (old mid new : F) (path : List ℕ) (disk : D) (back : Option D)
    → opened path ToChange disk → events mid ≡ events old ++ Opened path ToChange disk ∷ [] → events new ≡ events mid ++ closing back
    → HasDone opened events old new (Opened path ToChange disk ∷ closing back)
served opened events old mid new path disk None was first second = left_open opened events old new path ToChange disk was (second ∙ append-nil (events mid) ∙ first)
served opened events old mid new path disk (Some left) was first second = closed opened events old mid new path ToChange disk left was first second
