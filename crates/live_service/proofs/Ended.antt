-- How a live service ends.
use Rattle.std.proofs.Common.{◌≡◌, ◌≢◌, ◌∙◌, ⊎_elim, refl, sym, ap, subst, ℕ, Option, Some, None, Result, Ok, Err, IfErr, IfOk, OnOk, IsErrOf, false, arith}
use Rattle.std.specs.Prelude.{IfSome, IsSome, IsSomeAnd}
use Rattle.std.specs.Io.KnownBytes.{Appends}
use Rattle.disk_trait.specs.declared.disk.Disk.{Ghosts as Disks}
use Rattle.disk_trait.specs.Disk.{DiskView, IsSameDevice}
use Rattle.checkpoint.specs.StoreWords.{state_of, view_of, is_down}
use Rattle.checkpoint.specs.declared.store.Store.{Store}
use Rattle.value_syntax.specs.declared.words.LandmarkWords.{LandmarkWords}
use Rattle.command_output.specs.declared.fault.Fault.{Fault}
use Rattle.command_output.specs.declared.fault.Fault.TheVariants as told
use Rattle.line_exchange.specs.Begun.{PrintsUnless}
use Rattle.line_exchange.specs.declared.answer_writer.AnswerWriter.{Ghosts}
use Rattle.committer_thread.specs.Kept.{HasFailed, HasSettledSome, IsServedDisk}
use Rattle.committer_thread.proofs.Settling.{some_settled}
use Rattle.device_commands.specs.Openings.{TellsOf}
use Rattle.live_service.specs.ServeEnds.{IsLater, IsOpeningFault, IsServeEnd, IsServeFault, told_fault}
use Rattle.line_exchange.specs.declared.served.Served.{Served}
use Rattle.line_exchange.specs.declared.served.Served.TheVariants as served
use Rattle.service_actors.specs.declared.stop_cause.StopCause.{StopCause}
use Rattle.service_actors.specs.declared.stop_cause.StopCause.TheVariants as cause
use Rattle.generations.specs.Beginnings.{Opening}
use Rattle.live_service.specs.declared.ending.Ending.{Ending}
use Rattle.line_exchange.specs.Inputs.{Input}
use Rattle.line_exchange.specs.declared.messages.Stream.{Ghosts as Streams}
use Rattle.line_exchange.specs.Ends.{IsFinish, fault_of}
use Rattle.line_exchange.specs.Reads.{AreOfInput, IsReadEnd}
use Rattle.line_exchange.specs.declared.line_fault.LineFault.{LineFault}
use Rattle.line_exchange.specs.declared.line_fault.LineFault.TheVariants.{Failed}
use Rattle.live_lines.specs.Answers.{answer_text}
use Rattle.line_exchange.specs.Prints.{PrintsSo, lines_of}
use Rattle.live_service.specs.Runs.{ConsoleUse, HasBroken, HasEnded, HasRun, IsFaultOf, IsPrintEnd, IsRun, PrintsTo}
use Rattle.live_service.specs.ServedList.{EndsServed, HasPrintedOn, HasServedOn}
use Rattle.line_exchange.specs.declared.printed.Printed.{Printed}
use Rattle.line_exchange.proofs.PrintedLines.{begins_all, none_printed}
use Rattle.line_exchange.proofs.SaidLines.{printed_as, printed_of}

-- ---- an engine that took nothing

cause_of : {T : Type 0} (a b : StopCause) → IsErrOf {T = T} (Err a) b → a ≡ b
cause_of a b is = cc

-- it stopped, and not since the device failed
pub stopped_early : {D J : Type 0} {V : _} → (opening : Opening) (stream : Streams J) (store : Store D V) (c : StopCause) (new : DiskView) → c ≢ cause.Device → HasSettledSome (state_of store) (view_of store) new
    → EndsServed opening stream store (Err c) new
stopped_early opening stream store c new other settled =
    record { disk = record { settled = settled; device = λ is. absurd (other (cause_of c cause.Device is)) }; named = tt; all = tt }

not_memory : cause.Memory ≢ cause.Device
not_memory is = cc

not_thread : cause.NoThread ≢ cause.Device
not_thread is = cc

-- .. and want of memory is no such failure
pub memory_early : {D J : Type 0} {V : _} → (opening : Opening) (stream : Streams J) (store back : Store D V) → is_down store ≡ false → back ≡ store → EndsServed opening stream store (Err cause.Memory) (view_of back)
memory_early opening stream store back up same =
    stopped_early opening stream store cause.Memory (view_of back) not_memory
    (subst (λ s. HasSettledSome (state_of store) (view_of store) (view_of s)) (sym same) (some_settled store up))

-- .. nor is want of a thread
pub thread_early : {D J : Type 0} {V : _} → (opening : Opening) (stream : Streams J) (store : Store D V) (new : DiskView) → is_down store ≡ false → new ≡ view_of store → EndsServed opening stream store (Err cause.NoThread) new
thread_early opening stream store new up same =
    stopped_early opening stream store cause.NoThread new not_thread
    (subst (λ (v : DiskView). HasSettledSome (state_of store) (view_of store) v) (sym same) (some_settled store up))

-- ---- faults

-- the fault that is told of threads that stopped
pub cause_later : (c : StopCause) → IsLater (told_fault c)
cause_later cause.Device = tt
cause_later cause.Worn = tt
cause_later cause.Memory = tt
cause_later cause.Board = tt
cause_later cause.NoThread = tt
cause_later cause.Internal = tt

-- is the device's only where the device was the cause
pub cause_device : (c : StopCause) → told_fault c ≡ told.Device → c ≡ cause.Device
cause_device cause.Device is = refl
cause_device cause.Worn is = absurd (cc)
cause_device cause.Memory is = absurd (cc)
cause_device cause.Board is = absurd (cc)
cause_device cause.NoThread is = absurd (cc)
cause_device cause.Internal is = absurd (cc)

-- and it is never the output's
pub cause_other : (c : StopCause) → told_fault c ≡ told.Output → ⊥
cause_other cause.Device is = cc
cause_other cause.Worn is = cc
cause_other cause.Memory is = cc
cause_other cause.Board is = cc
cause_other cause.NoThread is = cc
cause_other cause.Internal is = cc

-- that it is given behind the reading says that the reading of an input failed
pub met_late : (input : Input) (given : Option Fault) (read : Result (Option ℕ) LineFault) → (given ≡ Some told.Output → read ≡ Err Failed) → IsReadEnd input read → given ≡ Some told.Output → AreOfInput input
met_late input given (Ok lines) why end is = (let other : ◌≡◌ {A = Result (Option ℕ) LineFault} (Ok lines) (Err Failed) = why is in absurd (cc))
met_late input given (Err fault) why end is =
    let same : fault ≡ Failed = (let both : ◌≡◌ {A = Result (Option ℕ) LineFault} (Err fault) (Err Failed) = why is in cc) in
    end.1 same

-- what holds of each fault of a service whose device was opened
later_each : (P : Fault → Type 0) (f : Fault) → IsLater f → P told.Device → P told.Worn → P told.Memory → P told.NoThread → P told.Internal → P told.Output → P f
later_each P told.Device is device worn memory thread internal output = device
later_each P told.Worn is device worn memory thread internal output = worn
later_each P told.Memory is device worn memory thread internal output = memory
later_each P told.NoThread is device worn memory thread internal output = thread
later_each P told.Internal is device worn memory thread internal output = internal
later_each P told.Output is device worn memory thread internal output = output
later_each P _ is device worn memory thread internal output = absurd is

-- it is none of an opening
no_opening : (f : Fault) → IsLater f → IsOpeningFault f → ⊥
no_opening f is = later_each (λ (e : Fault). IsOpeningFault e → ⊥) f is (λ o. o) (λ o. o) (λ o. o) (λ o. o) (λ o. o) (λ o. o)

no_words : (f : Fault) → IsLater f → f ≡ told.Words → ⊥
no_words f is = later_each (λ (e : Fault). e ≡ told.Words → ⊥) f is (λ same. cc) (λ same. cc) (λ same. cc) (λ same. cc) (λ same. cc) (λ same. cc)

-- the device of a service that ended so
pub later_end : {D : Type 0} (model : Disks D) (disk : D) (asked : LandmarkWords) (back : Option D) (f : Fault) → IsLater f → IsSome back
    → (f ≡ told.Device → IfSome back (λ d. HasFailed (model.view disk) (model.view d))) → IsServeEnd model disk asked back f
later_end model disk asked back f is came device = record {
  given_back = came;
  named = later_each (λ (e : Fault). IsServeFault e) f is tt tt tt tt tt tt;
  tells = λ keeps. later_each (λ (e : Fault). TellsOf e (model.view disk).content) f is tt tt tt tt tt tt;
  not_within = λ keeps state stands same. absurd (no_words f is same);
  of_one = λ same. absurd (no_words f is same);
  refused = λ keeps opening. absurd (no_opening f is opening);
  device = device;
}

-- a service that a fault ended isn't one that printed all
pub not_printed : (ended : Served) (f : Fault) → fault_of ended ≡ Some f → ended ≡ served.Printed → ⊥
not_printed served.Printed f is same = absurd (cc)
not_printed (served.Told g) f is same = cc
not_printed (served.Untold g) f is same = cc

-- a fault that is told is the fault that ended it
no_some : (f : Fault) → Some f ≡ None → ⊥
no_some f same = cc

pub finished_so : (f : Fault) (ended : Served) → IsFinish (Some f) ended → fault_of ended ≡ Some f
finished_so f ended is = ⊎_elim (λ so. so) (λ none. absurd (no_some f none.0)) is

no_cause : (a b : Result Ending StopCause) → a ≡ Err cause.Memory → a ≡ Err cause.Device → ⊥
no_cause a b is same = cc

no_fault : told.Memory ≡ told.Device → ⊥
no_fault same = cc

no_thread_fault : told.NoThread ≡ told.Device → ⊥
no_thread_fault same = cc

-- a service that no fault ended was given none
pub none_given : (given : Option Fault) (ended : Served) → IsFinish given ended → ended ≡ served.Printed → given ≡ None
none_given given ended is whole = ⊎_elim (λ same. sym same ∙ ap fault_of whole) (λ none. none.0) is

-- what a service prints that printed so much
pub prints_to : {W : Type 0} (outlet : Ghosts W) (input : Input) (editors : ℕ) (old new : W) (printed : Printed) (given : Option Fault) (ended : Served) → PrintsSo outlet input editors old new printed
    → IsPrintEnd input printed given ended → PrintsTo outlet input editors old new ended
prints_to outlet input editors old new printed given ended so end =
    let before = PrintsUnless (printed.end ≡ Some Failed) (outlet.contents old) (outlet.contents new) in
    let after = PrintsUnless (HasBroken outlet new ended) (outlet.contents old) (outlet.contents new) in
    record {
      answers = (
        printed.tally.count,
        printed_of printed.tally input editors after (printed_as answer_text printed.tally input editors before after so.lines (λ lines was. (was.0, λ other. was.1 (λ is. other (end.output is, so.failed is))))),
        λ is. end.whole (none_given given ended end.finish is),
      );
    }

-- .. and by what is known of the list, where no fault ended it
pub prints_on : {D J W : Type 0} {V : _} → (outlet : Ghosts W) (stream : Streams J) (store : Store D V) (old new : W) (printed : Printed) (given : Option Fault) (ended : Served) (back : Option D)
    → PrintsSo outlet stream.input stream.editors old new printed → IsPrintEnd stream.input printed given ended
    → (ended ≡ served.Printed → HasServedOn store stream.input stream.editors printed.tally back) → ended ≡ served.Printed → HasPrintedOn answer_text stream store (outlet.contents old) (outlet.contents new) back
prints_on outlet stream store old new printed given ended back so end on is = record {
  tally = printed.tally;
  printed = printed_as answer_text printed.tally stream.input stream.editors (PrintsUnless (printed.end ≡ Some Failed) (outlet.contents old) (outlet.contents new)) (Appends (outlet.contents old) (outlet.contents new)) so.lines
      (λ lines was. was.1 (λ failed. not_printed ended told.Output (end.output failed) is));
  whole = end.whole (none_given given ended end.finish is);
  on = on is;
}

-- .. and of one that a fault ended before anything was printed
pub none_to : {W : Type 0} (outlet : Ghosts W) (input : Input) (editors : ℕ) (old new : W) (ended : Served) (f : Fault) → new ≡ old → fault_of ended ≡ Some f → PrintsTo outlet input editors old new ended
none_to outlet input editors old new ended f same fault =
    let none = none_printed input editors (outlet.contents old) in
    let text = lines_of answer_text none.answers in
    let all : Appends (outlet.contents old) (outlet.contents new) text = subst (λ w. Appends (outlet.contents old) (outlet.contents w) text) (sym same) none.printed in
    record {
      answers = (
        0,
        record { answers = none.answers; many = none.many; are = none.are; printed = (begins_all (outlet.contents old) (outlet.contents new) text all, λ unless. all) },
        λ is. absurd (not_printed ended f fault is),
      );
    }

-- of both, on a console of whose values this word reads the writer
pub run_prints : {C D J W : Type 0} {V : _} {on : ConsoleUse C} {stream : Streams J} {store : Store D V} {ended : Served} {back : Option D}
    → HasRun on stream store ended back → (outlet : Ghosts W) (out : C → W)
    → ((mid : C) (printed : Printed) (given : Option Fault) → on.prints on.old mid printed → on.finishes mid on.new given ended → PrintsSo outlet stream.input stream.editors (out on.old) (out on.new) printed)
    → ((given : Option Fault) → on.finishes on.old on.new given ended → out on.new ≡ out on.old) → PrintsTo outlet stream.input stream.editors (out on.old) (out on.new) ended
run_prints {on = on} {stream = stream} {ended = ended} run outlet out so same =
    let old = out on.old in
    let new = out on.new in
    ⊎_elim (λ ran. prints_to outlet stream.input stream.editors old new ran.printed ran.given ended (so ran.mid ran.printed ran.given ran.printing ran.finishing) ran.print_end)
    (λ none. ⊎_elim (λ lacks. none_to outlet stream.input stream.editors old new ended told.Memory (same none.given none.finishing) lacks) (λ lacks. none_to outlet stream.input stream.editors old new ended told.NoThread (same none.given none.finishing) lacks) none.lacks)
    run.console

-- the threads of a service ran, unless it lacked memory or a thread
pub ran_unless : {C D J : Type 0} {V : _} {on : ConsoleUse C} {stream : Streams J} {store : Store D V} {ended : Served} {back : Option D}
    → HasRun on stream store ended back → (fault_of ended ≡ Some told.Memory → ⊥) → (fault_of ended ≡ Some told.NoThread → ⊥) → IsRun on stream store ended back
ran_unless run memory thread = ⊎_elim (λ ran. ran) (λ none. absurd (⊎_elim (λ lacks. memory lacks) (λ lacks. thread lacks) none.lacks)) run.console

-- so they did where no fault ended it
pub ran_of : {C D J : Type 0} {V : _} {on : ConsoleUse C} {stream : Streams J} {store : Store D V} {ended : Served} {back : Option D}
    → HasRun on stream store ended back → ended ≡ served.Printed → IsRun on stream store ended back
ran_of {ended = ended} run is = ran_unless run (λ lacks. not_printed ended told.Memory lacks is) (λ lacks. not_printed ended told.NoThread lacks is)

-- .. or its output failed
pub ran_broken : {C D J : Type 0} {V : _} {on : ConsoleUse C} {stream : Streams J} {store : Store D V} {ended : Served} {back : Option D}
    → HasRun on stream store ended back → fault_of ended ≡ Some told.Output → IsRun on stream store ended back
ran_broken run is = ran_unless run (λ lacks. two_faults (sym is ∙ lacks)) (λ lacks. two_thread_faults (sym is ∙ lacks))
  where
    two_faults : Some told.Output ≡ Some told.Memory → ⊥
    two_faults same = cc

    two_thread_faults : Some told.Output ≡ Some told.NoThread → ⊥
    two_thread_faults same = cc

-- what holds where the output failed
pub broken_if : (fault : Option Fault) (P : Type 0) → (fault ≡ Some told.Output → P) → IfSome fault (λ f. f ≡ told.Output → P)
broken_if None P holds = tt
broken_if (Some f) P holds = λ is. holds (ap (λ (g : Fault). Some g) is)

-- no engine was started, since memory ran out
pub memory_ended : {D : Type 0} {V : _} → (store : Store D V) (ended : Served) (disk : D) → is_down store ≡ false → V.view disk ≡ view_of store → fault_of ended ≡ Some told.Memory → HasEnded store ended (Some disk)
memory_ended {V = V} store ended disk up is fault = (
  Err cause.Memory,
  record {
    disk = record {
      settled = subst (λ (v : DiskView). HasSettledSome (state_of store) (view_of store) v) (sym is) (some_settled store up);
      device = λ same. absurd (no_cause (Err cause.Memory) (Err cause.Memory) refl same);
    };
    fault = subst (λ (o : Option Fault). IfSome o (λ f. IsFaultOf {T = Ending} (Err cause.Memory) f)) (sym fault) (tt, λ same. absurd (no_fault same));
  },
)

-- .. or no thread could be made
pub thread_ended : {D : Type 0} {V : _} → (store : Store D V) (ended : Served) (disk : D) → HasSettledSome (state_of store) (view_of store) (V.view disk) → fault_of ended ≡ Some told.NoThread → HasEnded store ended (Some disk)
thread_ended store ended disk settled fault = (
  Err cause.NoThread,
  record {
    disk = record { settled = settled; device = λ same. absurd (not_thread (cause_of {T = Ending} cause.NoThread cause.Device same)) };
    fault = subst (λ (o : Option Fault). IfSome o (λ f. IsFaultOf {T = Ending} (Err cause.NoThread) f)) (sym fault) (tt, λ same. absurd (no_thread_fault same));
  },
)

-- what came back
pub came_back : {D : Type 0} (P : D → Type 0) (back : Option D) → IsSomeAnd back P → IsSome back
came_back P (Some d) has = refl
came_back P None has = absurd has

pub of_back : {D : Type 0} (P : D → Type 0) (back : Option D) → IsSomeAnd back P → IfSome back P
of_back P (Some d) has = has
of_back P None has = absurd has

failed_since : (old mid new : DiskView) → IsSameDevice old mid → HasFailed mid new → HasFailed old new
failed_since old mid new same failed = omega (arith, same.no_fewer, failed)

back_failed : {D : Type 0} (model : Disks D) (old mid : DiskView) (back : Option D) → IsSameDevice old mid → IfSome back (λ d. HasFailed mid (model.view d)) → IfSome back (λ d. HasFailed old (model.view d))
back_failed model old mid (Some d) same failed = failed_since old mid (model.view d) same failed
back_failed model old mid None same failed = tt

served_failed : {D T : Type 0} {V : _} → (store : Store D V) (engine : Result T StopCause) (back : Option D) → IfSome back (λ d. IsServedDisk store engine (V.view d)) → IsErrOf engine cause.Device
    → IfSome back (λ d. HasFailed (view_of store) (V.view d))
served_failed store engine (Some d) left is = left.device is
served_failed store engine None left is = tt

one_end : {D T : Type 0} {V : _} → (disk : D) (asked : LandmarkWords) (store : Store D V) (engine : Result T StopCause) (back : Option D) (f : Fault) → IsSameDevice (V.view disk) (view_of store)
    → IsSomeAnd back (λ d. IsServedDisk store engine (V.view d)) → IsFaultOf engine f → IsServeEnd V disk asked back f
one_end {V = V} disk asked store engine back f same left is =
    later_end V disk asked back f is.0 (came_back (λ d. IsServedDisk store engine (V.view d)) back left)
    (λ device. back_failed V (V.view disk) (view_of store) back same (served_failed store engine back (of_back (λ d. IsServedDisk store engine (V.view d)) back left) (is.1 device)))

-- the device of a service whose engine ended so
pub engine_ends : {D T : Type 0} {V : _} → (disk : D) (asked : LandmarkWords) (store : Store D V) (engine : Result T StopCause) (back : Option D) (fault : Option Fault) → IsSameDevice (V.view disk) (view_of store)
    → IsSomeAnd back (λ d. IsServedDisk store engine (V.view d)) → IfSome fault (λ f. IsFaultOf engine f) → IfSome fault (λ f. IsServeEnd V disk asked back f)
engine_ends disk asked store engine back (Some f) same left is = one_end disk asked store engine back f same left is
engine_ends disk asked store engine back None same left is = tt

-- a fault that ended a service, as an error
pub err_of : {T : Type 0} (r : Result T Fault) (fault : Option Fault) (P : Fault → Type 0) → IfErr r (λ f. fault ≡ Some f) → IfSome fault P → IfErr r P
err_of (Ok u) fault P is has = tt
err_of (Err f) fault P is has = subst (λ (o : Option Fault). IfSome o P) is has

-- what holds where no fault ended it
pub ok_of : {T : Type 0} (r : Result T Fault) (ended : Served) (P : Type 0) → IfOk r (λ u. ended ≡ served.Printed) → (ended ≡ served.Printed → P) → OnOk r P
ok_of (Ok u) ended P is has = has is
ok_of (Err f) ended P is has = tt
