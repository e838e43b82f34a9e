-- How runs end whose faults are told, and those of live services.
use Rattle.std.proofs.Common.{◌≡◌, ◌≢◌, ◌∙◌, ◌⊎◌, ◌==◌, if◌then◌else◌, ap, inl, inr, refl, sym, subst, ℕ, List, [], ◌∷◌, Option, Some, None, Result, Ok, Err, IfErr, IfOk, IfSome, IsErrAnd}
use Rattle.std.specs.Io.KnownBytes.{Appends, prepend_known}
use Rattle.std.specs.Io.Buffered.{reader_buffer, reader_capacity, reader_inner, reader_remaining}
use Rattle.std.specs.declared.io.buffered.BufReader.{BufReader}
use Rattle.clap.specs.Walk.{Text}
use Rattle.disk_trait.specs.declared.disk.Disk.{Ghosts}
use Rattle.command_line.specs.Asked.{IsAskedFor, IsRefusedFor}
use Rattle.command_line.specs.declared.refused.WordsRefused.{WordsRefused}
use Rattle.command_line.specs.declared.refused.WordsRefused.TheVariants as why
use Rattle.command_line.specs.declared.task.Task.{Task}
use Rattle.command_line.specs.declared.task.Task.TheVariants.{Serve}
use Rattle.command_output.specs.Printing.{Ends, Known}
use Rattle.command_output.specs.declared.ended.Ended.{Ended}
use Rattle.command_output.specs.declared.fault.Fault.{Fault}
use Rattle.command_output.specs.declared.fault.Fault.TheVariants as told
use Rattle.value_syntax.specs.declared.words.LandmarkWords.{LandmarkWords}
use Rattle.live_service.specs.ServeEnds.{IsServeEnd}
use Rattle.line_exchange.specs.declared.served.Served.{Served}
use Rattle.line_exchange.specs.declared.served.Served.TheVariants as served
use Rattle.committer_thread.specs.Kept.{IsLeftBy}
use Rattle.line_exchange.specs.Ends.{HasToldSo, fault_of}
use Rattle.line_exchange.specs.Begun.{PrintsUnless}
use Rattle.line_exchange.specs.Inputs.{Bytes, Input}
use Rattle.live_lines.specs.Answers.{answer_text}
use Rattle.line_exchange.specs.Prints.{HasPrinted, lines_of}
use Rattle.line_exchange.specs.declared.answer_writer.AnswerWriter.{Ghosts as Writers}
use Rattle.live_service.specs.Runs.{HasBroken, PrintsTo}
use Rattle.live_service.specs.Services.{AnswersInput, lent}
use Rattle.table_files.specs.Files.{Put}
use Rattle.file_commands.specs.declared.devices.Access.TheVariants.{ToChange}
use Rattle.commands.specs.declared.outcome.Outcome.{Outcome}
use Rattle.commands.specs.declared.outcome.Outcome.TheVariants.{Answered, Told, Untold}
use Rattle.commands.specs.declared.service.Service.{Service}
use Rattle.file_commands.specs.Uses.{Stream, device_use, known_after, known_before}
use Rattle.file_commands.specs.Devices.{Doing, IsFileFault}
use Rattle.file_commands.specs.Runs.{EndsTask}
use Rattle.file_commands.specs.Events.{NotHad, Opened}
use Rattle.commands.specs.Serves.{BeginsAnswers, EndsLive, EndsScript, EndsServe, PrintsLive, closing}
use Rattle.commands.specs.Runs.{AnswersOrTells, AnswersWords, IsEndOf, IsFaultFor, IsLiveOutcome, IsOutcome, IsOutcomeOf, IsToldSo, MayEnd, PrintedFor, words_fault}

-- what was answered, or the fault that came, is the outcome of a run that tells its fault
pub told_so : (Answers : Ended → Type 0) (MayFail : Fault → Type 0) (told_old told_new : Known) (r : Result Ended Fault) (outcome : Outcome) → IsToldSo r told_old told_new outcome → IfOk r Answers → IfErr r MayFail
    → AnswersOrTells Answers MayFail told_old told_new outcome
told_so Answers MayFail told_old told_new (Ok ended) (Answered answered) is answers fails = (subst Answers (sym is.0) answers, is.1)
told_so Answers MayFail told_old told_new (Ok ended) (Told fault) is answers fails = absurd is
told_so Answers MayFail told_old told_new (Ok ended) (Untold fault) is answers fails = absurd is
told_so Answers MayFail told_old told_new (Err fault) (Answered answered) is answers fails = absurd is
told_so Answers MayFail told_old told_new (Err fault) (Told came) is answers fails = (subst MayFail (sym is.0) fails, is.1)
told_so Answers MayFail told_old told_new (Err fault) (Untold came) is answers fails = subst MayFail (sym is) fails

-- an outcome says also what follows from its answers and from its faults
pub so_too : (Answers Others : Ended → Type 0) (MayFail May : Fault → Type 0) (told_old told_new : Known) (outcome : Outcome) → ((ended : Ended) → Answers ended → Others ended) → ((fault : Fault) → MayFail fault → May fault)
    → AnswersOrTells Answers MayFail told_old told_new outcome → AnswersOrTells Others May told_old told_new outcome
so_too Answers Others MayFail May told_old told_new (Answered ended) answers fails is = (answers ended is.0, is.1)
so_too Answers Others MayFail May told_old told_new (Told fault) answers fails is = (fails fault is.0, is.1)
so_too Answers Others MayFail May told_old told_new (Untold fault) answers fails is = fails fault is

-- the outcome of a task that is asked for is one of the words
pub asked_so : {D : Type 0} (model : Ghosts D) (done : Doing D) (put : List Put → Type 0) (words : List Text) (task : Task) (given old new told_old told_new : Known) (outcome : Outcome) → IsAskedFor words task
    → IsOutcomeOf model done put task given old new told_old told_new outcome → IsOutcome model done put words given old new told_old told_new outcome
asked_so model done put words task given old new told_old told_new outcome asked is =
    so_too (λ ended. PrintedFor model done put task given ended old new) (λ ended. AnswersWords model done put words given ended old new)
    (λ fault. MayEnd model done put task given old new fault) (λ fault. IsFaultFor model done put words given old new fault)
    told_old told_new outcome (λ ended printed. (task, asked, printed)) (λ fault ends. inr (task, asked, ends)) is

-- and so is a fault of theirs
pub refused_so : {D : Type 0} (model : Ghosts D) (done : Doing D) (put : List Put → Type 0) (words : List Text) (given old new told_old told_new : Known) (fault : Fault) (outcome : Outcome)
    → (let r : Result Ended Fault = Err fault in IsToldSo r told_old told_new outcome) → IsFaultFor model done put words given old new fault → IsOutcome model done put words given old new told_old told_new outcome
refused_so model done put words given old new told_old told_new fault outcome is why =
    told_so (λ ended. AnswersWords model done put words given ended old new) (λ f. IsFaultFor model done put words given old new f) told_old told_new (Err fault) outcome is tt why

pub memory_alone : (refused : WordsRefused) → refused ≡ why.Memory → words_fault refused ≡ told.Memory
memory_alone why.Memory is = refl
memory_alone why.Usage is = absurd (cc)
memory_alone why.Words is = absurd (cc)
memory_alone why.Op is = absurd (cc)
memory_alone why.TooLong is = absurd (cc)

-- words that are refused are so by a fault for them
pub refused_for : {D : Type 0} (model : Ghosts D) (done : Doing D) (put : List Put → Type 0) (words : List Text) (given old new : Option (List ℕ)) (refused : WordsRefused) (fault : Fault) → fault ≡ words_fault refused → done [] → IsRefusedFor words refused
    → ((task : Task) → IsAskedFor words task → refused ≡ why.Memory) → IsFaultFor model done put words given old new fault
refused_for model done put words given old new refused fault is none cause memory = inl (none, (refused, is, cause, λ task asked. is ∙ memory_alone refused (memory task asked)))

-- a task that is no service ends so in a run
pub at_rest : {D W : Type 0} (model : Ghosts D) (done : Doing D) (put : List Put → Type 0) (task : Task) (given : Known) (out : Stream W) (r : Result Ended Fault) → EndsTask (device_use model done) put task out r
    → Ends (λ ended before after. PrintedFor model done put task given ended before after) (λ fault. MayEnd model done put task given (known_before out) (known_after out) fault) out.known out.old out.new r
at_rest model done put (Serve device editors forwarders places live words) given out (Ok ended) is = absurd is.printed
at_rest model done put (Serve device editors forwarders places live words) given out (Err fault) is = absurd is.fault
at_rest model done put _ given out r is = is

-- what holds behind each fault but the output's holds behind the one that was told
pub told_behind : (P : Type 0) (told_old told_new : Known) (r : Result Ended Fault) (outcome : Outcome) → IsToldSo r told_old told_new outcome → IfErr r (λ fault. fault ≢ told.Output → P)
    → (fault : Fault) → fault ≢ told.Output → (outcome ≡ Told fault) ⊎ (outcome ≡ Untold fault) → P
told_behind P told_old told_new (Ok ended) (Answered answered) is behind fault other (inl same) = absurd (cc)
told_behind P told_old told_new (Ok ended) (Answered answered) is behind fault other (inr same) = absurd (cc)
told_behind P told_old told_new (Ok ended) (Told came) is behind fault other which = absurd is
told_behind P told_old told_new (Ok ended) (Untold came) is behind fault other which = absurd is
told_behind P told_old told_new (Err first) (Answered answered) is behind fault other which = absurd is
told_behind P told_old told_new (Err first) (Told came) is behind fault other (inl same) =
    let one : fault ≡ came = cc in
    behind (λ out. other (one ∙ is.0 ∙ out))
told_behind P told_old told_new (Err first) (Told came) is behind fault other (inr same) = absurd (cc)
told_behind P told_old told_new (Err first) (Untold came) is behind fault other (inl same) = absurd (cc)
told_behind P told_old told_new (Err first) (Untold came) is behind fault other (inr same) =
    let one : fault ≡ came = cc in
    behind (λ out. other (one ∙ is ∙ out))

-- ---- a live service

-- where the program ends untold, so does its live service
pub untold_so : (ended : Served) (outcome : Outcome) (fault : Fault) → IsEndOf ended outcome → outcome ≡ Untold fault → ended ≡ served.Untold fault
untold_so served.Printed outcome fault is same = absurd (cc)
untold_so (served.Told came) outcome fault is same = absurd (cc)
untold_so (served.Untold came) outcome fault is same = cc

-- what was printed, where another thing holds of it
printed_so : (input : Input) (editors count : ℕ) (P Q : List ℕ → Type 0) → HasPrinted input editors P count → ((lines : List ℕ) → P lines → Q lines) → HasPrinted input editors Q count
printed_so input editors count P Q has so = record { answers = has.answers; many = has.many; are = has.are; printed = so (lines_of answer_text has.answers) has.printed }

-- a service that a fault ended has begun its answers
begins : {W : Type 0} (outlet : Writers W) (given : Known) (editors : ℕ) (out printed : W) (ended : Served) (fault : Fault) → fault_of ended ≡ Some fault → PrintsTo outlet (Bytes given) editors out printed ended
    → BeginsAnswers given editors (outlet.contents out) (outlet.contents printed) fault
begins outlet given editors out printed ended fault is prints =
    let old = outlet.contents out in
    let new = outlet.contents printed in
    let count = prints.answers.0 in (
      count,
      printed_so (Bytes given) editors count (PrintsUnless (HasBroken outlet printed ended) old new) (PrintsUnless (fault ≡ told.Output) old new) prints.answers.1
          (λ text was. (was.0, λ other. was.1 (λ broken. other (same_fault fault (sym is ∙ broken.0))))),
    )
  where
    same_fault : (f : Fault) → Some f ≡ Some told.Output → f ≡ told.Output
    same_fault f same = cc

no_fault : (fault : Fault) → fault_of served.Printed ≡ Some fault → ⊥
no_fault fault same = cc

-- the end of one that ran
live_end : {D W : Type 0} (model : Ghosts D) (done : Doing D) (path : List ℕ) (given : Known) (editors : ℕ) (words : LandmarkWords) (outlet : Writers W) (out printed : W) (told_old told_new : Known) (disk : D) (back : Option D) (ended : Served) (outcome : Outcome)
    → IsEndOf ended outcome → done (Opened path ToChange disk ∷ closing back) → PrintsTo outlet (Bytes given) editors out printed ended → HasToldSo told_old told_new ended → IfSome (fault_of ended) (λ fault. IsServeEnd model disk words back fault) → IsLeftBy model disk back
    → (ended ≡ served.Printed → AnswersInput (lent model disk back) (Bytes given) editors (outlet.contents out) (outlet.contents printed))
    → IsLiveOutcome model done path given editors words (outlet.contents out) (outlet.contents printed) told_old told_new outcome
live_end model done path given editors words outlet out printed told_old told_new disk back served.Printed outcome is did prints tells ends left list =
    let old = outlet.contents out in
    let new = outlet.contents printed in
    let all = prints.answers in
    let lines = printed_so (Bytes given) editors all.0 (PrintsUnless (HasBroken outlet printed served.Printed) old new) (Appends old new) all.1 (λ text was. was.1 (λ broken. no_fault told.Output broken.0)) in
    subst (λ (o : Outcome). IsLiveOutcome model done path given editors words old new told_old told_new o) (sym is)
    ((refl, (all.0, lines, all.2 refl), record { disk = disk; back = back; did = did; holds = (list refl, left) }), tells)
live_end model done path given editors words outlet out printed told_old told_new disk back (served.Told fault) outcome is did prints tells ends left list =
    subst (λ (o : Outcome). IsLiveOutcome model done path given editors words (outlet.contents out) (outlet.contents printed) told_old told_new o) (sym is)
    (inr (begins outlet given editors out printed (served.Told fault) fault refl prints, record { disk = disk; back = back; did = did; holds = (ends, left) }), tells)
live_end model done path given editors words outlet out printed told_old told_new disk back (served.Untold fault) outcome is did prints tells ends left list =
    subst (λ (o : Outcome). IsLiveOutcome model done path given editors words (outlet.contents out) (outlet.contents printed) told_old told_new o) (sym is)
    (inr (begins outlet given editors out printed (served.Untold fault) fault refl prints, record { disk = disk; back = back; did = did; holds = (ends, left) }))

pub live_so : {D W : Type 0} (model : Ghosts D) (done : Doing D) (path : List ℕ) (given read : Known) (editors : ℕ) (words : LandmarkWords) (outlet : Writers W) (out printed : W) (told_old told_new : Known) (disk : D) (back : Option D) (ended : Served) (outcome : Outcome)
    → read ≡ given → IsEndOf ended outcome → done (Opened path ToChange disk ∷ closing back) → PrintsTo outlet (Bytes read) editors out printed ended → HasToldSo told_old told_new ended → IfSome (fault_of ended) (λ fault. IsServeEnd model disk words back fault) → IsLeftBy model disk back
    → (ended ≡ served.Printed → AnswersInput (lent model disk back) (Bytes read) editors (outlet.contents out) (outlet.contents printed))
    → IsLiveOutcome model done path given editors words (outlet.contents out) (outlet.contents printed) told_old told_new outcome
live_so model done path given read editors words outlet out printed told_old told_new disk back ended outcome same is did prints tells ends left list =
    live_end model done path given editors words outlet out printed told_old told_new disk back ended outcome is did (subst (λ (g : Known). PrintsTo outlet (Bytes g) editors out printed ended) same prints) tells ends left
    (subst (λ (g : Known). ended ≡ served.Printed → AnswersInput (lent model disk back) (Bytes g) editors (outlet.contents out) (outlet.contents printed)) same list)

-- one that didn't begin
pub live_early : {D : Type 0} (model : Ghosts D) (done : Doing D) (path : List ℕ) (given : Known) (editors : ℕ) (words : LandmarkWords) (old told_old told_new : Known) (fault : Fault) (outcome : Outcome)
    → (let r : Result Ended Fault = Err fault in IsToldSo r told_old told_new outcome) → (done [] × (fault ≡ told.Memory)) ⊎ (done (NotHad path ToChange ∷ []) × IsFileFault fault)
    → IsLiveOutcome model done path given editors words old old told_old told_new outcome
live_early model done path given editors words old told_old told_new fault outcome is why =
    told_so (λ ended. PrintsLive model done path given editors ended old old) (λ f. EndsLive model done path given editors words old old f) told_old told_new (Err fault) outcome is tt (inl (refl, why))

nothing_before : (known : Known) → prepend_known [] known ≡ known
nothing_before None = refl
nothing_before (Some xs) = refl

-- a reader in front of another one, from which nothing was read yet, gives what that one does
pub fresh_reader : {T A : Type 0} (remaining : T → Known) (r : BufReader T A) (from : T) → reader_inner r ≡ from → reader_buffer r ≡ [] → reader_capacity r ≡ 8192
    → reader_remaining remaining r ≡ remaining from
fresh_reader {T} remaining r from inner empty capacity =
    ap (λ (n : ℕ). if n == 0 then None else prepend_known (reader_buffer r) (remaining (reader_inner r))) capacity
    ∙ ap (λ (bs : List ℕ). prepend_known bs (remaining (reader_inner r))) empty
    ∙ ap (λ (t : T). prepend_known [] (remaining t)) inner
    ∙ nothing_before (remaining from)

-- ---- a service over a script

-- a fault that is handed on ends it
pub script_ends : {D W : Type 0} (model : Ghosts D) (done : Doing D) (service : Service) (given : Known) (out : Stream W) (r : Result Ended Fault) (fault : Fault)
    → IsErrAnd r (λ e. e ≡ fault) → EndsServe model done service.device.now given service.config.editors service.words (known_before out) (known_after out) fault → (fault ≢ told.Output → out.new ≡ out.old)
    → EndsScript (device_use model done) service given out r
script_ends model done service given out (Ok ended) fault is why kept = absurd is
script_ends model done service given out (Err e) fault is why kept = record {
  printed = tt;
  fault = subst (λ (f : Fault). EndsServe model done service.device.now given service.config.editors service.words (known_before out) (known_after out) f) (sym is) why;
  untouched = subst (λ (f : Fault). f ≢ told.Output → out.new ≡ out.old) (sym is) kept;
}
