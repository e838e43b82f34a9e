-- How runs end, and what a status says of a run.
use Rattle.std.proofs.Common.{◌≡◌, ◌≢◌, ◌≤◌, ◌∙◌, ◌⊎◌, ⊎_elim, inl, inr, ap, arith, refl, sym, ℕ, List, [], Option, Some, None, get_or}
use Rattle.std.specs.Prelude.{codes}
use Rattle.clap.specs.Simple.{subcommand_of}
use Rattle.clap.specs.Walk.{Row, Text}
use Rattle.disk_trait.specs.declared.disk.Disk.{Ghosts}
use Rattle.command_output.specs.Faults.{IsNotUnderstood, status_of}
use Rattle.command_output.specs.Printing.{Known}
use Rattle.command_output.specs.declared.ended.Ended.{Ended}
use Rattle.command_output.specs.declared.ended.Ended.TheVariants.{Done, Refused}
use Rattle.command_output.specs.declared.fault.Fault.{Fault}
use Rattle.command_output.specs.declared.fault.Fault.TheVariants as told
use Rattle.command_line.specs.declared.task.Task.{Task}
use Rattle.command_line.specs.Asked.{IsAskedFor, name_of}
use Rattle.command_line.specs.Grammar.{program}
use Rattle.command_line.specs.declared.task.Task.TheVariants.{Check, Copy, Edit, Format, Migrate, Resume, Route, Serve, Show, Tables}
use Rattle.table_files.specs.Files.{Put}
use Rattle.file_commands.specs.Devices.{Doing}
use Rattle.file_commands.specs.Endings.{MayEndAlone, MayEndTables}
use Rattle.file_commands.specs.Events.{Event}
use Rattle.file_commands.specs.Tasks.{IsService}
use Rattle.file_commands.specs.Printed.{PrintedAlone, PrintedTables}
use Rattle.file_commands.proofs.Places as rest
use Rattle.commands.specs.declared.outcome.Outcome.{Outcome}
use Rattle.commands.specs.declared.outcome.Outcome.TheVariants.{Answered, Told, Untold}
use Rattle.file_commands.specs.Uses.{Stream, device_use, known_after, known_before}
use Rattle.commands.specs.Serves.{AskService, MayEndServing, OfServed, PrintedServing}
use Rattle.commands.specs.Runs.{AnswersWords, AnyPut, IsFaultBy, IsFaultFor, IsOutcome, IsServingFault, MayEnd, PrintedFor, RunsWords, Says, SaysAll, SaysAlone, SaysServing, SaysTables, StopsServing, status_in, streams_of}

-- what isn't understood is no fault of an output
pub never_output : (fault : Fault) → IsNotUnderstood fault → fault ≢ told.Output
never_output told.Usage is = λ same. absurd (cc)
never_output told.Op is = λ same. absurd (cc)
never_output told.Words is = λ same. absurd (cc)
never_output told.Script is = λ same. absurd (cc)
never_output _ is = absurd is

-- the faults of status 2 are those by which words are not understood
is_not_understood : (fault : Fault) → status_of fault ≡ 2 → IsNotUnderstood fault
is_not_understood told.Usage is = tt
is_not_understood told.Op is = tt
is_not_understood told.Words is = tt
is_not_understood told.Script is = tt
is_not_understood _ is = absurd (cc)

-- and no fault of status 1 is one of them
is_understood : (fault : Fault) → status_of fault ≡ 1 → IsNotUnderstood fault → ⊥
is_understood told.Usage is lacks = absurd (cc)
is_understood told.Op is lacks = absurd (cc)
is_understood told.Words is lacks = absurd (cc)
is_understood told.Script is lacks = absurd (cc)
is_understood _ is lacks = lacks

-- a run of status 2 ends so by one of them
pub not_understood : {D : Type 0} (model : Ghosts D) (done : Doing D) (put : List Put → Type 0) (words : List Text) (given old new told_old told_new : Option (List ℕ)) (outcome : Outcome) → IsOutcome model done put words given old new told_old told_new outcome → status_in outcome ≡ 2
    → (fault : Fault) × IsNotUnderstood fault × IsFaultFor model done put words given old new fault × ((outcome ≡ Told fault) ⊎ (outcome ≡ Untold fault))
not_understood model done put words given old new told_old told_new (Answered Done) is two = absurd (cc)
not_understood model done put words given old new told_old told_new (Answered Refused) is two = absurd (cc)
not_understood model done put words given old new told_old told_new (Told fault) is two = (fault, is_not_understood fault two, is.0, inl refl)
not_understood model done put words given old new told_old told_new (Untold fault) is two = (fault, is_not_understood fault two, is, inr refl)

-- no fault has status 0
not_done : (fault : Fault) → status_of fault ≡ 0 → ⊥
not_done told.Usage is = absurd (cc)
not_done _ is = absurd (cc)

-- a run of status 0 has printed the answer
pub answered : {D : Type 0} (model : Ghosts D) (done : Doing D) (put : List Put → Type 0) (words : List Text) (given old new told_old told_new : Option (List ℕ)) (outcome : Outcome) → IsOutcome model done put words given old new told_old told_new outcome → status_in outcome ≡ 0
    → AnswersWords model done put words given Done old new
answered model done put words given old new told_old told_new (Answered Done) is zero = is.0
answered model done put words given old new told_old told_new (Answered Refused) is zero = absurd (cc)
answered model done put words given old new told_old told_new (Told fault) is zero = absurd (not_done fault zero)
answered model done put words given old new told_old told_new (Untold fault) is zero = absurd (not_done fault zero)

-- one of status 1 has printed that the answer is no, or a fault ended it
pub refused : {D : Type 0} (model : Ghosts D) (done : Doing D) (put : List Put → Type 0) (words : List Text) (given old new told_old told_new : Option (List ℕ)) (outcome : Outcome) → IsOutcome model done put words given old new told_old told_new outcome → status_in outcome ≡ 1
    → AnswersWords model done put words given Refused old new ⊎ ((fault : Fault) × ¬ IsNotUnderstood fault × IsFaultFor model done put words given old new fault × ((outcome ≡ Told fault) ⊎ (outcome ≡ Untold fault)))
refused model done put words given old new told_old told_new (Answered Done) is one = absurd (cc)
refused model done put words given old new told_old told_new (Answered Refused) is one = inl is.0
refused model done put words given old new told_old told_new (Told fault) is one = inr (fault, is_understood fault one, is.0, inl refl)
refused model done put words given old new told_old told_new (Untold fault) is one = inr (fault, is_understood fault one, is, inr refl)

-- what the status of a run says
pub says : {D R W E : Type 0} (model : Ghosts D) (done : Doing D) (put : List Put → Type 0) (words : List Text) (script : Stream R) (out : Stream W) (err : Stream E) (outcome : Outcome) (code : ℕ)
    → RunsWords (device_use model done) put words (streams_of script out err) outcome → code ≡ status_in outcome → code ≤ 2 → SaysAll (device_use model done) put words script out code
says model done put words script out err outcome code runs is few =
    let given = known_before script in
    let old = known_before out in
    let new = known_after out in
    let told_old = known_before err in
    let told_new = known_after err in
    record {
      status = few;
      answered = λ zero. answered model done put words given old new told_old told_new outcome runs.outcome (sym is ∙ zero);
      refused = λ one. ⊎_elim inl (λ why. inr (why.0, why.1, why.2, λ batch other. runs.untouched batch why.0 other why.3))
          (refused model done put words given old new told_old told_new outcome runs.outcome (sym is ∙ one));
      not_understood = λ two.
          let why = not_understood model done put words given old new told_old told_new outcome runs.outcome (sym is ∙ two) in
          (λ batch. runs.untouched batch why.0 (never_output why.0 why.1) why.3, (why.0, why.1, why.2));
      unread = runs.unread;
    }

-- ---- of places of which less is known

-- what is said of a device that a service had
served_too : {D : Type 0} (done did : Doing D) (path : List ℕ) (P : D → Option D → Type 0) → ((events : List (Event D)) → done events → did events) → OfServed done path P → OfServed did path P
served_too done did path P so is = record { disk = is.disk; back = is.back; did = so _ is.did; holds = is.holds }

printed_too : {D : Type 0} (model : Ghosts D) (done did : Doing D) (put also : List Put → Type 0) (task : Task) (given : Known) (ended : Ended) (old new : Known) → ((events : List (Event D)) → done events → did events) → ((puts : List Put) → put puts → also puts)
    → PrintedFor model done put task given ended old new → PrintedFor model did also task given ended old new
printed_too model done did put also (Serve device editors forwarders places None words) given ended old new so weaker is = (is.0, is.1, is.2, served_too done did device.now _ so is.3)
printed_too model done did put also (Serve device editors forwarders places (Some rounds) words) given ended old new so weaker is = (is.0, is.1, served_too done did device.now _ so is.2)
printed_too model done did put also task given ended old new so weaker is = rest.printed_too model done did put also task ended old new so weaker is

may_too : {D : Type 0} (model : Ghosts D) (done did : Doing D) (put also : List Put → Type 0) (task : Task) (given old new : Known) (fault : Fault) → ((events : List (Event D)) → done events → did events) → ((puts : List Put) → put puts → also puts)
    → MayEnd model done put task given old new fault → MayEnd model did also task given old new fault
may_too model done did put also (Serve device editors forwarders places None words) given old new fault so weaker (inl none) = inl (so [] none.0, none.1)
may_too model done did put also (Serve device editors forwarders places None words) given old new fault so weaker (inr (inl early)) = inr (inl (so _ early.0, early.1))
may_too model done did put also (Serve device editors forwarders places None words) given old new fault so weaker (inr (inr is)) = inr (inr (is.0, served_too done did device.now _ so is.1))
may_too model done did put also (Serve device editors forwarders places (Some rounds) words) given old new fault so weaker (inl (same, inl none)) = inl (same, inl (so [] none.0, none.1))
may_too model done did put also (Serve device editors forwarders places (Some rounds) words) given old new fault so weaker (inl (same, inr early)) = inl (same, inr (so _ early.0, early.1))
may_too model done did put also (Serve device editors forwarders places (Some rounds) words) given old new fault so weaker (inr is) = inr (is.0, served_too done did device.now _ so is.1)
may_too model done did put also task given old new fault so weaker is = rest.may_too model done did put also task fault so weaker is

words_too : {D : Type 0} (model : Ghosts D) (done did : Doing D) (put also : List Put → Type 0) (words : List Text) (given : Known) (ended : Ended) (old new : Known) → ((events : List (Event D)) → done events → did events) → ((puts : List Put) → put puts → also puts)
    → AnswersWords model done put words given ended old new → AnswersWords model did also words given ended old new
words_too model done did put also words given ended old new so weaker is = (is.0, is.1, printed_too model done did put also is.0 given ended old new so weaker is.2)

fault_too : {D : Type 0} (model : Ghosts D) (done did : Doing D) (put also : List Put → Type 0) (words : List Text) (given old new : Known) (fault : Fault) → ((events : List (Event D)) → done events → did events) → ((puts : List Put) → put puts → also puts)
    → IsFaultFor model done put words given old new fault → IsFaultFor model did also words given old new fault
fault_too model done did put also words given old new fault so weaker (inl refused) = inl (so [] refused.0, refused.1)
fault_too model done did put also words given old new fault so weaker (inr is) = inr (is.0, is.1, may_too model done did put also is.0 given old new fault so weaker is.2)

-- what a status says of places of which all is known it says of those of which less is
pub says_too : {D R W : Type 0} (model : Ghosts D) (done did : Doing D) (put also : List Put → Type 0) (words : List Text) (script : Stream R) (out : Stream W) (code : ℕ)
    → ((events : List (Event D)) → done events → did events) → ((puts : List Put) → put puts → also puts) → SaysAll (device_use model done) put words script out code → SaysAll (device_use model did) also words script out code
says_too model done did put also words script out code so weaker says =
    let given = known_before script in
    let before = known_before out in
    let after = known_after out in
    record {
      status = says.status;
      answered = λ zero. words_too model done did put also words given Done before after so weaker (says.answered zero);
      refused = λ one. ⊎_elim (λ is. inl (words_too model done did put also words given Refused before after so weaker is))
          (λ why. inr (why.0, why.1, fault_too model done did put also words given before after why.0 so weaker why.2, why.3)) (says.refused one);
      not_understood = λ two.
          let why = says.not_understood two in
          (why.0, (why.1.0, why.1.1, fault_too model done did put also words given before after why.1.0 so weaker why.1.2));
      unread = says.unread;
    }

-- ---- of one kind of tasks what is said of all

-- what holds of each task's answers and faults, a status says
says_so : {D R W : Type 0} (done : Doing D) (words : List Text) (Answers Others : Task → Known → Ended → Known → Known → Type 0) (MayFail May : Task → Known → Known → Known → Fault → Type 0) (script : Stream R) (out : Stream W) (code : ℕ)
    → ((task : Task) (given : Known) (ended : Ended) (old new : Known) → Answers task given ended old new → Others task given ended old new) → ((task : Task) (given old new : Known) (fault : Fault) → MayFail task given old new fault → May task given old new fault)
    → Says done words Answers MayFail script out code → Says done words Others May script out code
says_so done words Answers Others MayFail May script out code answers fails says =
    let given = known_before script in
    let before = known_before out in
    let after = known_after out in
    let by : (fault : Fault) → IsFaultBy done words (λ task why. MayFail task given before after why) fault → IsFaultBy done words (λ task why. May task given before after why) fault = λ fault is.
    ⊎_elim (λ refused. inl refused) (λ may. inr (may.0, may.1, fails may.0 given before after fault may.2)) is in
    record {
      status = says.status;
      answered = λ zero. (let is = says.answered zero in (is.0, is.1, answers is.0 given Done before after is.2));
      refused = λ one. ⊎_elim (λ is. inl (is.0, is.1, answers is.0 given Refused before after is.2)) (λ why. inr (why.0, why.1, by why.0 why.2, why.3)) (says.refused one);
      not_understood = λ two. (let why = says.not_understood two in (why.0, (why.1.0, why.1.1, by why.1.0 why.1.2)));
      unread = says.unread;
    }

printed_alone : {D : Type 0} (model : Ghosts D) (done : Doing D) (put : List Put → Type 0) (task : Task) (given : Known) (ended : Ended) (old new : Known) → PrintedFor model done put task given ended old new → PrintedAlone model done task ended old new
printed_alone model done put (Serve device editors forwarders places live words) given ended old new is = tt
printed_alone model done put task given ended old new is = rest.printed_alone model done put task ended old new is

ends_alone : {D : Type 0} (model : Ghosts D) (done : Doing D) (put : List Put → Type 0) (task : Task) (given old new : Known) (fault : Fault) → MayEnd model done put task given old new fault → MayEndAlone model done task fault
ends_alone model done put (Serve device editors forwarders places live words) given old new fault is = tt
ends_alone model done put task given old new fault is = rest.ends_alone model done put task fault is

printed_tables : {D : Type 0} (model : Ghosts D) (done : Doing D) (put : List Put → Type 0) (task : Task) (given : Known) (ended : Ended) (old new : Known) → PrintedFor model done put task given ended old new → PrintedTables model done put task ended old new
printed_tables model done put (Serve device editors forwarders places live words) given ended old new is = tt
printed_tables model done put task given ended old new is = rest.printed_tables model done put task ended old new is

ends_tables : {D : Type 0} (model : Ghosts D) (done : Doing D) (put : List Put → Type 0) (task : Task) (given old new : Known) (fault : Fault) → MayEnd model done put task given old new fault → MayEndTables model done put task fault
ends_tables model done put (Serve device editors forwarders places live words) given old new fault is = tt
ends_tables model done put task given old new fault is = rest.ends_tables model done put task fault is

printed_serving : {D : Type 0} (model : Ghosts D) (done : Doing D) (put : List Put → Type 0) (task : Task) (given : Known) (ended : Ended) (old new : Known) → PrintedFor model done put task given ended old new → PrintedServing model done task given ended old new
printed_serving model done put (Serve device editors forwarders places live words) given ended old new is = is
printed_serving model done put _ given ended old new is = tt

ends_serving : {D : Type 0} (model : Ghosts D) (done : Doing D) (put : List Put → Type 0) (task : Task) (given old new : Known) (fault : Fault) → MayEnd model done put task given old new fault → MayEndServing model done task given old new fault
ends_serving model done put (Serve device editors forwarders places live words) given old new fault is = is
ends_serving model done put _ given old new fault is = tt

-- where words ask for a service, a fault that ends what they ask for is one of it
fails_serving : {D : Type 0} (model : Ghosts D) (done : Doing D) (put : List Put → Type 0) (words : List Text) (given old new : Known) (fault : Fault) → AskService words → IsFaultFor model done put words given old new fault → IsServingFault model done words given old new fault
fails_serving model done put words given old new fault asks (inl refused) = inl (refused.0, refused.1.3 asks.0 asks.1)
fails_serving model done put words given old new fault asks (inr may) = inr (may.0, may.1, ends_serving model done put may.0 given old new fault may.2)

-- a task of the name of a service is one
serves_by_name : (task : Task) → name_of task ≡ codes "serve" → IsService task
serves_by_name (Format device nodes is_new) same = (let first : 102 ≡ 115 = ap (λ (n : Text). get_or n 0 0) same in omega (arith, first))
serves_by_name (Show device) same = (let second : 104 ≡ 101 = ap (λ (n : Text). get_or n 1 0) same in omega (arith, second))
serves_by_name (Edit device session ticket change) same = (let first : 101 ≡ 115 = ap (λ (n : Text). get_or n 0 0) same in omega (arith, first))
serves_by_name (Resume device session) same = (let first : 114 ≡ 115 = ap (λ (n : Text). get_or n 0 0) same in omega (arith, first))
serves_by_name (Route device pairs words) same = (let first : 114 ≡ 115 = ap (λ (n : Text). get_or n 0 0) same in omega (arith, first))
serves_by_name (Check device words) same = (let first : 99 ≡ 115 = ap (λ (n : Text). get_or n 0 0) same in omega (arith, first))
serves_by_name (Migrate old new) same = (let first : 109 ≡ 115 = ap (λ (n : Text). get_or n 0 0) same in omega (arith, first))
serves_by_name (Copy old new) same = (let first : 99 ≡ 115 = ap (λ (n : Text). get_or n 0 0) same in omega (arith, first))
serves_by_name (Serve device editors forwarders places live words) same = tt
serves_by_name (Tables device folder nodes words) same = (let first : 116 ≡ 115 = ap (λ (n : Text). get_or n 0 0) same in omega (arith, first))

name_of_service : (task : Task) → IsService task → name_of task ≡ codes "serve"
name_of_service (Serve device editors forwarders places live words) is = refl
name_of_service _ is = absurd is

one_name : (o : Option (Text × List Row)) (p q : Text × List Row) → o ≡ Some p → o ≡ Some q → p.0 ≡ q.0
one_name o p q here there = (let same : p ≡ q = cc in ap (λ (x : Text × List Row). x.0) same)

-- words that ask for a service ask for nothing else
serve_alone : (words : List Text) (task : Task) → AskService words → IsAskedFor words task → IsService task
serve_alone words task asks is =
    let names = one_name (subcommand_of program words) (is.0, is.1) (asks.1.0, asks.1.1) is.2.1 asks.1.2.1 in
    serves_by_name task (sym is.3.0 ∙ names ∙ asks.1.3.0 ∙ name_of_service asks.0 asks.2)

-- and a service's answer is never no
never_refused : {D : Type 0} (model : Ghosts D) (done : Doing D) (task : Task) (given old new : Known) → IsService task → PrintedServing model done task given Refused old new → ⊥
never_refused model done (Serve device editors forwarders places None words) given old new is printed = (let no : Refused ≡ Done = printed.0 in absurd (cc))
never_refused model done (Serve device editors forwarders places (Some rounds) words) given old new is printed = (let no : Refused ≡ Done = printed.0 in absurd (cc))
never_refused model done _ given old new is printed = is

says_serving : {D R W : Type 0} (model : Ghosts D) (done : Doing D) (put : List Put → Type 0) (words : List Text) (script : Stream R) (out : Stream W) (code : ℕ) → SaysAll (device_use model done) put words script out code
    → SaysServing (device_use model done) words script out code × StopsServing (device_use model done) words script out code
says_serving model done put words script out code says =
    let given = known_before script in
    let before = known_before out in
    let after = known_after out in (
      (λ zero. (let is = says.answered zero in (is.0, is.1, printed_serving model done put is.0 given Done before after is.2))),
      record {
        refused = λ one asks. ⊎_elim (λ is. absurd (never_refused model done is.0 given before after (serve_alone words is.0 asks is.1) (printed_serving model done put is.0 given Refused before after is.2)))
            (λ why. (why.0, why.1, fails_serving model done put words given before after why.0 asks why.2, why.3)) (says.refused one);
        not_understood = λ two asks. (let why = says.not_understood two in (why.1.0, why.1.1, fails_serving model done put words given before after why.1.0 asks why.1.2));
      },
    )

-- a status of any task, in four; of what was put nothing is said
pub says_parts : {D R W : Type 0} (model : Ghosts D) (done : Doing D) (put : List Put → Type 0) (words : List Text) (script : Stream R) (out : Stream W) (code : ℕ) → SaysAll (device_use model done) put words script out code
    → SaysAlone (device_use model done) words script out code
    × (SaysTables (device_use model done) AnyPut words script out code
    × (SaysServing (device_use model done) words script out code × StopsServing (device_use model done) words script out code))
says_parts model done put words script out code known =
    let all = says_too model done done put AnyPut words script out code (λ events is. is) (λ puts is. tt) known in
    let full = PrintedFor model done AnyPut in
    let may = MayEnd model done AnyPut in (
      says_so done words full (λ task given. PrintedAlone model done task) may (λ task given old new. MayEndAlone model done task) script out code (printed_alone model done AnyPut) (ends_alone model done AnyPut) all,
      (
        says_so done words full (λ task given. PrintedTables model done AnyPut task) may (λ task given old new. MayEndTables model done AnyPut task) script out code (printed_tables model done AnyPut) (ends_tables model done AnyPut) all,
        says_serving model done AnyPut words script out code all,
      ),
    )
