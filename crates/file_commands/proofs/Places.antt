-- What is said of places of which all is known, and of all tasks, said of places of which less is known, and of one kind of tasks.
use Rattle.std.proofs.Common.{inl, inr, ⊎_elim, ℕ, List, []}
use Rattle.disk_trait.specs.declared.disk.Disk.{Ghosts}
use Rattle.disk_trait.specs.Disk.{DiskView}
use Rattle.layout_2.specs.State.{State}
use Rattle.schemes.specs.declared.parts.Parts.{Parts}
use Rattle.command_output.specs.Printing.{Known}
use Rattle.command_output.specs.declared.ended.Ended.{Ended}
use Rattle.command_output.specs.declared.fault.Fault.{Fault}
use Rattle.command_line.specs.declared.task.Task.{Task}
use Rattle.command_line.specs.declared.task.Task.TheVariants.{Migrate, Copy, Serve, Tables}
use Rattle.table_files.specs.Files.{Put}
use Rattle.table_files.specs.Tables.{AnswersTables, EndsPutting}
use Rattle.file_commands.specs.declared.devices.Access.{Access}
use Rattle.file_commands.specs.declared.on_device.Transfer.{Transfer}
use Rattle.file_commands.specs.declared.on_device.Transfer.TheVariants as how
use Rattle.file_commands.specs.Devices.{Doing, EndsBy, IsAnswerOf, OfOpened, OfTwo}
use Rattle.file_commands.specs.Events.{Event}
use Rattle.file_commands.specs.Endings.{EndsOpened, EndsTransfer, Leaves, MayEndAlone, MayEndAtRest, MayEndTables, access_of, device_of}
use Rattle.file_commands.specs.Printed.{PrintedAlone, PrintedAtRest, PrintedTables, PrintsOpened}

-- ---- of places of which less is known

answers_too : (p : Parts) (generation : ℕ) (folder named : List ℕ) (put also : List Put → Type 0) (ended : Ended) (old new : Known) → ((puts : List Put) → put puts → also puts) → AnswersTables p generation folder named put ended old new
    → AnswersTables p generation folder named also ended old new
answers_too p generation folder named put also ended old new weaker (inl all) =
    inl (record { there = all.there; ends = all.ends; order = all.order; files = weaker _ all.files; printed = all.printed })
answers_too p generation folder named put also ended old new weaker (inr lacks) =
    inr (record { lacks = lacks.lacks; ends = lacks.ends; nothing = weaker [] lacks.nothing; printed = lacks.printed })

answer_too : (disk : DiskView) (P Q : State → Type 0) → ((state : State) → P state → Q state) → IsAnswerOf disk P → IsAnswerOf disk Q
answer_too disk P Q weaker is = record { of_one = (is.of_one.0, weaker is.of_one.0 is.of_one.1); of_this = λ keeps state stands. weaker state (is.of_this keeps state stands) }

opened_too : (put also : List Put → Type 0) (task : Task) (disk left : DiskView) (ended : Ended) (old new : Known) → ((puts : List Put) → put puts → also puts) → PrintsOpened put task disk left ended old new → PrintsOpened also task disk left ended old new
opened_too put also (Tables device folder nodes words) disk left ended old new weaker is =
    answer_too disk _ _ (λ state found. (found.0, found.1, answers_too found.0 state.count folder.now nodes.items put also ended old new weaker found.2)) is
opened_too put also _ disk left ended old new weaker is = is

putting_too : (p : Parts) (folder named : List ℕ) (put also : List Put → Type 0) (fault : Fault) → ((puts : List Put) → put puts → also puts) → EndsPutting p folder named put fault → EndsPutting p folder named also fault
putting_too p folder named put also fault weaker (inl some) = inl (record { named = some.named; count = some.count; files = weaker _ some.files; internal = some.internal; output = some.output })
putting_too p folder named put also fault weaker (inr lacks) = inr (lacks.0, weaker [] lacks.1, lacks.2)

fails_too : (put also : List Put → Type 0) (task : Task) (disk left : DiskView) (fault : Fault) → ((puts : List Put) → put puts → also puts) → EndsOpened put task disk left fault → EndsOpened also task disk left fault
fails_too put also (Tables device folder nodes words) disk left fault weaker (inl early) = inl (weaker [] early.0, early.1)
fails_too put also (Tables device folder nodes words) disk left fault weaker (inr is) =
    inr (answer_too disk _ _ (λ state found. (found.0, found.1, putting_too found.0 folder.now nodes.items put also fault weaker found.2)) is)
fails_too put also _ disk left fault weaker is = is

-- what is said of one device
one_too : {D : Type 0} (model : Ghosts D) (done did : Doing D) (path : List ℕ) (access : Access) (P Q : DiskView → DiskView → Type 0) → ((events : List (Event D)) → done events → did events) → ((disk left : DiskView) → P disk left → Q disk left)
    → OfOpened model done path access P → OfOpened model did path access Q
one_too model done did path access P Q so weaker is = record { disk = is.disk; left = is.left; did = so _ is.did; ran = is.ran; holds = weaker (model.view is.disk) (model.view is.left) is.holds }

-- of two
two_too : {D : Type 0} (model : Ghosts D) (done did : Doing D) (old new : List ℕ) (P : DiskView → DiskView → DiskView → DiskView → Type 0) → ((events : List (Event D)) → done events → did events) → OfTwo model done old new P → OfTwo model did old new P
two_too model done did old new P so is = record { from = is.from; to = is.to; from_left = is.from_left; to_left = is.to_left; did = so _ is.did; ran = is.ran; holds = is.holds }

alone_too : {D : Type 0} (model : Ghosts D) (done did : Doing D) (put also : List Put → Type 0) (task : Task) (ended : Ended) (old new : Known) → ((events : List (Event D)) → done events → did events) → ((puts : List Put) → put puts → also puts)
    → OfOpened model done (device_of task) (access_of task) (λ disk left. Leaves task disk left × PrintsOpened put task disk left ended old new)
    → OfOpened model did (device_of task) (access_of task) (λ disk left. Leaves task disk left × PrintsOpened also task disk left ended old new)
alone_too model done did put also task ended old new so weaker is =
    one_too model done did (device_of task) (access_of task) _ _ so (λ disk left both. (both.0, opened_too put also task disk left ended old new weaker both.1)) is

pub printed_too : {D : Type 0} (model : Ghosts D) (done did : Doing D) (put also : List Put → Type 0) (task : Task) (ended : Ended) (old new : Known) → ((events : List (Event D)) → done events → did events) → ((puts : List Put) → put puts → also puts)
    → PrintedAtRest model done put task ended old new → PrintedAtRest model did also task ended old new
printed_too model done did put also (Migrate device made) ended old new so weaker is = two_too model done did device.now made.now _ so is
printed_too model done did put also (Copy device made) ended old new so weaker is = two_too model done did device.now made.now _ so is
printed_too model done did put also (Serve device editors forwarders places live words) ended old new so weaker is = absurd is
printed_too model done did put also task ended old new so weaker is = alone_too model done did put also task ended old new so weaker is

ends_too : {D : Type 0} (model : Ghosts D) (done did : Doing D) (put also : List Put → Type 0) (task : Task) (fault : Fault) → ((events : List (Event D)) → done events → did events) → ((puts : List Put) → put puts → also puts)
    → EndsBy model done put (device_of task) (access_of task) (λ disk left why. Leaves task disk left × EndsOpened put task disk left why) fault
    → EndsBy model did also (device_of task) (access_of task) (λ disk left why. Leaves task disk left × EndsOpened also task disk left why) fault
ends_too model done did put also task fault so weaker (inl early) = inl (so _ early.0, weaker [] early.1, early.2)
ends_too model done did put also task fault so weaker (inr is) =
    inr (one_too model done did (device_of task) (access_of task) _ _ so (λ disk left both. (both.0, fails_too put also task disk left fault weaker both.1)) is)

transfer_too : {D : Type 0} (model : Ghosts D) (done did : Doing D) (transfer : Transfer) (old new : List ℕ) (fault : Fault) → ((events : List (Event D)) → done events → did events) → EndsTransfer model done transfer old new fault → EndsTransfer model did transfer old new fault
transfer_too model done did transfer old new fault so (inl (inl first, why)) = inl (inl (so _ first), why)
transfer_too model done did transfer old new fault so (inl (inr first, why)) = inl (inr (first.0, so _ first.1), why)
transfer_too model done did transfer old new fault so (inr is) = inr (two_too model done did old new _ so is)

pub may_too : {D : Type 0} (model : Ghosts D) (done did : Doing D) (put also : List Put → Type 0) (task : Task) (fault : Fault) → ((events : List (Event D)) → done events → did events) → ((puts : List Put) → put puts → also puts)
    → MayEndAtRest model done put task fault → MayEndAtRest model did also task fault
may_too model done did put also (Migrate device made) fault so weaker is = transfer_too model done did how.Migration device.now made.now fault so is
may_too model done did put also (Copy device made) fault so weaker is = transfer_too model done did how.Copy device.now made.now fault so is
may_too model done did put also (Serve device editors forwarders places live words) fault so weaker is = absurd is
may_too model done did put also task fault so weaker is = ends_too model done did put also task fault so weaker is

-- ---- of one kind of tasks what is said of all

pub printed_alone : {D : Type 0} (model : Ghosts D) (done : Doing D) (put : List Put → Type 0) (task : Task) (ended : Ended) (old new : Known) → PrintedAtRest model done put task ended old new → PrintedAlone model done task ended old new
printed_alone model done put (Serve device editors forwarders places live words) ended old new is = tt
printed_alone model done put (Tables device folder nodes words) ended old new is = tt
printed_alone model done put _ ended old new is = is

pub ends_alone : {D : Type 0} (model : Ghosts D) (done : Doing D) (put : List Put → Type 0) (task : Task) (fault : Fault) → MayEndAtRest model done put task fault → MayEndAlone model done task fault
ends_alone model done put (Migrate device made) fault is = is
ends_alone model done put (Copy device made) fault is = is
ends_alone model done put (Serve device editors forwarders places live words) fault is = tt
ends_alone model done put (Tables device folder nodes words) fault is = tt
ends_alone model done put _ fault is = ⊎_elim (λ early. inl (early.0, tt, early.2)) (λ later. inr later) is

pub printed_tables : {D : Type 0} (model : Ghosts D) (done : Doing D) (put : List Put → Type 0) (task : Task) (ended : Ended) (old new : Known) → PrintedAtRest model done put task ended old new → PrintedTables model done put task ended old new
printed_tables model done put (Tables device folder nodes words) ended old new is = is
printed_tables model done put _ ended old new is = tt

pub ends_tables : {D : Type 0} (model : Ghosts D) (done : Doing D) (put : List Put → Type 0) (task : Task) (fault : Fault) → MayEndAtRest model done put task fault → MayEndTables model done put task fault
ends_tables model done put (Tables device folder nodes words) fault is = is
ends_tables model done put _ fault is = tt
