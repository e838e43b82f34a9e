-- What was answered of a device, printed.
use Rattle.std.proofs.Common.{◌≡◌, ◌≢◌, ◌∙◌, ◌<◌, ◌⊎◌, ap, inl, inr, refl, subst, sym, ⊎_elim, ℕ, List, [], ◌∷◌, ◌++◌, Option, Result, Ok, Err, IfErr, IfOk, IsErrAnd, IsErrOf, IsTrue, OnOk, length}
use Rattle.std.proofs.lemmas.List.{append-nil, append_assoc}
use Rattle.std.proofs.lemmas.List.Elements.{All-cons, All-nil}
use Rattle.std.proofs.lemmas.Result.{IfErr-at_err, IfErr-weaker, IfOk-weaker}
use Rattle.std.specs.Prelude.{IsOkAnd}
use Rattle.std.specs.Global.{Vec}
use Rattle.std.specs.Io.KnownBytes.{Appends}
use Rattle.disk_trait.specs.declared.disk.Disk.{Ghosts}
use Rattle.disk_trait.specs.Disk.{DiskView, IsSameDevice, OnlyRead}
use Rattle.graph_edits.specs.declared.edits.Op.{Op}
use Rattle.requests.specs.Tickets.{last_of}
use Rattle.layout_2.specs.Layout.{device_len}
use Rattle.layout_2.specs.State.{State}
use Rattle.layout_2.specs.Standing.{KeepsThrough}
use Rattle.generations.specs.declared.posting.Verdict.{Verdict}
use Rattle.value_syntax.specs.declared.words.LandmarkWords.{LandmarkWords}
use Rattle.scheme_builds.specs.declared.queries.Checked.{Checked}
use Rattle.scheme_builds.specs.declared.queries.Route.{Route}
use Rattle.command_output.specs.Printing.{Known}
use Rattle.command_output.specs.declared.ended.Ended.{Ended}
use Rattle.command_output.specs.declared.ended.Ended.TheVariants.{Done}
use Rattle.command_output.specs.declared.fault.Fault.{Fault}
use Rattle.command_output.specs.declared.fault.Fault.TheVariants as told
use Rattle.command_output.specs.Lines.{line, listing_text, ticket_text}
use Rattle.device_commands.specs.Answer.{IsNew, state_after, verdict_of}
use Rattle.device_commands.specs.Edits.{IsPastLimits}
use Rattle.device_commands.specs.Moves.{IsMoveFault}
use Rattle.device_commands.specs.Openings.{IsEditFault, IsReading, IsUnwrittenFault, OfContent, TellsOf}
use Rattle.std.specs.Borrow.{Bor}
use Rattle.command_line.specs.declared.task.Task.{Task}
use Rattle.command_line.specs.declared.task.Task.TheVariants.{Format, Show, Edit, Resume, Route as RouteTask, Check, Migrate, Copy, Serve, Tables}
use Rattle.table_files.specs.Files.{Put}
use Rattle.file_commands.specs.declared.devices.Access.{Access}
use Rattle.file_commands.specs.declared.devices.Access.TheVariants.{New, ToRead}
use Rattle.file_commands.specs.declared.copying.Copied.{Copied}
use Rattle.file_commands.specs.declared.on_device.Transfer.{Transfer}
use Rattle.file_commands.specs.declared.on_device.Transfer.TheVariants as how
use Rattle.file_commands.specs.Copies.{HasCopied, IsTotalOf, copied_text}
use Rattle.file_commands.specs.Devices.{Doing, Ending, IsAccessFault, IsAnswerOf, IsFileFault, OfFirst, Printing}
use Rattle.file_commands.specs.Events.{Closed, Event, HasDone, IsOf, NotHad, Opened, Opening}
use Rattle.file_commands.specs.Endings.{IsAskingEnd, IsCheckDeviceFault, IsEditEnd, IsReadingEnd, IsRouteDeviceFault, IsRouteEnd, IsTransferEnd, OrOutput, access_of, device_of}
use Rattle.file_commands.specs.Queries.{AnswersOf, AreRoutesIn, IsCheckIn, LacksNodeOf}
use Rattle.file_commands.specs.Printed.{PrintsCheck, PrintsCopied, PrintsListing, PrintsRoutes, PrintsTicket, PrintsVerdict, ended_by, verdict_text}
use Rattle.file_commands.specs.Runs.{EndsAfter, EndsAt, EndsOn, EndsTask, EndsTaskOn, EndsTransferAt, EndsTransferOn}
use Rattle.file_commands.specs.SchemeAnswers.{AreRoutesOf, checks_text, ended_after, ended_at, routes_text}
use Rattle.file_commands.specs.Tasks.{IsService}
use Rattle.file_commands.specs.Uses.{DeviceUse, Stream, Views, device_use, known_after, known_before, stream, views}

-- ---- what was printed

-- of a listing
pub listing_printed : {X : Type 0} (bytes : X → List ℕ) (r : Result Ended Fault) (answer : Result X Fault) (disk left : DiskView) (old new : Known)
    → IfOk answer (λ text. (state : State) × (bytes text ≡ listing_text state.count state.graph))
    → OfContent disk (λ state. IfOk answer (λ text. bytes text ≡ listing_text state.count state.graph))
    → IfOk r (λ ended. IsOkAnd answer (λ text. (ended ≡ Done) × Appends old new (bytes text))) → IfOk r (λ ended. PrintsListing disk left ended old new)
listing_printed bytes (Ok ended) (Ok text) disk left old new one this printed = record {
  of_one = (one.0, (printed.0, subst (λ (shown : List ℕ). Appends old new shown) one.1 printed.1));
  of_this = λ keeps state stands. (printed.0, subst (λ (shown : List ℕ). Appends old new shown) (this keeps state stands) printed.1);
}
listing_printed bytes (Ok ended) (Err fault) disk left old new one this printed = absurd printed
listing_printed bytes (Err fault) answer disk left old new one this printed = tt

-- of a ticket
pub ticket_printed : (r : Result Ended Fault) (answer : Result ℕ Fault) (session : ℕ) (disk left : DiskView) (old new : Known)
    → IfOk answer (λ ticket. (state : State) × (ticket ≡ last_of state.tickets session))
    → OfContent disk (λ state. IfOk answer (λ ticket. ticket ≡ last_of state.tickets session))
    → IfOk r (λ ended. IsOkAnd answer (λ ticket. (ended ≡ Done) × Appends old new (line (ticket_text session ticket)))) → IfOk r (λ ended. PrintsTicket session disk left ended old new)
ticket_printed (Ok ended) (Ok ticket) session disk left old new one this printed = record {
  of_one = (one.0, (printed.0, subst (λ (t : ℕ). Appends old new (line (ticket_text session t))) one.1 printed.1));
  of_this = λ keeps state stands. (printed.0, subst (λ (t : ℕ). Appends old new (line (ticket_text session t))) (this keeps state stands) printed.1);
}
ticket_printed (Ok ended) (Err fault) session disk left old new one this printed = absurd printed
ticket_printed (Err fault) answer session disk left old new one this printed = tt

-- of a verdict
pub verdict_printed : (r : Result Ended Fault) (answer : Result Verdict Fault) (session : ℕ) (named : Option ℕ) (change : List Op) (disk left : DiskView) (old new : Known)
    → IfOk answer (λ verdict. (state : State) × IsNew state session named × (verdict ≡ verdict_of state change))
    → OfContent disk (λ state. OnOk answer (IsNew state session named))
    → OfContent disk (λ state. IfOk answer (λ verdict. verdict ≡ verdict_of state change))
    → OfContent disk (λ state. OnOk answer (KeepsThrough left (state_after state session named change)))
    → IfOk r (λ ended. IsOkAnd answer (λ verdict. (ended ≡ ended_by verdict) × Appends old new (line (verdict_text verdict)))) → IfOk r (λ ended. PrintsVerdict session named change disk left ended old new)
verdict_printed (Ok ended) (Ok verdict) session named change disk left old new one fresh this keeps_after printed = (
  record {
    of_one = (one.0, (one.1, printed.0 ∙ ap ended_by one.2, subst (λ (v : Verdict). Appends old new (line (verdict_text v))) one.2 printed.1));
    of_this = λ keeps state stands.
        (fresh keeps state stands, printed.0 ∙ ap ended_by (this keeps state stands), subst (λ (v : Verdict). Appends old new (line (verdict_text v))) (this keeps state stands) printed.1);
  },
  keeps_after,
)
verdict_printed (Ok ended) (Err fault) session named change disk left old new one fresh this keeps_after printed = absurd printed
verdict_printed (Err fault) answer session named change disk left old new one fresh this keeps_after printed = tt

-- of a copy
pub copied_printed : (r : Result Ended Fault) (answer : Result Copied Fault) (from to left : DiskView) (old new : Known)
    → IfOk answer (λ copied. (state : State) × IsTotalOf state copied)
    → (IsTrue from.keeps_model → IsTrue to.keeps_model → IfOk answer (λ copied. HasCopied copied from.content left))
    → IfOk r (λ ended. IsOkAnd answer (λ copied. (ended ≡ Done) × Appends old new (line (copied_text copied.count copied.edges)))) → IfOk r (λ ended. PrintsCopied from to left ended old new)
copied_printed (Ok ended) (Ok copied) from to left old new one holds printed = (printed.0, copied, one, printed.1, holds)
copied_printed (Ok ended) (Err fault) from to left old new one holds printed = absurd printed
copied_printed (Err fault) answer from to left old new one holds printed = tt

-- of an answer about a graph
found_printed : {T U : Type 0} (view : T → U) (asked : LandmarkWords) (IsAnswer : LandmarkWords → State → U → Type 0) (Named : LandmarkWords → Fault → Type 0) (ended_of : U → Ended) (text_of : ℕ → U → List ℕ) (r : Result Ended Fault) (answer : Result (ℕ × T) Fault) (disk left : DiskView) (old new : Known)
    → AnswersOf asked (λ words state found. IsAnswer words state (view found)) Named disk left answer
    → IfOk r (λ ended. IsOkAnd answer (λ found. (ended ≡ ended_of (view found.1)) × Appends old new (text_of found.0 (view found.1))))
    → IfOk r (λ ended. IsAnswerOf disk (λ state. (x : U) × IsAnswer asked state x × (ended ≡ ended_of x) × Appends old new (text_of state.count x)))
found_printed view asked IsAnswer Named ended_of text_of (Ok ended) (Ok found) disk left old new by printed = record {
  of_one =
      let one = by.of_one in
      (one.0, (view found.1, one.2, printed.0, subst (λ (n : ℕ). Appends old new (text_of n (view found.1))) one.1 printed.1));
  of_this = λ keeps state stands.
      (view found.1, by.answer keeps state stands, printed.0, subst (λ (n : ℕ). Appends old new (text_of n (view found.1))) (by.generation keeps state stands) printed.1);
}
found_printed view asked IsAnswer Named ended_of text_of (Ok ended) (Err fault) disk left old new by printed = absurd printed
found_printed view asked IsAnswer Named ended_of text_of (Err fault) answer disk left old new by printed = tt

-- as of routes
pub routes_printed : (r : Result Ended Fault) (answer : Result (ℕ × Vec Route) Fault) (pairs : List (ℕ × ℕ)) (asked : LandmarkWords) (disk left : DiskView) (old new : Known)
    → AnswersOf asked (AreRoutesIn pairs) IsRouteDeviceFault disk left answer → IfOk r (λ ended. IsOkAnd answer (λ found. (ended ≡ ended_after found.1.items) × Appends old new (routes_text found.0 found.1.items)))
    → IfOk r (λ ended. PrintsRoutes pairs asked disk left ended old new)
routes_printed r answer pairs asked disk left old new by printed =
    found_printed (λ (routes : Vec Route). routes.items) asked (λ words state routes. AreRoutesOf state.graph words pairs routes) IsRouteDeviceFault ended_after routes_text r answer disk left old new by printed

-- and of a check
pub check_printed : (r : Result Ended Fault) (answer : Result (ℕ × Checked) Fault) (asked : LandmarkWords) (disk left : DiskView) (old new : Known)
    → AnswersOf asked IsCheckIn IsCheckDeviceFault disk left answer
    → IfOk r (λ ended. IsOkAnd answer (λ found. (ended ≡ ended_at found.1.fault) × Appends old new (line (checks_text found.0 found.1.landmarks found.1.fault))))
    → IfOk r (λ ended. PrintsCheck asked disk left ended old new)
check_printed r answer asked disk left old new by printed =
    found_printed (λ (checked : Checked). checked) asked IsCheckIn IsCheckDeviceFault (λ checked. ended_at checked.fault) (λ n checked. line (checks_text n checked.landmarks checked.fault)) r answer disk left old new by printed

-- ---- why it ends

-- of an answer's fault and the output's
pub told_of : {X : Type 0} (r : Result Ended Fault) (answer : Result X Fault) (P : Fault → Type 0) → IfErr r (λ fault. (fault ≡ told.Output) ⊎ IsErrOf answer fault) → IfErr answer P
    → IfErr r (λ fault. (fault ≡ told.Output) ⊎ P fault)
told_of r answer P ends has = IfErr-weaker r _ _ (λ fault why. ⊎_elim inl (λ is. inr (IfErr-at_err P is has)) why) ends

-- a device that was read
pub reading_end : {X : Type 0} (answer : Result X Fault) (Named : Fault → Type 0) (disk left : DiskView) → IfErr answer Named → IsReading disk left answer → IfErr answer (λ fault. IsReadingEnd Named disk left fault)
reading_end (Ok x) Named disk left named reading = tt
reading_end (Err fault) Named disk left named reading = record {
  named = named;
  tells = reading.tells;
  device = λ is. reading.device (ap (λ (f : Fault). Err f) is);
}

-- a question about a graph
pub asking_end : {T : Type 0} (asked : LandmarkWords) (IsAnswer : LandmarkWords → State → T → Type 0) (Named : LandmarkWords → Fault → Type 0) (disk left : DiskView) (answer : Result (ℕ × T) Fault) → AnswersOf asked IsAnswer Named disk left answer
    → IfErr answer (λ fault. IsAskingEnd Named asked disk left fault)
asking_end asked IsAnswer Named disk left (Ok x) by = tt
asking_end asked IsAnswer Named disk left (Err fault) by = record {
  reading = reading_end (Err fault) (Named asked) disk left by.fault by.reading;
  not_within = λ keeps state stands is. by.not_within keeps state stands (ap (λ (f : Fault). Err f) is);
}

-- as about routes
pub route_end : (answer : Result (ℕ × Vec Route) Fault) (pairs : List (ℕ × ℕ)) (asked : LandmarkWords) (disk left : DiskView) → AnswersOf asked (AreRoutesIn pairs) IsRouteDeviceFault disk left answer → LacksNodeOf asked pairs disk answer
    → IfErr answer (λ fault. IsRouteEnd pairs asked disk left fault)
route_end (Ok x) pairs asked disk left by lacks = tt
route_end (Err fault) pairs asked disk left by lacks = record {
  asking = asking_end asked (AreRoutesIn pairs) IsRouteDeviceFault disk left (Err fault) by;
  no_node = λ keeps state stands is. lacks keeps state stands (ap (λ (f : Fault). Err f) is);
}

-- a change
pub edit_end : {X : Type 0} (answer : Result X Fault) (session : ℕ) (named_ticket : Option ℕ) (change : List Op) (disk left : DiskView) → IfErr answer IsEditFault
    → (IsTrue disk.keeps_model → IfErr answer (λ fault. TellsOf fault disk.content))
    → OfContent disk (λ state. IsErrOf answer told.AlreadyIn → ¬ IsNew state session named_ticket)
    → OfContent disk (λ state. IsErrOf answer told.Worn → IsPastLimits state session named_ticket change)
    → (IsErrOf answer told.Device → disk.failures < left.failures)
    → (IsTrue disk.keeps_model → IfErr answer (λ fault. IsUnwrittenFault fault → OnlyRead disk left))
    → OfContent disk (λ state. KeepsThrough disk state → IfErr answer (λ fault. fault ≢ told.Device → KeepsThrough left state))
    → IfErr answer (λ fault. IsEditEnd session named_ticket change disk left fault)
edit_end (Ok x) session named_ticket change disk left named tells already worn device unwritten kept = tt
edit_end (Err fault) session named_ticket change disk left named tells already worn device unwritten kept = record {
  named = named;
  tells = tells;
  already_in = λ keeps state stands is. already keeps state stands (ap (λ (f : Fault). Err f) is);
  worn = λ keeps state stands is. worn keeps state stands (ap (λ (f : Fault). Err f) is);
  device = λ is. device (ap (λ (f : Fault). Err f) is);
  unwritten = unwritten;
  kept = kept;
}

-- a copy
pub copy_end : {X : Type 0} (answer : Result X Fault) (from from_left to to_left : DiskView) → IfErr answer (λ fault. IsMoveFault fault) → (IsTrue from.keeps_model → IfErr answer (λ fault. TellsOf fault from.content))
    → (IsErrOf answer told.DeviceLength → length to.content ≢ device_len)
    → (IsErrOf answer told.Device → (from.failures < from_left.failures) ⊎ (to.failures < to_left.failures))
    → IfErr answer (λ fault. IsTransferEnd how.Copy from from_left to to_left fault)
copy_end (Ok x) from from_left to to_left named tells wrong device = tt
copy_end (Err fault) from from_left to to_left named tells wrong device = record {
  named = named;
  tells = tells;
  wrong_length = λ is. wrong (ap (λ (f : Fault). Err f) is);
  device = λ is. device (ap (λ (f : Fault). Err f) is);
}

-- so ends a command whose answer, as it was given of a device, is printed or told
pub ends_on : {D X W : Type 0} (model : Ghosts D) (LeavesSo : DiskView → DiskView → Type 0) (Prints : Printing) (MayFail : Ending) (disk : D) (given : Result X Fault × D) (back : D) (ended_of : X → Ended) (text_of : X → List ℕ) (out : Stream W) (r : Result Ended Fault)
    → EndsAfter given.0 ended_of text_of out r → back ≡ given.1 → IsSameDevice (model.view disk) (model.view given.1) → LeavesSo (model.view disk) (model.view given.1)
    → (IfOk r (λ ended. IsOkAnd given.0 (λ x. (ended ≡ ended_of x) × Appends (known_before out) (known_after out) (text_of x))) → IfOk r (λ ended. Prints (model.view disk) (model.view given.1) ended (known_before out) (known_after out)))
    → IfErr given.0 (λ fault. MayFail (model.view disk) (model.view given.1) fault) → EndsOn LeavesSo Prints (OrOutput MayFail) (views (model.view disk) (model.view back)) out r
ends_on model LeavesSo Prints MayFail disk given back ended_of text_of out r after same ran leaves printed fails =
    subst (λ d. EndsOn LeavesSo Prints (OrOutput MayFail) (views (model.view disk) (model.view d)) out r) (sym same)
    (record {
      ran = ran;
      leaves = leaves;
      ends = record { printed = printed after.printed; fault = told_of r given.0 (λ fault. MayFail (model.view disk) (model.view given.1) fault) after.fault fails; untouched = after.untouched };
    })

-- ---- the device by a path

-- what is done at a place of devices after what was done there
follows : {D : Type 0} (start done more mid new : List (Event D)) → mid ≡ start ++ done → new ≡ mid ++ more → new ≡ start ++ (done ++ more)
follows {D = D} start done more mid new first second = second ∙ ap (λ (events : List (Event D)). events ++ more) first ∙ append_assoc start done more

-- nothing was done
pub nothing_done : {F D : Type 0} (opened : Opening D) (events : F → List (Event D)) (old : F) → HasDone opened events old old []
nothing_done opened events old = record { listed = sym (append-nil (events old)); each = All-nil (IsOf opened) }

-- one device couldn't be had
pub not_had : {F D : Type 0} (opened : Opening D) (events : F → List (Event D)) (old new : F) (path : List ℕ) (access : Access)
    → events new ≡ events old ++ NotHad path access ∷ [] → HasDone opened events old new (NotHad path access ∷ [])
not_had opened events old new path access listed = record { listed = listed; each = All-cons (IsOf opened) (NotHad path access) [] tt (All-nil (IsOf opened)) }

-- one was opened, and no more was done
pub left_open : {F D : Type 0} (opened : Opening D) (events : F → List (Event D)) (old new : F) (path : List ℕ) (access : Access) (disk : D)
    → opened path access disk → events new ≡ events old ++ Opened path access disk ∷ [] → HasDone opened events old new (Opened path access disk ∷ [])
left_open opened events old new path access disk was listed = record { listed = listed; each = All-cons (IsOf opened) (Opened path access disk) [] was (All-nil (IsOf opened)) }

-- and one was closed
pub closed : {F D : Type 0} (opened : Opening D) (events : F → List (Event D)) (old mid new : F) (path : List ℕ) (access : Access) (disk left : D)
    → opened path access disk → events mid ≡ events old ++ Opened path access disk ∷ [] → events new ≡ events mid ++ Closed left ∷ []
    → HasDone opened events old new (Opened path access disk ∷ Closed left ∷ [])
closed opened events old mid new path access disk left was first second = record {
  listed = follows (events old) (Opened path access disk ∷ []) (Closed left ∷ []) (events mid) (events new) first second;
  each = All-cons (IsOf opened) (Opened path access disk) (Closed left ∷ []) was (All-cons (IsOf opened) (Closed left) [] tt (All-nil (IsOf opened)));
}

-- a task that ends so on the device that was opened ends so on the device by its path
pub ends_at : {D W : Type 0} (model : Ghosts D) (done : Doing D) (put : List Put → Type 0) (task : Task) (path : List ℕ) (access : Access) (out : Stream W) (disk left : D) (r : Result Ended Fault)
    → path ≡ device_of task → access ≡ access_of task → done (Opened path access disk ∷ Closed left ∷ []) → EndsTaskOn put task (views (model.view disk) (model.view left)) out r → EndsAt (device_use model done) put task out r
ends_at model done put task path access out disk left r here so did is =
    let there = subst (λ (a : Access). done (Opened (device_of task) a disk ∷ Closed left ∷ [])) so (subst (λ (p : List ℕ). done (Opened p access disk ∷ Closed left ∷ [])) here did) in
    record {
      printed = IfOk-weaker r _ _ (λ ended holds. record { disk = disk; left = left; did = there; ran = is.ran; holds = (is.leaves, holds) }) is.ends.printed;
      fault = IfErr-weaker r _ _ (λ fault holds. inr (record { disk = disk; left = left; did = there; ran = is.ran; holds = (is.leaves, holds) })) is.ends.fault;
      untouched = is.ends.untouched;
    }

-- and one whose device can't be had tells that
pub ends_early : {D W : Type 0} (model : Ghosts D) (done : Doing D) (put : List Put → Type 0) (task : Task) (path : List ℕ) (access : Access) (contents : W → Known) (old : W) (r : Result Ended Fault) (fault : Fault)
    → path ≡ device_of task → access ≡ access_of task → IsErrAnd r (λ e. e ≡ fault) → done (NotHad path access ∷ []) → put [] → IsAccessFault access fault → EndsAt (device_use model done) put task (stream contents old old) r
ends_early model done put task path access contents old (Ok ended) fault here so is did none why = absurd is
ends_early model done put task path access contents old (Err e) fault here so is did none why = record {
  printed = tt;
  fault = inl (
    subst (λ (a : Access). done (NotHad (device_of task) a ∷ [])) so (subst (λ (p : List ℕ). done (NotHad p access ∷ [])) here did),
    none,
    subst (λ (f : Fault). IsAccessFault (access_of task) f) (sym is) (subst (λ (a : Access). IsAccessFault a fault) so why),
  );
  untouched = λ other. refl;
}

-- a task that is asked for ends as the one that it is
pub on_task : {W : Type 0} (put : List Put → Type 0) (task shape : Task) (device : Views) (out : Stream W) (r : Result Ended Fault) → task ≡ shape
    → EndsTaskOn put shape device out r → EndsTaskOn put task device out r
on_task put task shape device out r is ends = subst (λ (t : Task). EndsTaskOn put t device out r) (sym is) ends

-- ---- two devices

-- the second can't be had
pub first_alone : {F D : Type 0} (opened : Opening D) (events : F → List (Event D)) (old mid last new : F) (from_path to_path : List ℕ) (from : D)
    → opened from_path ToRead from → events mid ≡ events old ++ Opened from_path ToRead from ∷ [] → events last ≡ events mid ++ NotHad to_path New ∷ [] → events new ≡ events last ++ Closed from ∷ []
    → OfFirst (HasDone opened events old new) from_path to_path
first_alone opened events old mid last new from_path to_path from was first second third = (
  from,
  record {
    listed = follows (events old) (Opened from_path ToRead from ∷ NotHad to_path New ∷ []) (Closed from ∷ []) (events last) (events new)
        (follows (events old) (Opened from_path ToRead from ∷ []) (NotHad to_path New ∷ []) (events mid) (events last) first second) third;
    each = All-cons (IsOf opened) (Opened from_path ToRead from) (NotHad to_path New ∷ Closed from ∷ []) was
        (All-cons (IsOf opened) (NotHad to_path New) (Closed from ∷ []) tt (All-cons (IsOf opened) (Closed from) [] tt (All-nil (IsOf opened))));
  },
)

-- both were opened and closed
pub both : {F D : Type 0} (opened : Opening D) (events : F → List (Event D)) (e₀ e₁ e₂ e₃ e₄ : F) (from_path to_path : List ℕ) (from to from_left to_left : D)
    → opened from_path ToRead from → opened to_path New to
    → events e₁ ≡ events e₀ ++ Opened from_path ToRead from ∷ [] → events e₂ ≡ events e₁ ++ Opened to_path New to ∷ []
    → events e₃ ≡ events e₂ ++ Closed from_left ∷ [] → events e₄ ≡ events e₃ ++ Closed to_left ∷ []
    → HasDone opened events e₀ e₄ (Opened from_path ToRead from ∷ Opened to_path New to ∷ Closed from_left ∷ Closed to_left ∷ [])
both opened events e₀ e₁ e₂ e₃ e₄ from_path to_path from to from_left to_left was made first second third fourth = record {
  listed = follows (events e₀) (Opened from_path ToRead from ∷ Opened to_path New to ∷ Closed from_left ∷ []) (Closed to_left ∷ []) (events e₃) (events e₄)
      (follows (events e₀) (Opened from_path ToRead from ∷ Opened to_path New to ∷ []) (Closed from_left ∷ []) (events e₂) (events e₃)
      (follows (events e₀) (Opened from_path ToRead from ∷ []) (Opened to_path New to ∷ []) (events e₁) (events e₂) first second) third) fourth;
  each = All-cons (IsOf opened) (Opened from_path ToRead from) (Opened to_path New to ∷ Closed from_left ∷ Closed to_left ∷ []) was
      (All-cons (IsOf opened) (Opened to_path New to) (Closed from_left ∷ Closed to_left ∷ []) made
      (All-cons (IsOf opened) (Closed from_left) (Closed to_left ∷ []) tt (All-cons (IsOf opened) (Closed to_left) [] tt (All-nil (IsOf opened)))));
}

-- a task of two devices ends so by two paths
pub transferred_at : {D W : Type 0} (model : Ghosts D) (done : Doing D) (transfer : Transfer) (from_path to_path : List ℕ) (out : Stream W) (from to from_left to_left : D) (r : Result Ended Fault)
    → done (Opened from_path ToRead from ∷ Opened to_path New to ∷ Closed from_left ∷ Closed to_left ∷ []) → EndsTransferOn transfer (views (model.view from) (model.view from_left)) (views (model.view to) (model.view to_left)) out r
    → EndsTransferAt (device_use model done) transfer from_path to_path out r
transferred_at model done transfer from_path to_path out from to from_left to_left r did is = record {
  printed = IfOk-weaker r _ _ (λ ended holds. record { from = from; to = to; from_left = from_left; to_left = to_left; did = did; ran = is.ran; holds = (is.leaves, holds) }) is.ends.printed;
  fault = IfErr-weaker r _ _ (λ fault holds. inr (record { from = from; to = to; from_left = from_left; to_left = to_left; did = did; ran = is.ran; holds = (is.leaves, holds) })) is.ends.fault;
  untouched = is.ends.untouched;
}

-- and one of whose devices can't be had tells that
pub not_transferred : {D W : Type 0} (model : Ghosts D) (done : Doing D) (transfer : Transfer) (from_path to_path : List ℕ) (contents : W → Known) (old : W) (r : Result Ended Fault) (fault : Fault)
    → IsErrAnd r (λ e. e ≡ fault) → done (NotHad from_path ToRead ∷ []) ⊎ OfFirst done from_path to_path → IsFileFault fault → EndsTransferAt (device_use model done) transfer from_path to_path (stream contents old old) r
not_transferred model done transfer from_path to_path contents old (Ok ended) fault is did why = absurd is
not_transferred model done transfer from_path to_path contents old (Err e) fault is did why = record {
  printed = tt;
  fault = inl (did, subst (λ (f : Fault). IsFileFault f) (sym is) why);
  untouched = λ other. refl;
}

-- a task on one device that is no service ends as it does by its device's path
pub at_rest : {D W : Type 0} (devices : DeviceUse D) (put : List Put → Type 0) (task : Task) (out : Stream W) (r : Result Ended Fault)
    → ((old new : Bor (List ℕ)) → task ≡ Migrate old new → ⊥) → ((old new : Bor (List ℕ)) → task ≡ Copy old new → ⊥) → (IsService task → ⊥)
    → EndsAt devices put task out r → EndsTask devices put task out r
at_rest devices put (Migrate old new) out r migrates copies batch ends = absurd (migrates old new refl)
at_rest devices put (Copy old new) out r migrates copies batch ends = absurd (copies old new refl)
at_rest devices put (Serve device editors forwarders places live words) out r migrates copies batch ends = absurd (batch tt)
at_rest devices put (Format device nodes is_new) out r migrates copies batch ends = ends
at_rest devices put (Show device) out r migrates copies batch ends = ends
at_rest devices put (Edit device session ticket change) out r migrates copies batch ends = ends
at_rest devices put (Resume device session) out r migrates copies batch ends = ends
at_rest devices put (RouteTask device pairs words) out r migrates copies batch ends = ends
at_rest devices put (Check device words) out r migrates copies batch ends = ends
at_rest devices put (Tables device folder nodes words) out r migrates copies batch ends = ends
