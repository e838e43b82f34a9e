-- One request alone: its mark, and the state after it.
use Rattle.std.proofs.Common.{refl, sym, ap, ◌∙◌, ◌≡◌, ◌≢◌, ◌<◌, ◌≤◌, ◌+◌, ◌++◌, ◌⊎◌, inl, inr, ⊎_elim, ℕ, List, [], ◌∷◌, Option, Result, Ok, Err, IsTrue, IfErr, IfOk, IsErrOf, OnOk, false, subst, arith}
use Rattle.std.specs.List.{Contains}
use Rattle.std.specs.Result.{IsOk}
use Rattle.std.proofs.lemmas.Result.{IfOk-weaker}
use Rattle.disk_trait.specs.Disk.{IsSameDevice, LeavesOnly, OnlyRead, joined, ran_none, reading_leaves, started, weaker}
use Rattle.graph_edits.specs.declared.edits.Op.{Op}
use Rattle.graph_edits.specs.Changes.{after as graph_after}
use Rattle.requests.specs.declared.request.Request.{Request}
use Rattle.requests.specs.Tickets.{raise}
use Rattle.layout_2.specs.State.{State, state_with}
use Rattle.layout_2.specs.Standing.{KeepsThrough, StandsFor}
use Rattle.checkpoint.specs.Opening.{IsOpened}
use Rattle.checkpoint.specs.declared.store.Store.{Store}
use Rattle.checkpoint.specs.StoreWords.{state_of, view_of, disk_of, is_down, stands_now}
use Rattle.generations.specs.declared.posting.Mark.{Mark}
use Rattle.generations.specs.declared.posting.Notice.{Notice}
use Rattle.generations.specs.declared.posting.Notice.TheVariants.{Marked}
use Rattle.generations.specs.declared.posting.Verdict.{Verdict}
use Rattle.generations.specs.declared.posting.Verdict.TheVariants.{Accepted, Refused}
use Rattle.generations.specs.Notices.{marks_in}
use Rattle.group_commit.specs.Settling.{Settled, settle, accept, refuse, one_more}
use Rattle.intake.specs.Editors.{Editing}
use Rattle.committer.specs.declared.committer.Committer.{Committer}
use Rattle.committer.specs.declared.refused.RoundRefused.{RoundRefused}
use Rattle.committer.specs.declared.refused.RoundRefused.TheVariants as refused
use Rattle.committer.specs.Answers.{Group, HasCommitted, IsWorn, KeepsGroup, LeavesEither, LosesDevice, OwesMarks, StaysOwed, asked_group}
use Rattle.committer.specs.CommitterWords.{held_or_taken, posts_of, settled, store_of}
use Rattle.committer.specs.Rounds.{with_marks_of}
use Rattle.command_output.specs.declared.fault.Fault.{Fault}
use Rattle.command_output.specs.declared.fault.Fault.TheVariants as told
use Rattle.device_commands.specs.Answer.{IsNew, IsTaken, state_by, state_under, verdict_of}
use Rattle.device_commands.specs.Edits.{IsSettledTo}
use Rattle.device_commands.specs.Openings.{AnswersOf, IsOpenFault, IsOutcomeFault, IsReading, TellsOf}
use Rattle.device_commands.specs.Seats.{IsToldBy, round_fault}
use Rattle.device_commands.proofs.OneRound.{none_in, only_in, told_mark}
use Rattle.device_commands.proofs.OpenFaults.{never_device, of_memory}

-- the state after one request is that under its ticket
pub one_state : (s : State) (r : Request) → (settle s (r ∷ [])).state ≡ state_under s r.session r.ticket r.change
one_state s r = elim (graph_after s.graph r.change) as (λ o. (elim o as (λ _. Settled) [ Ok graph ↦ accept r (s.count + 1) (settle (one_more s r graph) []) | Err at ↦ refuse r at (settle s []) ]).state ≡ elim o as (λ _. State) [ Ok graph ↦ state_with (s.count + 1) graph (raise s.tickets (r.session, r.ticket)) | Err at ↦ s ]) [
  | Ok graph ↦ refl
  | Err at ↦ refl
]

-- where something of it is accepted, the graph takes the change
pub accepted_is_taken : (s : State) (r : Request) → (settle s (r ∷ [])).accepted ≢ [] → IsTaken s r.change
accepted_is_taken s r = elim (graph_after s.graph r.change) as (λ o. (elim o as (λ _. Settled) [ Ok graph ↦ accept r (s.count + 1) (settle (one_more s r graph) []) | Err at ↦ refuse r at (settle s []) ]).accepted ≢ [] → IsOk o) [
  | Ok graph ↦ λ some. refl
  | Err at ↦ λ some. absurd (some refl)
]

-- where the graph refuses the change, nothing of it is accepted
pub refused_is_idle : (s : State) (r : Request) → ¬ (IsTaken s r.change) → (settle s (r ∷ [])).accepted ≡ []
refused_is_idle s r = elim (graph_after s.graph r.change) as (λ o. ¬ (IsOk o) → (elim o as (λ _. Settled) [ Ok graph ↦ accept r (s.count + 1) (settle (one_more s r graph) []) | Err at ↦ refuse r at (settle s []) ]).accepted ≡ []) [
  | Ok graph ↦ λ refused. absurd (refused refl)
  | Err at ↦ λ refused. refl
]

-- its one mark has the verdict on its change
pub one_mark : (s : State) (r : Request) → (mark : Mark) × (((settle s (r ∷ [])).marks ≡ mark ∷ []) × (mark.verdict ≡ verdict_of s r.change))
one_mark s r = elim (graph_after s.graph r.change) as (λ o. (mark : Mark) × (((elim o as (λ _. Settled) [ Ok graph ↦ accept r (s.count + 1) (settle (one_more s r graph) []) | Err at ↦ refuse r at (settle s []) ]).marks ≡ mark ∷ []) × (mark.verdict ≡ elim o as (λ _. Verdict) [ Ok graph ↦ Accepted (s.count + 1) | Err at ↦ Refused at.0 at.1 ]))) [
  | Ok graph ↦ (_, (refl, refl))
  | Err at ↦ (_, (refl, refl))
]

-- a store that nothing was asked of leaves its state
pub untouched_leaves : {D : Type 0} {V : _} → (store result : Store D V) (next : State) → result ≡ store → IsTrue (view_of store).keeps_model → is_down store ≡ false
    → LeavesOnly (view_of store) (view_of result) (λ image. StandsFor (state_of store) image ⊎ StandsFor next image)
untouched_leaves store result next same model up =
    subst (λ s. LeavesOnly (view_of store) (view_of s) (λ image. StandsFor (state_of store) image ⊎ StandsFor next image)) (sym same)
    (started (view_of store) (λ image. StandsFor (state_of store) image ⊎ StandsFor next image) (λ image left. inl (stands_now store model up image left)))

-- so it is settled where a fault ends it before the desk
pub untouched : {D : Type 0} {V : _} → (store : Store D V) (next : State) (change : List Op) (fault : Fault) → is_down store ≡ false → (fault ≡ told.Device → ⊥) → IsSettledTo next change store store (Err fault)
untouched store next change fault up other = record {
  verdict = tt;
  state = tt;
  up = tt;
  refused = λ _. refl;
  worn_leaves = λ _. refl;
  threadless = λ _. refl;
  device = λ is. absurd (other (let same : fault ≡ told.Device = cc in same));
  decided = λ _. (up, inl refl);
  ran = ran_none (view_of store);
  any_moment = λ model. untouched_leaves store store next refl model up;
}

-- ---- what a round leaves that was asked for this request, or for none

-- the state is the old one, or that after the request
either_state : (s : State) (rs : List Request) (r : Request) → (rs ≡ []) ⊎ (rs ≡ r ∷ []) → ((settle s rs).state ≡ s) ⊎ ((settle s rs).state ≡ state_by s r)
either_state s rs r one = ⊎_elim (λ none. inl (ap (λ l. (settle s l).state) none)) (λ is. inr (ap (λ l. (settle s l).state) is ∙ one_state s r)) one

-- where the graph refuses the change, nothing is accepted
idle_either : (s : State) (rs : List Request) (r : Request) → (rs ≡ []) ⊎ (rs ≡ r ∷ []) → ¬ (IsTaken s r.change) → (settle s rs).accepted ≡ []
idle_either s rs r one refuses = ⊎_elim (λ none. ap (λ l. (settle s l).accepted) none) (λ is. ap (λ l. (settle s l).accepted) is ∙ refused_is_idle s r refuses) one

-- where something is accepted, the graph takes it
pub taken_either : (s : State) (rs : List Request) (r : Request) → (rs ≡ []) ⊎ (rs ≡ r ∷ []) → (settle s rs).accepted ≢ [] → IsTaken s r.change
taken_either s rs r one some = ⊎_elim (λ none. absurd (some (ap (λ l. (settle s l).accepted) none))) (λ is. accepted_is_taken s r (λ none. some (ap (λ l. (settle s l).accepted) is ∙ none))) one

-- the marks that are posted have the verdict that the editor is told, and the request was taken
pub told_is : {D R : Type 0} {V : _} → (group : Group D V) (new : Committer D R V) (r : Request) (accepted : ℕ) (e : Editing) (verdict : Verdict) → group.before.posted ≡ [] → (group.requests ≡ []) ⊎ (group.requests ≡ r ∷ [])
    → HasCommitted group new accepted → IsToldBy (posts_of new) e verdict → (group.requests ≡ r ∷ []) × (verdict ≡ verdict_of (state_of group.store) r.change)
told_is group new r accepted e verdict begins one done told =
    let found = told_mark (posts_of new) e verdict told in
    let s = state_of group.store in
    let posted : (rs : List Request) → group.requests ≡ rs → (posts_of new).posted ≡ (with_marks_of rs (settle s rs).marks group.before).posted
    = λ rs is. (λ i. (done.posts i).posted) ∙ ap (λ (l : List Request). (with_marks_of l (settle s l).marks group.before).posted) is in
    ⊎_elim
    (λ none. absurd (none_in found.0 (subst (λ (l : List Notice). Contains (marks_in l) found.0) (posted [] none ∙ begins) found.1.0)))
    (λ is.
    let mark = one_mark s r in
    let only : (posts_of new).posted ≡ Marked (mark.0 ∷ []) ∷ [] = posted (r ∷ []) is ∙ (λ i. begins i ++ Marked (mark.1.0 i) ∷ []) in
    let same : mark.0 ≡ found.0 = only_in mark.0 found.0 (subst (λ (l : List Notice). Contains (marks_in l) found.0) only found.1.0) in
    (is, found.1.1 ∙ (ap (λ (m : Mark). m.verdict) (sym same) ∙ mark.1.1)))
    one

-- so a store is settled by a round, whatever that answers
pub by_round : {D : Type 0} {V : _} → (old new : Store D V) (rs : List Request) (r : Request) (answer : Result Verdict Fault) → (rs ≡ []) ⊎ (rs ≡ r ∷ []) → is_down old ≡ false
    → ((settle (state_of old) rs).accepted ≡ [] → new ≡ old) → IsSameDevice (view_of old) (view_of new)
    → (IsTrue (view_of old).keeps_model → is_down old ≡ false → LeavesOnly (view_of old) (view_of new) (λ image. StandsFor (state_of old) image ⊎ StandsFor (settle (state_of old) rs).state image))
    → IfOk answer (λ verdict. (rs ≡ r ∷ []) × (verdict ≡ verdict_of (state_of old) r.change)) → OnOk answer (state_of new ≡ (settle (state_of old) rs).state)
    → (¬ (IsErrOf answer told.Device) → (is_down new ≡ false) × ((state_of new ≡ state_of old) ⊎ (state_of new ≡ (settle (state_of old) rs).state)))
    → (IsErrOf answer told.Worn → new ≡ old) → (IsErrOf answer told.NoThread → new ≡ old) → (IsErrOf answer told.Device → (view_of old).failures < (view_of new).failures)
    → IsSettledTo (state_by (state_of old) r) r.change old new answer
by_round {D = D} {V = V} old new rs r answer one up idle ran run verdict state decided worn threadless device = record {
  verdict = IfOk-weaker answer _ _ (λ v is. is.1) verdict;
  state = by_answer answer verdict state;
  up = on_ok answer decided;
  refused = λ no. idle (idle_either s rs r one no);
  worn_leaves = worn;
  threadless = threadless;
  device = device;
  decided = λ not. let by = decided not in (by.0, ⊎_elim inl (λ is. ⊎_elim (λ same. inl (is ∙ same)) (λ same. inr (is ∙ same)) (either_state s rs r one)) by.1);
  ran = ran;
  any_moment = λ model. weaker (view_of old) (view_of new) _ _ (run model up) (λ image. ⊎_elim inl (λ stands. ⊎_elim (λ same. inl (subst (λ (t : State). StandsFor t image) same stands)) (λ same. inr (subst (λ (t : State). StandsFor t image) same stands))
      (either_state s rs r one)));
}
  where
    s : State
    s = state_of old

    by_answer : (a : Result Verdict Fault) → IfOk a (λ v. (rs ≡ r ∷ []) × (v ≡ verdict_of s r.change)) → OnOk a (state_of new ≡ (settle s rs).state) → OnOk a (state_of new ≡ state_by s r)
    by_answer (Ok v) is same = same ∙ (ap (λ l. (settle s l).state) is.0 ∙ one_state s r)
    by_answer (Err f) is same = tt

    on_ok : (a : Result Verdict Fault) → (¬ (IsErrOf a told.Device) → (is_down new ≡ false) × ((state_of new ≡ state_of old) ⊎ (state_of new ≡ (settle s rs).state))) → OnOk a (is_down new ≡ false)
    on_ok (Ok v) by = (by (λ e. cc)).0
    on_ok (Err f) by = tt

-- a round is told as worn out only where it was
pub worn_alone : (why : RoundRefused) → ◌≡◌ {A = Result Verdict Fault} (Err (round_fault why)) (Err told.Worn) → why ≡ refused.Worn
worn_alone refused.Device e = absurd (cc)
worn_alone refused.Down e = absurd (cc)
worn_alone refused.Memory e = absurd (cc)
worn_alone refused.Board e = absurd (cc)
worn_alone refused.Worn e = refl

-- and where the round was refused
pub refused_by : {D R : Type 0} {V : _} → (old new : Committer D R V) (r : Request) (why : RoundRefused) → (held_or_taken old new ≡ []) ⊎ (held_or_taken old new ≡ r ∷ []) → is_down (store_of old) ≡ false → (posts_of old).due ≡ []
    → ((settled old new).accepted ≡ [] → store_of new ≡ store_of old) → IsSameDevice (view_of (store_of old)) (view_of (store_of new)) → LeavesEither (asked_group old new) new
    → (¬ (why ≡ refused.Device) → is_down (store_of new) ≡ false) → (why ≡ refused.Down → ⊥) → (why ≡ refused.Memory → KeepsGroup (asked_group old new) new) → (why ≡ refused.Worn → IsWorn (asked_group old new) new)
    → (why ≡ refused.Device → LosesDevice (asked_group old new) new) → (why ≡ refused.Board → StaysOwed old new ⊎ OwesMarks (asked_group old new) new)
    → IsSettledTo (state_by (state_of (store_of old)) r) r.change (store_of old) (store_of new) (Err (round_fault why))
refused_by {D = D} {R = R} {V = V} old new r why one up due idle ran run stays down memory worn device board =
    by_round (store_of old) (store_of new) (held_or_taken old new) r (Err (round_fault why)) one up idle ran run tt tt (decided why refl) (λ e. (worn (worn_alone why e)).store) (threadless why) (fails why refl)
  where
    Decided : Type 0
    Decided = (is_down (store_of new) ≡ false) × ((state_of (store_of new) ≡ state_of (store_of old)) ⊎ (state_of (store_of new) ≡ (settled old new).state))

    decided : (w : RoundRefused) → why ≡ w → ¬ (◌≡◌ {A = Result Verdict Fault} (Err (round_fault w)) (Err told.Device)) → Decided
    decided refused.Device is not = absurd (not refl)
    decided refused.Down is not = absurd (down is)
    decided refused.Memory is not = (stays (λ e. let x : refused.Memory ≡ refused.Device = sym is ∙ e in cc), inl (memory is).state)
    decided refused.Board is not = (stays (λ e. let x : refused.Board ≡ refused.Device = sym is ∙ e in cc), ⊎_elim (λ owed. absurd (owed.due due)) (λ marks. inr marks.state) (board is))
    decided refused.Worn is not = (stays (λ e. let x : refused.Worn ≡ refused.Device = sym is ∙ e in cc), inl (ap state_of (worn is).store))

    threadless : (w : RoundRefused) → ◌≡◌ {A = Result Verdict Fault} (Err (round_fault w)) (Err told.NoThread) → store_of new ≡ store_of old
    threadless refused.Device e = absurd (cc)
    threadless refused.Down e = absurd (cc)
    threadless refused.Memory e = absurd (cc)
    threadless refused.Board e = absurd (cc)
    threadless refused.Worn e = absurd (cc)

    fails : (w : RoundRefused) → why ≡ w → ◌≡◌ {A = Result Verdict Fault} (Err (round_fault w)) (Err told.Device) → (view_of (store_of old)).failures < (view_of (store_of new)).failures
    fails refused.Device is e = (device is).failed
    fails refused.Down is e = absurd (down is)
    fails refused.Memory is e = absurd (cc)
    fails refused.Board is e = absurd (cc)
    fails refused.Worn is e = absurd (cc)

-- where a round was worn out, the graph takes the change
pub worn_is_taken : {D R : Type 0} {V : _} → (old new : Committer D R V) (r : Request) → (held_or_taken old new ≡ []) ⊎ (held_or_taken old new ≡ r ∷ []) → KeepsGroup (asked_group old new) new → IsWorn (asked_group old new) new
    → IsTaken (state_of (store_of old)) r.change
worn_is_taken old new r one kept worn =
    taken_either (state_of (store_of old)) (held_or_taken old new) r one (λ none. worn.limits.0 ((λ i. (settle (state_of (worn.store i)) (kept.held i)).accepted) ∙ none))

-- an outcome that tells no verdict is told by these faults alone
pub outcome_never : {P : Type 0} (answer : Result Verdict Fault) (fault : Fault) → (IsOutcomeFault fault → ⊥) → IfErr answer (λ f. IsOutcomeFault f) → IsErrOf answer fault → P
outcome_never answer fault never is same = absurd (never (subst (λ (x : Result Verdict Fault). IfErr x (λ f. IsOutcomeFault f)) same is))

pub on_any : {P : Type 0} (answer : Result Verdict Fault) → P → OnOk answer P
on_any (Ok v) p = p
on_any (Err f) p = tt

-- a verdict that is that of a state, under a ticket that is new to it
pub of_one_state : (r : Result Verdict Fault) (state : State) (session : ℕ) (named : Option ℕ) (change : List Op) → IfOk r (λ verdict. verdict ≡ verdict_of state change) → OnOk r (IsNew state session named)
    → IfOk r (λ verdict. (s : State) × IsNew s session named × (verdict ≡ verdict_of s change))
of_one_state (Ok verdict) state session named change is new = (state, new, is)
of_one_state (Err fault) state session named change is new = tt

-- ---- from an opened disk to the disk that is handed back

pub edit_leaves : {D : Type 0} {V : _} → (disk back : D) (store done : Store D V) (state : State) (next : State → State) → state_of store ≡ state → back ≡ disk_of done
    → OnlyRead (V.view disk) (view_of store) → KeepsThrough (V.view disk) state
    → LeavesOnly (view_of store) (view_of done) (λ image. StandsFor (state_of store) image ⊎ StandsFor (next (state_of store)) image)
    → LeavesOnly (V.view disk) (V.view back) (λ image. StandsFor state image ⊎ StandsFor (next state) image)
edit_leaves {V = V} disk back store done state next same is reads keeps run =
    let moved : LeavesOnly (view_of store) (view_of done) (λ image. StandsFor state image ⊎ StandsFor (next state) image)
    = subst (λ s. LeavesOnly (view_of store) (view_of done) (λ image. StandsFor s image ⊎ StandsFor (next s) image)) same run in
    subst (λ d. LeavesOnly (V.view disk) (V.view d) (λ image. StandsFor state image ⊎ StandsFor (next state) image)) (sym is)
    (joined (V.view disk) (view_of store) (view_of done) (StandsFor state) (λ image. StandsFor state image ⊎ StandsFor (next state) image) (λ image. StandsFor state image ⊎ StandsFor (next state) image)
    (reading_leaves (V.view disk) (view_of store) (StandsFor state) reads keeps) moved (λ image here. inl here) (λ image here. here))

-- a store that nothing was asked of hands back a disk that was only read
pub edit_reads : {D : Type 0} {V : _} → (disk back : D) (store done : Store D V) → done ≡ store → back ≡ disk_of done → OnlyRead (V.view disk) (view_of store) → OnlyRead (V.view disk) (V.view back)
edit_reads {V = V} disk back store done same is reads =
    subst (λ d. OnlyRead (V.view disk) (V.view d)) (sym is) (subst (λ s. OnlyRead (V.view disk) (view_of s)) (sym same) reads)

-- a disk that failed behind its opening has failed more often than before
pub edit_fails : {D : Type 0} {V : _} → (disk back : D) (store done : Store D V) → back ≡ disk_of done → (V.view disk).failures ≤ (view_of store).failures → (view_of store).failures < (view_of done).failures → (V.view disk).failures < (V.view back).failures
edit_fails {D = D} {V = V} disk back store done is grows fails = subst (λ (d : D). (V.view disk).failures < (V.view d).failures) (sym is) (omega (arith, grows, fails))

pub edit_keeps : {D : Type 0} {V : _} → (back : D) (done : Store D V) (r : Result Verdict Fault) (state : State) → back ≡ disk_of done → IsTrue (view_of done).keeps_model
    → OnOk r (state_of done ≡ state) → OnOk r (is_down done ≡ false) → OnOk r (KeepsThrough (V.view back) state)
edit_keeps {V = V} back done (Ok verdict) state is model same up =
    subst (λ s. KeepsThrough (V.view back) s) same (subst (λ d. KeepsThrough (V.view d) (state_of done)) (sym is) (λ image left. stands_now done model up image left))
edit_keeps {V = V} back done (Err fault) state is model same up = tt

-- a store's state that a fault left stays, whatever a crash leaves from then on
pub edit_stays : {D : Type 0} {V : _} {P : Type 0} → (back : D) (done : Store D V) (r : Result Verdict Fault) (state : State) → back ≡ disk_of done → IsTrue (view_of done).keeps_model
    → (¬ (IsErrOf r told.Device) → (is_down done ≡ false) × P) → IfErr r (λ fault. fault ≢ told.Device → state_of done ≡ state) → IfErr r (λ fault. fault ≢ told.Device → KeepsThrough (V.view back) state)
edit_stays back done (Ok verdict) state is model up same = tt
edit_stays {V = V} back done (Err fault) state is model up same = λ not.
    subst (λ s. KeepsThrough (V.view back) s) (same not) (subst (λ d. KeepsThrough (V.view d) (state_of done)) (sym is) (λ image left. stands_now done model (up (λ e. not (let f : fault ≡ told.Device = cc in f))).0 image left))

-- ---- a device that was opened

-- a question to it only reads
pub asked_back : {D X : Type 0} {V : _} → (disk back : D) (store : Store D V) (answer : Result X Fault) → back ≡ disk_of store → IsOpened (V.view disk) store → IfErr answer (λ fault. fault ≡ told.Memory)
    → IsReading (V.view disk) (V.view back) answer
asked_back {V = V} disk back store answer is opened only = record {
  tells = λ model. of_memory answer (λ fault. TellsOf fault (V.view disk).content) tt only;
  device = λ same. absurd (never_device answer only same);
  reads = λ model. edit_reads disk back store store refl is (opened.of_model model).reads;
  ran = subst (λ d. IsSameDevice (V.view disk) (V.view d)) (sym is) opened.ran;
}

-- and its answer is that of the state that the store has
pub asked_answer : {D X : Type 0} {V : _} → (IsAnswer : State → X → Type 0) (disk back : D) (store : Store D V) (answer : Result X Fault) → back ≡ disk_of store → IsOpened (V.view disk) store
    → ((one two : State) (content : List ℕ) → StandsFor one content → StandsFor two content → one ≡ two) → IfOk answer (IsAnswer (state_of store)) → IfErr answer (λ fault. fault ≡ told.Memory)
    → AnswersOf IsAnswer (V.view disk) (V.view back) answer
asked_answer {V = V} IsAnswer disk back store answer is opened law answers only = record {
  of_one = IfOk-weaker answer (IsAnswer (state_of store)) (λ x. (state : State) × IsAnswer state x) (λ x here. (state_of store, here)) answers;
  of_content = λ model state stands. subst (λ (s : State). IfOk answer (IsAnswer s)) (law (state_of store) state (V.view disk).content (opened.of_model model).stands stands) answers;
  faults = of_memory answer IsOpenFault tt only;
  reading = asked_back disk back store answer is opened only;
}
