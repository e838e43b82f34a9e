-- What is left on a device over turns: the states after beginnings of what was taken.
use Rattle.std.proofs.Common.{◌≡◌, ◌⊎◌, ◌≤◌, ◌==◌, ◌∷◌, refl, ℕ, ◌+◌, List, [], ◌++◌, length, drop, IsTrue, false, arith, ap, sym, ◌∙◌, subst, ⊎_elim}
use Rattle.std.proofs.lemmas.List.{take-append-le, length-append}
use Rattle.std.proofs.lemmas.List.Elements.{filter-append}
use Rattle.std.proofs.Math.Seq.{take-length}
use Rattle.std.specs.Prelude.{IfSome, Option, Some, None, Result}
use Rattle.service_actors.specs.declared.stop_cause.StopCause.{StopCause}
use Rattle.disk_trait.specs.Disk.{DiskView, IsSameDevice, LeavesOnly, OnlyRead, joined, ran_none, ran_on, reading_leaves, started}
use Rattle.requests.specs.declared.request.Request.{Request}
use Rattle.layout_2.specs.State.{State}
use Rattle.layout_2.specs.Standing.{KeepsThrough, StandsFor}
use Rattle.checkpoint.specs.declared.store.Store.{Store}
use Rattle.checkpoint.specs.StoreWords.{state_of, view_of, is_down, stands_now}
use Rattle.intake.specs.Ends.{HasTaken, Taking}
use Rattle.intake.specs.Turns.{AreOfEditors, of}
use Rattle.group_commit.specs.Settling.{Settled, settle}
use Rattle.group_commit.proofs.SettlingLemmas.{settle-append}
use Rattle.committer.specs.declared.committer.Committer.{Committer}
use Rattle.request_lists.specs.declared.builds.Builds.{Builds}
use Rattle.request_lists.specs.declared.builds.Builds.TheVariants.{InTurn}
use Rattle.request_lists.specs.Posted.{ArePosted}
use Rattle.request_lists.proofs.Posted.{posted_first}
use Rattle.committer.specs.CommitterWords.{store_of, held_of, taker_of, queue_of, got_of, posts_of, taken, settled}
use Rattle.committer.specs.Answers.{StaysPut}
use Rattle.committer.specs.Listed.{IsListedFrom, StaysListed, StaysListedSo}
use Rattle.committer_thread.specs.Kept.{HasSettled, HasSettledAll, HasSettledSome, HasTurned, IsFresh, IsOnCourse, IsServedDisk, KeepsQueue, LeavesBeginnings, PostsAlong, StandsForBeginning}

-- ---- beginnings of a list

-- what stands for a beginning of a list stands for one of a longer list
longer : (first : State) (xs ys : List Request) (image : List ℕ) → StandsForBeginning first xs image → StandsForBeginning first (xs ++ ys) image
longer first xs ys image (many, le, stands) =
    let long : length (xs ++ ys) ≡ length xs + length ys = length-append xs ys in
    (many, omega (arith, le, long), subst (λ (l : List Request). StandsFor (settle first l).state image) (sym (take-append-le many xs ys le)) stands)

-- what stands for the whole list stands for a beginning of it
whole : (first : State) (xs : List Request) (image : List ℕ) → StandsFor (settle first xs).state image → StandsForBeginning first xs image
whole first xs image stands = (length xs, omega arith, subst (λ (l : List Request). StandsFor (settle first l).state image) (sym (take-length xs)) stands)

-- one list after another
then_settled : (first state : State) (xs ys : List Request) → state ≡ (settle first xs).state → (settle first (xs ++ ys)).state ≡ (settle state ys).state
then_settled first state xs ys is = ap (λ (s : Settled). s.state) (settle-append first xs ys) ∙ ap (λ (s : State). (settle s ys).state) (sym is)

-- nothing was settled
pub none_settled : {D : Type 0} {V : _} → (store : Store D V) → is_down store ≡ false → HasSettled (state_of store) [] (view_of store) (view_of store)
none_settled store up = record {
  same = ran_none (view_of store);
  any_moment = λ model. started (view_of store) (StandsForBeginning (state_of store) []) (λ image left. whole (state_of store) [] image (stands_now store model up image left));
}

pub some_settled : {D : Type 0} {V : _} → (store : Store D V) → is_down store ≡ false → HasSettledSome (state_of store) (view_of store) (view_of store)
some_settled store up = ([], none_settled store up)

-- ---- turns

-- one call behind another
pub listed_twice : {D R : Type 0} {V : _} → (old mid new : Committer D R V) → StaysListed old mid → StaysListed mid new → StaysListed old new
listed_twice old mid new first second builds state is = second builds state (first builds state is)

-- a store that is up stands for its state
stands_after : {D : Type 0} {V : _} → (store : Store D V) (state : State) → is_down store ≡ false → state_of store ≡ state → IsTrue (view_of store).keeps_model → KeepsThrough (view_of store) state
stands_after store state up is model = subst (λ (s : State). KeepsThrough (view_of store) s) is (stands_now store model up)

-- a turn more
pub turned_settles : {builds : Builds} {D R : Type 0} {V : _} → (first old new : Committer D R V) → IsOnCourse builds first old → HasTurned old new
    → HasSettled (state_of (store_of first)) (got_of new) (view_of (store_of first)) (view_of (store_of new))
turned_settles first old new on turn =
    let s = state_of (store_of first) in
    let got = got_of old in
    let more = taken old new in
    let all : got_of new ≡ got ++ more = turn.front in
    let before : (image : List ℕ) → StandsForBeginning s got image → StandsForBeginning s (got_of new) image = λ image here.
    subst (λ (l : List Request). StandsForBeginning s l image) (sym all) (longer s got more image here) in
    let asked : settled old new ≡ settle (state_of (store_of old)) more = ap (λ (l : List Request). settle (state_of (store_of old)) (l ++ more)) on.held in
    let then : (settle s (got ++ more)).state ≡ (settled old new).state = then_settled s (state_of (store_of old)) got more on.state ∙ ap (λ (t : Settled). t.state) (sym asked) in
    let after : (image : List ℕ) → StandsFor (state_of (store_of old)) image ⊎ StandsFor (settled old new).state image → StandsForBeginning s (got_of new) image = λ image.
    ⊎_elim (λ here. before image (whole s got image (subst (λ (t : State). StandsFor t image) on.state here)))
    (λ here. subst (λ (l : List Request). StandsForBeginning s l image) (sym all) (whole s (got ++ more) image (subst (λ (t : State). StandsFor t image) (sym then) here))) in
    record {
      same = ran_on (view_of (store_of first)) (view_of (store_of old)) (view_of (store_of new)) on.settled.same turn.same;
      any_moment = λ model.
          let still : IsTrue (view_of (store_of old)).keeps_model = subst IsTrue (sym on.settled.same.model) model in
          joined (view_of (store_of first)) (view_of (store_of old)) (view_of (store_of new)) (StandsForBeginning s got)
          (λ image. StandsFor (state_of (store_of old)) image ⊎ StandsFor (settled old new).state image) (StandsForBeginning s (got_of new))
          (on.settled.any_moment model) (turn.any_moment still on.up) before after;
    }

-- a turn more that settled all
pub on_course_still : {builds : Builds} {D R : Type 0} {V : _} → (first old new : Committer D R V) → IsOnCourse builds first old → HasTurned old new → HasSettledAll old new → StaysListed old new → IsOnCourse builds first new
on_course_still {builds} first old new on turn done lists =
    let asked : settled old new ≡ settle (state_of (store_of old)) (taken old new) = ap (λ (l : List Request). settle (state_of (store_of old)) (l ++ taken old new)) on.held in
    let all : (settle (state_of (store_of first)) (got_of new)).state ≡ (settled old new).state =
    ap (λ (l : List Request). (settle (state_of (store_of first)) l).state) turn.front
    ∙ then_settled (state_of (store_of first)) (state_of (store_of old)) (got_of old) (taken old new) on.state ∙ ap (λ (t : Settled). t.state) (sym asked) in
    record {
      up = done.up;
      held = done.held;
      state = done.state ∙ sym all;
      settled = turned_settles first old new on turn;
      listed = λ state is. lists builds state (on.listed state is);
      stands = stands_after (store_of new) (settle (state_of (store_of first)) (got_of new)).state done.up (done.state ∙ sym all);
    }

-- what is on the board goes with what was taken
board_posted : {builds : Builds} {D R : Type 0} {V : _} → (first : State) (c : Committer D R V) → IsListedFrom builds first c → ArePosted builds first (got_of c) (posts_of c).posted
board_posted first c is = posted_first first (posts_of c).posted (posts_of c).due (got_of c) is.done (length (got_of c)) (state_of (store_of c)) (is_down (store_of c)) is.lists

pub on_course_posted : {builds : Builds} {D R : Type 0} {V : _} → (first now : Committer D R V) → IsOnCourse builds first now → PostsAlong builds first now
on_course_posted first now on state is = board_posted state now (on.listed state is)

-- .. behind a turn more, whatever ends it
pub turned_posted : {builds : Builds} {D R : Type 0} {V : _} → (first old new : Committer D R V) → IsOnCourse builds first old → StaysListed old new → PostsAlong builds first new
turned_posted {builds} first old new on lists state is = board_posted state new (lists builds state (on.listed state is))

pub turned_listed : {builds : Builds} {D R : Type 0} {V : _} → (first old new : Committer D R V) → IsOnCourse builds first old → StaysListed old new → StaysListedSo builds first new
turned_listed {builds} first old new on lists state is = lists builds state (on.listed state is)

-- what stays one list is on the board
pub listed_posted : {builds : Builds} {D R : Type 0} {V : _} → (old new : Committer D R V) → StaysListedSo builds old new → PostsAlong builds old new
listed_posted old new lists state is = board_posted state new (lists state is)

-- ---- the queue

-- nothing was taken
pub queue_same : {D R : Type 0} {V : _} → (old new : Committer D R V) → taker_of new ≡ taker_of old → KeepsQueue old new
queue_same old new same = record {
  queue = ap (λ (t : Taking). t.queue) same;
  made = ap (λ (t : Taking). t.made) same;
  editors = subst (λ (t : Taking). AreOfEditors t.made t.got) (sym same);
}

pub queue_first : {D R : Type 0} {V : _} → (c : Committer D R V) → KeepsQueue c c
queue_first c = queue_same c c refl

-- one call behind another
pub queue_twice : {D R : Type 0} {V : _} → (old mid new : Committer D R V) → KeepsQueue old mid → KeepsQueue mid new → KeepsQueue old new
queue_twice old mid new first second = record { queue = second.queue ∙ first.queue; made = second.made ∙ first.made; editors = λ all. second.editors (first.editors all) }

-- what is of a session in a list's front is in the list
none_in_front : (s : ℕ) (got waits : List Request) → of s (got ++ waits) ≡ [] → of s got ≡ []
none_in_front s got waits none = front (of s got) (of s waits) (sym (filter-append (λ (r : Request). r.session == s) got waits) ∙ none)
  where
    front : (xs ys : List Request) → xs ++ ys ≡ [] → xs ≡ []
    front [] ys none = refl
    front (x ∷ xs) ys none = absurd (cc)

-- requests were taken from the front of the queue
pub queue_taken : {D R : Type 0} {V : _} → (old new : Committer D R V) → queue_of new ≡ queue_of old → HasTaken (taker_of old) (taker_of new) → KeepsQueue old new
queue_taken old new same taken = record {
  queue = same;
  made = taken.made;
  editors = λ all s above.
      ⊎_elim (λ none. ap (of s) none.0 ∙ all s (subst (λ (n : ℕ). n ≤ s) taken.made above)) (λ some. none_in_front s (got_of new) some.0 (some.1.0.1 s above)) taken.all;
}

-- ---- the beginning

-- a committer that has taken nothing
pub on_course_first : {builds : Builds} {D R : Type 0} {V : _} → (c : Committer D R V) → IsFresh c → IsOnCourse builds c c
on_course_first c fresh = record {
  up = fresh.up;
  held = fresh.held;
  state = ap (λ (l : List Request). (settle (state_of (store_of c)) l).state) (sym fresh.got);
  settled = subst (λ (l : List Request). HasSettled (state_of (store_of c)) l (view_of (store_of c)) (view_of (store_of c))) (sym fresh.got) (none_settled (store_of c) fresh.up);
  listed = λ state is. is;
  stands = stands_after (store_of c) (settle (state_of (store_of c)) (got_of c)).state fresh.up (ap (λ (l : List Request). (settle (state_of (store_of c)) l).state) (sym fresh.got));
}

-- .. and so with builds in turn
pub in_turn_first : {D R : Type 0} {V : _} → (c : Committer D R V) → IsFresh c → IsOnCourse InTurn c c
in_turn_first c fresh = on_course_first c fresh

pub in_turn_settles : {D R : Type 0} {V : _} → (first old new : Committer D R V) → IsOnCourse InTurn first old → HasTurned old new
    → HasSettled (state_of (store_of first)) (got_of new) (view_of (store_of first)) (view_of (store_of new))
in_turn_settles first old new on turn = turned_settles first old new on turn

-- ---- turns and rebuilds

-- a rebuild behind a turn leaves what the turn left
pub turned_still : {D R : Type 0} {V : _} → (old mid new : Committer D R V) → HasTurned old mid → StaysPut mid new → HasTurned old new
turned_still {V = V} old mid new turn stays = record {
  front = (λ i. (stays.taker i).got) ∙ turn.front ∙ ap (λ (l : List Request). got_of old ++ drop (length (got_of old)) l) (sym ((λ i. (stays.taker i).got)));
  same = subst (λ s. IsSameDevice (view_of (store_of old)) (view_of s)) (sym stays.store) turn.same;
  begun = stays.begun ∙ turn.begun;
  any_moment = λ model up.
      let left = subst (λ s. LeavesOnly (view_of (store_of old)) (view_of s) (λ image. StandsFor (state_of (store_of old)) image ⊎ StandsFor (settled old mid).state image)) (sym stays.store) (turn.any_moment model up) in
      subst (λ (l : List Request). LeavesOnly (view_of (store_of old)) (view_of (store_of new))
      (λ image. StandsFor (state_of (store_of old)) image ⊎ StandsFor (settle (state_of (store_of old)) (held_of old ++ drop (length (got_of old)) l)).state image)) (sym ((λ i. (stays.taker i).got))) left;
}

-- .. and a turn behind a posting what the turn left
pub still_turned : {D R : Type 0} {V : _} → (old mid new : Committer D R V) → StaysPut old mid → HasTurned mid new → HasTurned old new
still_turned {V = V} old mid new stays turn =
    let got : got_of mid ≡ got_of old = λ i. (stays.taker i).got in
    record {
      front = subst (λ (l : List Request). got_of new ≡ l ++ drop (length l) (got_of new)) got turn.front;
      same = subst (λ s. IsSameDevice (view_of s) (view_of (store_of new))) stays.store turn.same;
      begun = turn.begun ∙ stays.begun;
      any_moment = subst (λ (l : List Request). IsTrue (view_of (store_of old)).keeps_model → is_down (store_of old) ≡ false → LeavesOnly (view_of (store_of old)) (view_of (store_of new))
          (λ image. StandsFor (state_of (store_of old)) image ⊎ StandsFor (settle (state_of (store_of old)) (held_of old ++ drop (length l) (got_of new))).state image)) got
          (subst (λ (l : List Request). IsTrue (view_of (store_of old)).keeps_model → is_down (store_of old) ≡ false → LeavesOnly (view_of (store_of old)) (view_of (store_of new))
          (λ image. StandsFor (state_of (store_of old)) image ⊎ StandsFor (settle (state_of (store_of old)) (l ++ drop (length (got_of mid)) (got_of new))).state image)) stays.held
          (subst (λ s. IsTrue (view_of s).keeps_model → is_down s ≡ false → LeavesOnly (view_of s) (view_of (store_of new))
          (λ image. StandsFor (state_of s) image ⊎ StandsFor (settle (state_of s) (held_of mid ++ drop (length (got_of mid)) (got_of new))).state image)) stays.store turn.any_moment));
    }

pub fresh_still : {D R : Type 0} {V : _} → (old new : Committer D R V) → IsFresh old → StaysPut old new → IsFresh new
fresh_still old new fresh stays = record { up = ap (λ s. is_down s) stays.store ∙ fresh.up; held = stays.held ∙ fresh.held; got = (λ i. (stays.taker i).got) ∙ fresh.got }

-- a committer that stayed put hands back a store on which nothing was settled
pub some_settled_still : {D R : Type 0} {V : _} → (old new : Committer D R V) → is_down (store_of old) ≡ false → StaysPut old new → HasSettledSome (state_of (store_of old)) (view_of (store_of old)) (view_of (store_of new))
some_settled_still old new up stays =
    subst (λ s. HasSettledSome (state_of (store_of old)) (view_of (store_of old)) (view_of s)) (sym stays.store) (some_settled (store_of old) up)

-- ---- the disk itself

-- an opening, and what was settled behind it
pub opened_leaves : (state first : State) (disk opened new : DiskView) → first ≡ state → OnlyRead disk opened → KeepsThrough disk state → IsTrue opened.keeps_model → HasSettledSome first opened new → LeavesBeginnings state disk new
opened_leaves state first disk opened new same reads keeps model (requests, done) =
    let run : LeavesOnly opened new (StandsForBeginning state requests) = subst (λ (s : State). LeavesOnly opened new (StandsForBeginning s requests)) same (done.any_moment model) in
    let begun : (image : List ℕ) → StandsFor state image → StandsForBeginning state requests image = λ image here. (0, omega arith, here) in
    (requests, joined disk opened new (StandsFor state) (StandsForBeginning state requests) (StandsForBeginning state requests) (reading_leaves disk opened (StandsFor state) reads keeps) run begun (λ image here. here))

-- a device that was only read holds what it held
pub read_leaves : (state : State) (disk new : DiskView) → OnlyRead disk new → KeepsThrough disk state → LeavesBeginnings state disk new
read_leaves state disk new reads keeps =
    ([], reading_leaves disk new (StandsForBeginning state []) reads (λ image left. whole state [] image (keeps image left)))

-- what a service's thread leaves, where the disk comes back
pub served_leaves : {D T : Type 0} {V : _} → (state : State) (disk : D) (store : Store D V) (result : Result T StopCause) (back : Option D) → state_of store ≡ state → OnlyRead (V.view disk) (view_of store) → KeepsThrough (V.view disk) state
    → IsTrue (view_of store).keeps_model → IfSome back (λ d. IsServedDisk store result (V.view d)) → IfSome back (λ d. LeavesBeginnings state (V.view disk) (V.view d))
served_leaves {V = V} state disk store result (Some d) same reads keeps model served =
    opened_leaves state (state_of store) (V.view disk) (view_of store) (V.view d) same reads keeps model served.settled
served_leaves state disk store result None same reads keeps model served = tt

-- and it is the device that was opened
pub served_same : {D T : Type 0} {V : _} → (disk : D) (store : Store D V) (result : Result T StopCause) (back : Option D) → IsSameDevice (V.view disk) (view_of store)
    → IfSome back (λ d. IsServedDisk store result (V.view d)) → IfSome back (λ d. IsSameDevice (V.view disk) (V.view d))
served_same {V = V} disk store result (Some d) opened served = ran_on (V.view disk) (view_of store) (V.view d) opened served.settled.1.same
served_same disk store result None opened served = tt
