-- How builds go on beside the rounds.
use Rattle.std.proofs.Common.{◌≡◌, ◌≢◌, ◌≤◌, ◌<◌, ℕ, List, [], ◌-◌, ◌++◌, length, take, Option, Some, None, IsTrue, sym, ap, ◌∙◌, subst, append-nil, arith, length-append, le_refl}
use Rattle.std.specs.Prelude.{IfSome}
use Rattle.std.specs.Option.{option_map}
use Rattle.std.proofs.lemmas.List.{take-append-le}
use Rattle.std.proofs.Math.Seq.{take-length, take-nil}
use Rattle.graph_edits.specs.Edges.{Network}
use Rattle.requests.specs.declared.request.Request.{Request}
use Rattle.layout_2.specs.State.{State}
use Rattle.layout_2.specs.Standing.{KeepsThrough}
use Rattle.checkpoint.specs.StoreWords.{is_down, state_of, view_of}
use Rattle.schemes.specs.declared.parts.Parts.{Parts}
use Rattle.schemes.specs.Tables.{tables}
use Rattle.schemes.specs.Service.{Serves}
use Rattle.generations.specs.declared.posting.Notice.{Notice}
use Rattle.generations.specs.Notices.{newest_in}
use Rattle.group_commit.specs.Settling.{settle}
use Rattle.request_lists.specs.declared.builds.Builds.{Builds}
use Rattle.request_lists.specs.declared.builds.Builds.TheVariants.{Beside}
use Rattle.request_lists.specs.Lists.{IsAhead}
use Rattle.request_lists.proofs.Steps.{first_count}
use Rattle.committer.specs.declared.committer.Committer.{Committer}
use Rattle.committer.specs.Answers.{StaysPut}
use Rattle.committer.specs.CommitterWords.{begun_of, got_of, held_of, posts_of, settled, store_of, taken}
use Rattle.committer.specs.Listed.{IsEarlier, IsListedFrom, StaysListed, StaysListedBegun, StaysListedSo}
use Rattle.committer.specs.Outboxes.{all_of}
use Rattle.committer.specs.Ties.{before_held}
use Rattle.committer.proofs.Settles.{settles}
use Rattle.service_actors.specs.declared.graphs.GenerationGraph.{GenerationGraph}
use Rattle.committer_thread.specs.declared.beside.Build.{Build}
use Rattle.committer_thread.specs.declared.committing.RebuildSchedule.{RebuildSchedule}
use Rattle.committer_thread.specs.Beside.{GoesBeside, IsOnWay, graph_of}
use Rattle.committer_thread.specs.Kept.{HasSettled, HasSettledAll, HasTurned, IsFresh, IsOnCourse}
use Rattle.committer_thread.specs.Pace.{IsShown}
use Rattle.committer_thread.specs.Tables.{IsBuiltOf, IsGraphOf}
use Rattle.committer_thread.proofs.Settling.{on_course_first, on_course_still}

-- ---- what is being built

-- it is on its way from a longer list too
pub on_way_more : (s : State) (got more : List Request) (newest : Option ℕ) (of : GenerationGraph) → IsOnWay s got newest of → IsOnWay s (got ++ more) newest of
on_way_more s got more newest of way = record {
  at = way.at;
  within = let l = length-append got more in let w = way.within in omega (arith, l, w);
  of_state = subst (λ (l : List Request). IsGraphOf (settle s l).state of) (sym (take-append-le way.at got more way.within)) way.of_state;
  ahead = way.ahead;
}

-- the graph of the state after the whole list
pub on_way_whole : (s : State) (got : List Request) (state : State) (newest : Option ℕ) (of : GenerationGraph) → state ≡ (settle s got).state → IsGraphOf state of → IfSome newest (λ n. n < of.generation) → IsOnWay s got newest of
on_way_whole s got state newest of is here ahead = record {
  at = length got;
  within = le_refl (length got);
  of_state = subst (λ (x : State). IsGraphOf x of) (is ∙ ap (λ (l : List Request). (settle s l).state) (sym (take-length got))) here;
  ahead = ahead;
}

-- the store has reached its number, where all that was taken is settled
pub way_reached : (s : State) (got : List Request) (state : State) (newest : Option ℕ) (of : GenerationGraph) → state ≡ (settle s got).state → IsOnWay s got newest of → of.generation ≤ state.count
way_reached s got state newest of is way =
    let whole : (settle s (take (length got) got)).state ≡ state = ap (λ (l : List Request). (settle s l).state) (take-length got) ∙ sym is in
    let all : (settle s (take (length got) got)).state.count ≡ state.count = ap (λ (x : State). x.count) whole in
    let few = first_count s got way.at (length got) way.within in
    let number = way.of_state.number in
    omega (arith, few, all, number)

-- its number is above all that are posted
pub is_ahead : {D R : Type 0} {V : _} → (c : Committer D R V) (newest : Option ℕ) (number : ℕ) → IsShown newest c → IfSome newest (λ n. n < number) → IsAhead number (all_of (posts_of c))
is_ahead c newest number shown above g at =
    let all : all_of (posts_of c) ≡ (posts_of c).posted = ap (λ (l : List Notice). (posts_of c).posted ++ l) shown.nothing_due ∙ append-nil (posts_of c).posted in
    let here : newest_in (posts_of c).posted ≡ Some g = ap newest_in (sym all) ∙ at in
    let same : newest ≡ Some g.0 = sym shown.newest ∙ ap (option_map (λ (x : ℕ × Parts). x.0)) here in
    subst (λ (o : Option ℕ). IfSome o (λ n. n < number)) same above

-- a scheme of it is one of an earlier state
pub earlier_of : {D R : Type 0} {V : _} → (s : State) (c : Committer D R V) (newest : Option ℕ) (number : ℕ) (of : GenerationGraph) (scheme : Parts) → held_of c ≡ [] → IsOnWay s (got_of c) newest of → IsBuiltOf of scheme → number ≡ scheme.generation
    → IsEarlier s c number scheme
earlier_of s c newest number of scheme none way built same =
    let held : length (held_of c) ≡ 0 = ap (λ (l : List Request). length l) none in
    record {
      at = way.at;
      settled = let w = way.within in omega (arith, held, w);
      number_is = same ∙ (built.named ∙ way.of_state.number);
      named = sym same;
      serves = subst (λ (m : Network). Serves m (tables scheme)) way.of_state.graph built.serves;
    }

-- ---- the committer

-- a committer that took nothing is listed from its store's state alone
pub listed_state : {D R : Type 0} {V : _} → (builds : Builds) (s : State) (c : Committer D R V) → got_of c ≡ [] → IsListedFrom builds s c → s ≡ state_of (store_of c)
listed_state builds s c none is =
    sym (is.lists.state_is ∙ ap (λ (l : List Request). (settle s l).state) (ap (λ (l : List Request). take is.done l) none ∙ take-nil is.done))

-- a committer that stayed put, but for what it posted
pub on_course_put : {builds : Builds} {D R : Type 0} {V : _} → (first old new : Committer D R V) → IsOnCourse builds first old → StaysPut old new → StaysListedSo builds first new → IsOnCourse builds first new
on_course_put first old new on stays lists =
    let got : got_of new ≡ got_of old = λ i. (stays.taker i).got in
    record {
      up = ap (λ s. is_down s) stays.store ∙ on.up;
      held = stays.held ∙ on.held;
      state = ap (λ s. state_of s) stays.store ∙ (on.state ∙ ap (λ (l : List Request). (settle (state_of (store_of first)) l).state) (sym got));
      settled = subst (λ (l : List Request). HasSettled (state_of (store_of first)) l (view_of (store_of first)) (view_of (store_of new))) (sym got)
          (subst (λ s. HasSettled (state_of (store_of first)) (got_of old) (view_of (store_of first)) (view_of s)) (sym stays.store) on.settled);
      listed = lists;
      stands = subst (λ (l : List Request). IsTrue (view_of (store_of new)).keeps_model → KeepsThrough (view_of (store_of new)) (settle (state_of (store_of first)) l).state) (sym got)
          (subst (λ s. IsTrue (view_of s).keeps_model → KeepsThrough (view_of s) (settle (state_of (store_of first)) (got_of old)).state) (sym stays.store) on.stands);
    }

-- ---- how it goes on

-- what is said of what is being built, if something is
some_more : (P Q : Build → Type 0) (building : Option Build) → ((b : Build) → P b → Q b) → IfSome building P → IfSome building Q
some_more P Q (Some b) then is = then b is
some_more P Q None then is = tt

-- and so of a number
number_more : (P Q : ℕ → Type 0) (number : Option ℕ) → ((n : ℕ) → P n → Q n) → IfSome number P → IfSome number Q
number_more P Q (Some n) then is = then n is
number_more P Q None then is = tt

-- it begins in its store's state
begun_fresh : {D R : Type 0} {V : _} → (c : Committer D R V) → IsFresh c → begun_of c ≡ state_of (store_of c)
begun_fresh c fresh = sym (c.led.led ∙ ap (λ (l : List Request). (settle (begun_of c) (before_held (held_of c) l)).state) fresh.got ∙ ap (λ (l : List Request). (settle (begun_of c) l).state) (take-nil (0 - length (held_of c))))

-- at the beginning
pub goes_first : {D R : Type 0} {V : _} → (c : Committer D R V) (rebuilds : RebuildSchedule) → IsFresh c → IsShown None c → rebuilds.newest ≡ None → rebuilds.building ≡ None → GoesBeside c c rebuilds
goes_first c rebuilds fresh bare newest none = record {
  begun = fresh.got;
  from = begun_fresh c fresh;
  on = on_course_first c fresh;
  shown = subst (λ (n : Option ℕ). IsShown n c) (sym newest) bare;
  reached = subst (λ (n : Option ℕ). IfSome n (λ k. k ≤ (state_of (store_of c)).count)) (sym newest) tt;
  building = subst (λ (o : Option Build). IfSome o (λ b. IsOnWay (state_of (store_of c)) (got_of c) rebuilds.newest (graph_of b))) (sym none) tt;
}

-- behind a round
pub goes_round : {D R : Type 0} {V : _} → (first old new : Committer D R V) (rebuilds : RebuildSchedule) → GoesBeside first old rebuilds → HasTurned old new → HasSettledAll old new → StaysListed old new → IsShown rebuilds.newest new
    → GoesBeside first new rebuilds
goes_round first old new rebuilds goes turn done lists shown =
    let s = state_of (store_of first) in
    let count = (settles (state_of (store_of old)) (held_of old ++ taken old new)).count in
    let after : (state_of (store_of new)).count ≡ (settled old new).state.count = ap (λ (x : State). x.count) done.state in
    let before = goes.reached in
    record {
      begun = goes.begun;
      from = turn.begun ∙ goes.from;
      on = on_course_still first old new goes.on turn done lists;
      shown = shown;
      reached = number_more (λ (n : ℕ). n ≤ (state_of (store_of old)).count) (λ (n : ℕ). n ≤ (state_of (store_of new)).count) rebuilds.newest (λ n is. omega (arith, count, after, is)) before;
      building = subst (λ (l : List Request). IfSome rebuilds.building (λ b. IsOnWay s l rebuilds.newest (graph_of b))) (sym turn.front)
          (some_more (λ b. IsOnWay s (got_of old) rebuilds.newest (graph_of b)) (λ b. IsOnWay s (got_of old ++ taken old new) rebuilds.newest (graph_of b)) rebuilds.building
          (λ b way. on_way_more s (got_of old) (taken old new) rebuilds.newest (graph_of b) way) goes.building);
    }

-- what is being built, where something is
pub way_of : {D R : Type 0} {V : _} → (first now : Committer D R V) (rebuilds : RebuildSchedule) (build : Build) → GoesBeside first now rebuilds → rebuilds.building ≡ Some build → IsOnWay (state_of (store_of first)) (got_of now) rebuilds.newest (graph_of build)
way_of first now rebuilds build goes some = subst (λ (o : Option Build). IfSome o (λ b. IsOnWay (state_of (store_of first)) (got_of now) rebuilds.newest (graph_of b))) some goes.building

-- what was taken stays one list with what was built
pub goes_listed : {D R : Type 0} {V : _} → (first old new : Committer D R V) (rebuilds : RebuildSchedule) → GoesBeside first old rebuilds → StaysListedBegun old new → StaysListedSo Beside first new
goes_listed first old new rebuilds goes lists s is =
    let same : s ≡ begun_of old = listed_state Beside s first goes.begun is ∙ sym goes.from in
    subst (λ (x : State). IsListedFrom Beside x new) (sym same) (lists (subst (λ (x : State). IsListedFrom Beside x old) same (goes.on.listed s is)))

-- a newest number that isn't passed, and isn't this one, is below
below : (newest : Option ℕ) (count : ℕ) → IfSome newest (λ n. n ≤ count) → newest ≢ Some count → IfSome newest (λ n. n < count)
below (Some n) count le other = (let most : n ≤ count = le in let apart : n ≢ count = λ same. other (ap (λ (k : ℕ). Some k) same) in omega (arith, most, apart))
below None count le other = tt

-- it is on its way from the committer's beginning
pub goes_way : {D R : Type 0} {V : _} → (first now : Committer D R V) (rebuilds : RebuildSchedule) (build : Build) → GoesBeside first now rebuilds → rebuilds.building ≡ Some build → IsOnWay (begun_of now) (got_of now) rebuilds.newest (graph_of build)
goes_way first now rebuilds build goes some = subst (λ (x : State). IsOnWay x (got_of now) rebuilds.newest (graph_of build)) (sym goes.from) (way_of first now rebuilds build goes some)

-- it was posted
pub goes_posted : {D R : Type 0} {V : _} → (first old new : Committer D R V) (before after : RebuildSchedule) (build : Build) (number : ℕ) → GoesBeside first old before → before.building ≡ Some build → StaysPut old new → StaysListedBegun old new
    → number ≡ (graph_of build).generation → IsShown (Some number) new → after.newest ≡ Some number → after.building ≡ None → GoesBeside first new after
goes_posted first old new before after build number goes some stays lists same shown newest none =
    let reached = way_reached (state_of (store_of first)) (got_of old) (state_of (store_of old)) before.newest (graph_of build) goes.on.state (way_of first old before build goes some) in
    let count : (state_of (store_of new)).count ≡ (state_of (store_of old)).count = ap (λ s. (state_of s).count) stays.store in
    record {
      begun = goes.begun;
      from = stays.begun ∙ goes.from;
      on = on_course_put first old new goes.on stays (goes_listed first old new before goes lists);
      shown = subst (λ (n : Option ℕ). IsShown n new) (sym newest) shown;
      reached = subst (λ (n : Option ℕ). IfSome n (λ k. k ≤ (state_of (store_of new)).count)) (sym newest) (omega (arith, reached, count, same));
      building = subst (λ (o : Option Build). IfSome o (λ b. IsOnWay (state_of (store_of first)) (got_of new) after.newest (graph_of b))) (sym none) tt;
    }

-- a build of the store's graph was begun
pub goes_begun : {D R : Type 0} {V : _} → (first now : Committer D R V) (before after : RebuildSchedule) (build : Build) → GoesBeside first now before → IsGraphOf (state_of (store_of now)) (graph_of build) → before.newest ≢ Some (state_of (store_of now)).count
    → after.newest ≡ before.newest → after.building ≡ Some build → GoesBeside first now after
goes_begun first now before after build goes here behind newest some =
    let state = state_of (store_of now) in
    let number = here.number in
    let above = subst (λ (k : ℕ). IfSome before.newest (λ n. n < k)) (sym number) (below before.newest state.count goes.reached behind) in
    let way : IsOnWay (state_of (store_of first)) (got_of now) before.newest (graph_of build) = on_way_whole (state_of (store_of first)) (got_of now) state before.newest (graph_of build) goes.on.state here above in
    record {
      begun = goes.begun;
      from = goes.from;
      on = goes.on;
      shown = subst (λ (n : Option ℕ). IsShown n now) (sym newest) goes.shown;
      reached = subst (λ (n : Option ℕ). IfSome n (λ k. k ≤ state.count)) (sym newest) goes.reached;
      building = subst (λ (x : Option ℕ × Option Build). IfSome x.1 (λ b. IsOnWay (state_of (store_of first)) (got_of now) x.0 (graph_of b))) (λ i. (sym newest i, sym some i)) way;
    }
