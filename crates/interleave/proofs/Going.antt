-- A run of a world goes on by one event, with its desk.
use Rattle.std.proofs.Common.{List, [], ◌∷◌, ◌++◌, refl, ap, subst, ◌≡◌, ℕ, map, sym, ◌∙◌, IsTrue, append_assoc, append-nil}
use Rattle.std.specs.List.{AllByRecursion}
use Rattle.std.proofs.lemmas.List.{map-append}
use Rattle.layout_2.specs.State.{State}
use Rattle.event_model.specs.declared.event.Event.{Event}
use Rattle.event_model.specs.declared.reply.Reply.{Reply}
use Rattle.event_model.specs.Runs.{Run}
use Rattle.event_laws.specs.Runs.{LeavesPrefix, Holds, IsRun}
use Rattle.event_laws.specs.Listed.{IsListed}
use Rattle.event_laws.specs.QueueLaws.{AnswersKeep, AcknowledgedStay}
use Rattle.interleave.specs.declared.world.World.{World}
use Rattle.interleave.specs.WorldWords.{machine_of, lists_of, world_view}
use Rattle.interleave.specs.Desks.{WorldStep, WorldRun}
use Rattle.interleave.specs.Crashes.{HasWorlds, IsSafeSince, moment_at}

-- one event more
pub desks_push : {D : Type 0} {V : _} → (w v : World D V) (es : List Event) (rs : List Reply) (ws : List (World D V)) (e : Event) (r : Reply) (k : World D V) → WorldRun w es rs ws v → WorldStep e v r k
    → WorldRun w (es ++ e ∷ []) (rs ++ r ∷ []) (ws ++ k ∷ []) k
desks_push {D = D} {V = V} w v [] [] [] e r k run one = (subst (λ (x : World D V). WorldStep e x r k) run one, refl)
desks_push w v (x ∷ es) (y ∷ rs) (z ∷ ws) e r k run one = (run.0, desks_push z v es rs ws e r k run.1 one)
desks_push w v es rs ws e r k run one = absurd run

-- its machines are a run of the events
pub desks_run : {D : Type 0} {V : _} → (w v : World D V) (es : List Event) (rs : List Reply) (ws : List (World D V)) → WorldRun w es rs ws v → Run (machine_of w) es rs (machine_of v)
desks_run {D = D} {V = V} w v [] [] [] run = ap (λ (x : World D V). machine_of x) run
desks_run w v (x ∷ es) (y ∷ rs) (z ∷ ws) run = (machine_of z, (run.0.answers, desks_run z v es rs ws run.1))
desks_run w v es rs ws run = absurd run

-- before the first event
pub none_yet : {D : Type 0} {V : _} → (w : World D V) → HasWorlds w [] [] w
none_yet w = record {
  each = [];
  steps = refl;
  goes_on = λ model first before run. subst (λ (ms : List (ℕ × ℕ)). IsRun first (world_view w) (lists_of w) ms) (sym (append-nil before)) run;
}

-- one event more, by which the run of the store goes on
pub one_more : {D : Type 0} {V : _} → (w v : World D V) (es : List Event) (rs : List Reply) (e : Event) (r : Reply) (k : World D V) → HasWorlds w es rs v → WorldStep e v r k
    → (IsTrue (world_view w).keeps_model → (first : State) (ms : List (ℕ × ℕ)) → IsRun first (world_view v) (lists_of v) ms → IsRun first (world_view k) (lists_of k) (ms ++ moment_at k ∷ []))
    → HasWorlds w (es ++ e ∷ []) (rs ++ r ∷ []) k
one_more {D = D} {V = V} w v es rs e r k so_far step goes =
    let f : World D V → ℕ × ℕ = λ x. moment_at x in
    record {
      each = so_far.each ++ k ∷ [];
      steps = desks_push w v es rs so_far.each e r k so_far.steps step;
      goes_on = λ model first before run.
          let all : (before ++ map f so_far.each) ++ f k ∷ [] ≡ before ++ map f (so_far.each ++ k ∷ []) =
          append_assoc before (map f so_far.each) (f k ∷ []) ∙ ap (λ (ms : List (ℕ × ℕ)). before ++ ms) (sym (map-append f so_far.each (k ∷ []))) in
          subst (λ (ms : List (ℕ × ℕ)). IsRun first (world_view k) (lists_of k) ms) all (goes model first (before ++ map f so_far.each) (so_far.goes_on model first before run));
    }

-- what is left since one of them
since : {D : Type 0} {V : _} → AcknowledgedStay → (first : State) (now w : World D V) (es : List Event) (rs : List Reply) (ws : List (World D V)) → IsListed first (machine_of w) → WorldRun w es rs ws now
    → LeavesPrefix first (world_view now) (lists_of now) (world_view w).clock (machine_of w).state.count → IsSafeSince first now w
since stay first now w es rs ws listed run left = λ image was.
    let prefix = left image was in
    record { prefix = prefix; acknowledged = stay first (machine_of w) es rs (machine_of now) prefix.at listed (desks_run w now es rs ws run) prefix.holds }

-- a crash since each of the worlds of a run is safe, by the run's moments
pub safe_each : {D : Type 0} {V : _} → AnswersKeep → AcknowledgedStay → (first : State) (now w : World D V) (es : List Event) (rs : List Reply) (ws : List (World D V)) → IsListed first (machine_of w) → WorldRun w es rs ws now
    → Holds first (world_view now) (lists_of now) (map (λ x. moment_at x) (w ∷ ws)) → AllByRecursion (IsSafeSince first now) (w ∷ ws)
safe_each keeps stay first now w [] [] [] listed run holds = (since stay first now w [] [] [] listed run holds.0.2, tt)
safe_each keeps stay first now w (x ∷ es) (y ∷ rs) (z ∷ ws) listed run holds =
    (since stay first now w (x ∷ es) (y ∷ rs) (z ∷ ws) listed run holds.0.2, safe_each keeps stay first now z es rs ws (keeps first x (machine_of w) y (machine_of z) listed run.0.answers) run.1 holds.1)
safe_each keeps stay first now w es rs ws listed run holds = absurd run
