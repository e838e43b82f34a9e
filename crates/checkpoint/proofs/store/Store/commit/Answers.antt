use Rattle.std.proofs.Common.{arith, rules, ◌≡◌, ◌⊎◌, ◌+◌, length, refl, ap, sym, ◌∙◌, IsTrue, List, ℕ, subst, Some}
use Rattle.std.specs.Prelude.{Err}
use Rattle.disk_trait.specs.Disk.{LeavesOnly}
use Rattle.layout_2.specs.State.{State, state_with, changes_of, after}
use Rattle.layout_2.specs.Standing.{StandsFor}
use Rattle.checkpoint.specs.Kept.{kept_stands}
use Rattle.checkpoint.specs.StoreWords.{state_of, view_of}
use Rattle.layout_2.proofs.Folds.{after_count, after_is, nodes_fold}
use Rattle.checkpoint.proofs.Commits.{appending, kept_appended, not_begun}
use Rattle.checkpoint.proofs.SameStore.{same_store}
use Rattle.checkpoint.proofs.store.Store.commit.Goals as goal

pub returns-then-self-requests-clause-any_moment : goal.returns-then-self-requests-clause-any_moment
returns-then-self-requests-clause-any_moment g c model up next goes = not_begun c.args.self.now next c.args.requests.now model up

pub returns-then-not-has_room-clause-any_moment : goal.returns-then-not-has_room-clause-any_moment
returns-then-not-has_room-clause-any_moment g c model up next goes = not_begun c.args.self.now next c.args.requests.now model up

pub returns-in_err-prepared-clause-any_moment : goal.returns-in_err-prepared-clause-any_moment
returns-in_err-prepared-clause-any_moment g c model up next goes = not_begun c.args.self.now next c.args.requests.now model up

pub returns-in-Err-Memory-clause-any_moment : goal.returns-in-Err-Memory-clause-any_moment
returns-in-Err-Memory-clause-any_moment g c model up next goes =
    let P : List ℕ → Type 0 = λ image. StandsFor (state_of c.args.self.now) image ⊎ StandsFor next image in
    let same = c.in-Err-Memory.ensures.memory_same in
    subst (λ d. LeavesOnly (view_of c.args.self.now) (g.D.Disk.view d) P) (sym (same (ap Err c.in-Err-Memory.field-0-is))) (not_begun c.args.self.now next c.args.requests.now model up)

pub returns-in-Err-Device-clause-any_moment : goal.returns-in-Err-Device-clause-any_moment
returns-in-Err-Device-clause-any_moment g c model up next goes =
    appending c.args.self.now next c.args.requests.now model up (g.D.Disk.view c.append.new.disk) goes c.requires.in_turn (omega (arith, after_count (state_of c.args.self.now) next c.args.requests.now goes))
    (c.append.ensures.any_moment model)

pub returns-clause-any_moment : goal.returns-clause-any_moment
returns-clause-any_moment g c model up next goes =
    appending c.args.self.now next c.args.requests.now model up (g.D.Disk.view c.append.new.disk) goes c.requires.in_turn (omega (arith, after_count (state_of c.args.self.now) next c.args.requests.now goes))
    (c.append.ensures.any_moment model)

pub returns-clause-nodes : goal.returns-clause-nodes
returns-clause-nodes g c = ap (λ n. n.nodes) c.install.ensures ∙ nodes_fold c.args.self.now.graph c.in_ok-prepared.prepared.after (changes_of c.args.requests.now) (sym c.in_ok-prepared.ensures.after)

pub invariant_of-self-in-Ok-clause-kept : goal.invariant_of-self-in-Ok-clause-kept
invariant_of-self-in-Ok-clause-kept g c model_new up =
    let s = c.args.self.now in
    let v0 = view_of s in
    let model : IsTrue v0.keeps_model = subst IsTrue c.append.ensures.ran.model model_new in
    let next : State = state_with (s.count + length c.args.requests.now) c.install.new.self c.raise_all.new.tickets in
    let goes : after (state_of s) c.args.requests.now ≡ Some next = after_is (state_of s) c.args.requests.now c.install.new.self (sym c.in_ok-prepared.ensures.after ∙ ap Some (sym c.install.ensures)) ∙ ap (λ (ts : List ℕ). Some (state_with (s.count + length c.args.requests.now) c.install.new.self ts)) (sym c.raise_all.ensures) in
    kept_appended v0 (g.D.Disk.view c.append.new.disk) s.journal c.append.new.self s.slot s.epoch s.other_gate _ (state_of s) next c.args.requests.now s.two_slots (rw (s.at, s.room) refl) (s.kept model up) goes c.requires.in_turn
    c.append.ensures.area c.in-Ok.ensures.grows (λ known. (c.append.ensures.any_moment model known).now) (c.in-Ok.ensures.ok model)

pub returns-clause-ok : goal.returns-clause-ok
returns-clause-ok g c =
    let s = c.args.self.now in
    let v0 = view_of s in
    let next : State = state_with (s.count + length c.args.requests.now) c.install.new.self c.raise_all.new.tickets in
    let goes : after (state_of s) c.args.requests.now ≡ Some next = after_is (state_of s) c.args.requests.now c.install.new.self (sym c.in_ok-prepared.ensures.after ∙ ap Some (sym c.install.ensures)) ∙ ap (λ (ts : List ℕ). Some (state_with (s.count + length c.args.requests.now) c.install.new.self ts)) (sym c.raise_all.ensures) in
    let v1 = g.D.Disk.view c.append.new.disk in
    record {
      state = goes;
      appended = search rules;
      durable = λ model. kept_stands v1 s.slot s.epoch s.other_gate (state_with s.base_count.value s.base.value s.base_tickets.value) next c.append.new.self.groups s.two_slots (omega (arith, c.if-self-requests.false))
          (kept_appended v0 v1 s.journal c.append.new.self s.slot s.epoch s.other_gate _ (state_of s) next c.args.requests.now s.two_slots (rw (s.at, s.room) refl) (s.kept model c.if-self.false) goes c.requires.in_turn
          c.append.ensures.area c.in-Ok.ensures.grows (λ known. (c.append.ensures.any_moment model known).now) (c.in-Ok.ensures.ok model));
      no_failure = c.in-Ok.ensures.no_failure;
    }

pub returns-in-Err-Memory-clause-refused : goal.returns-in-Err-Memory-clause-refused
returns-in-Err-Memory-clause-refused g c =
    let is = ap Err c.in-Err-Memory.field-0-is in
    record {
      down = search rules;
      worn = search rules;
      needs_roll = search rules;
      rolled_fits = search rules;
      device = search rules;
      lost = search rules;
      stays_up = search rules;
      state = search rules;
      untouched = λ _ _. same_store _ c.args.self.now (c.in-Err-Memory.ensures.memory_same is) c.in-Err-Memory.ensures.err refl refl refl refl refl refl refl refl refl refl;
    }
