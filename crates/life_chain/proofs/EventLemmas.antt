-- What the reply to an event says of the committer and of the count, and that what is told of groups fits what the machine has come to.
use Rattle.std.proofs.Common.{arith, ◌≡◌, ◌+◌, ℕ, Bool, true, false, List, [], refl, sym, ◌∙◌, ◌<◌, ◌≤◌, inl, inr, ◌++◌, cond, ◌∷◌, ap, subst}
use Rattle.std.proofs.lemmas.Bool.{cases_lt}
use Rattle.requests.specs.declared.request.Request.{Request}
use Rattle.layout_2.specs.State.{State}
use Rattle.group_commit.specs.declared.refused.DeskRefused.TheVariants.{Device, Worn}
use Rattle.group_commit.proofs.SettlingLemmas.{settled_count}
use Rattle.event_model.specs.declared.event.Event.{Event}
use Rattle.event_model.specs.declared.reply.Reply.{Reply}
use Rattle.event_model.specs.declared.reply.Reply.TheVariants.{Taken, Committed, NotCommitted, Rebuilt, NotRebuilt, Memory}
use Rattle.event_model.specs.Machines.{Machine, held, committed, begun}
use Rattle.event_model.specs.Answers.{RebuildAnswers, Answers, number_of}
use Rattle.event_model.specs.declared.event.Event.TheVariants.{Commit}
use Rattle.event_laws.specs.Queues.{let_in_by}
use Rattle.event_laws.specs.History.{Whole, EndBy}
use Rattle.event_laws.specs.Replies.{RunRoutes}
use Rattle.event_laws.proofs.CameTo.{IsQuiet, is_route, CameTo, stays, asks, looks, takes, commits, loses, wears, posts, builds, routes, rebuild_comes, came_to}
use Rattle.event_laws.proofs.Every.{all_as, all_push, on_bool}
use Rattle.event_laws.proofs.RunLemmas.{whole_ends, whole_push}
use Rattle.event_laws.proofs.QueueLemmas.{queued}
use Rattle.life_chain.specs.Groups.{Given, with_group, nothing_given, given_after, given_by}

-- what the committer has come to in a machine
abbrev pub come_to : Machine → Given
come_to m = record { taken = m.taken; done = m.done; groups = m.groups; down = m.down }

-- after a reply, with the groups that a machine has: none of a commit that had no memory
abbrev pub stored_after : Given → Reply → Given
stored_after g (Taken session ticket) = record g { taken = g.taken + 1 }
stored_after g (Committed accepted) = record (with_group g) { done = g.taken }
stored_after g (NotCommitted Device) = record (with_group g) { down = true }
stored_after g (NotCommitted Worn) = with_group g
stored_after g reply = g

-- how many changes the store has after a reply
abbrev pub count_after : ℕ → Reply → ℕ
count_after count (Committed accepted) = count + accepted
count_after count reply = count

-- as many more as it answers for
pub count_after_is : (count : ℕ) (reply : Reply) → count_after count reply ≡ count + number_of reply
count_after_is count (Committed accepted) = refl
count_after_is count reply = omega arith

-- what the committer has come to, and how many changes the store has
pub record Tally : Type 0 where
  pub committer : Given
  pub count : ℕ

-- in a machine
abbrev pub tally_of : Machine → Tally
tally_of m = record { committer = come_to m; count = m.state.count }

-- after a reply
abbrev pub tally_after : Tally → Reply → Tally
tally_after t reply = record { committer = stored_after t.committer reply; count = count_after t.count reply }

-- a reply says so
abbrev pub Gives : Machine → Reply → Machine → Type 0
Gives m reply n = tally_after (tally_of m) reply ≡ tally_of n

-- by a quiet one nothing of it changes
quiet_keeps : (t : Tally) (reply : Reply) → IsQuiet reply → tally_after t reply ≡ t
quiet_keeps t (Taken session ticket) quiet = absurd quiet
quiet_keeps t (Committed accepted) quiet = absurd quiet
quiet_keeps t (NotCommitted Device) quiet = absurd quiet
quiet_keeps t (NotCommitted Worn) quiet = absurd quiet
quiet_keeps t reply quiet = refl

gives_by : (m : Machine) (routed : Bool) (more : List Request) (reply : Reply) (n : Machine) → CameTo m routed more reply n → Gives m reply n
gives_by m routed more reply n (stays b q quiet) = quiet_keeps (tally_of m) q quiet
gives_by m routed more reply n (asks x r at none) = refl
gives_by m routed more reply n (looks s x seen outcome at) = refl
gives_by m routed more reply n (takes r at none) = refl
gives_by m routed more reply n (commits some up) = λ i. record { committer = come_to (committed m); count = sym (settled_count m.state (held m)) i }
gives_by m routed more reply n (loses some up) = refl
gives_by m routed more reply n wears = refl
gives_by m routed more reply n (posts q quiet) = quiet_keeps (tally_of m) q quiet
gives_by m routed more reply n (builds scheme up newest given serves) = refl
gives_by m routed more reply n (routes q seen ways quiet) = quiet_keeps (tally_of m) q quiet

-- a reply says what its event came to
pub gives : (event : Event) (m : Machine) (reply : Reply) (n : Machine) → Answers event m reply n → Gives m reply n
gives event m reply n h = gives_by m (is_route event) (let_in_by event reply) reply n (came_to event m reply n h)

rebuild_quiet : (words : List ℕ) (m : Machine) (reply : Reply) (n : Machine) → RebuildAnswers words m reply n → IsQuiet reply
rebuild_quiet words m NotRebuilt n h = tt
rebuild_quiet words m (Rebuilt generation) n h = tt
rebuild_quiet words m Memory n h = tt
rebuild_quiet words m reply n h = absurd h

-- a rebuild changes nothing of it
pub rebuild_keeps : (words : List ℕ) (m : Machine) (reply : Reply) (n : Machine) → RebuildAnswers words m reply n → tally_of m ≡ tally_of n
rebuild_keeps words m reply n h = sym (quiet_keeps (tally_of m) reply (rebuild_quiet words m reply n h)) ∙ gives_by m false [] reply n (rebuild_comes words m reply n h)

-- ---- the groups that are told of

ends_more : (n m : ℕ) (groups : List (ℕ × ℕ)) → n ≤ m → EndBy n groups → EndBy m groups
ends_more n m groups more ends = all_as (λ (g : ℕ × ℕ) (le : g.1 ≤ n). omega arith) groups ends

whole_without : (at : ℕ) (groups : List (ℕ × ℕ)) (g : ℕ × ℕ) → Whole at (groups ++ g ∷ []) → Whole at groups × ((g.0 < at) × (at < g.1) → ⊥)
whole_without at [] g whole = (tt, whole.0)
whole_without at (x ∷ xs) g whole = let rest = whole_without at xs g whole.1 in ((whole.0, rest.0), rest.1)

-- What is told fits what is stored: a cut through no stored group, at no more than is settled while the device works, goes through none
-- that is told of.
pub record Fits (stored told : Given) : Type 0 where
  pub taken : stored.taken ≡ told.taken
  pub done : stored.done ≡ told.done
  pub down : stored.down ≡ told.down
  pub ends : EndBy told.taken told.groups
  pub whole : (at : ℕ) → Whole at stored.groups → (stored.down ≡ false → at ≤ stored.done) → Whole at told.groups

-- with the same group more
more_whole : (stored told : Given) → Fits stored told → (at : ℕ) → Whole at (with_group stored).groups → Whole at (with_group told).groups
more_whole stored told f at whole =
    let split = whole_without at stored.groups (stored.done, stored.taken) whole in
    let outside : (told.done < at) × (at < told.taken) → ⊥ = subst (λ (p : ℕ × ℕ). (p.0 < at) × (at < p.1) → ⊥) (λ i. (f.done i, f.taken i)) split.1 in
    elim (cases_lt stored.done at) [
      | inl over ↦
          (let apart : at < stored.taken → ⊥ = λ lt. split.1 (over, lt) in
          let past : told.taken ≤ at = let same = f.taken in omega arith in
          whole_push at told.groups (told.done, told.taken) (whole_ends at told.groups (ends_more told.taken at told.groups past f.ends)) outside)
      | inr le ↦ whole_push at told.groups (told.done, told.taken) (f.whole at split.0 (λ _. le)) outside
    ]

group_ends : (g : Given) → EndBy g.taken g.groups → EndBy g.taken (with_group g).groups
group_ends g ends = all_push (λ (x : ℕ × ℕ). x.1 ≤ g.taken) g.groups (g.done, g.taken) ends (omega arith)

group_fits : (stored told : Given) (d e : ℕ) (w v : Bool) → Fits stored told → d ≡ e → w ≡ v → Fits (record (with_group stored) { done = d; down = w }) (record (with_group told) { done = e; down = v })
group_fits stored told d e w v f done down = record { taken = f.taken; done = done; down = down; ends = group_ends told f.ends; whole = λ at whole up. more_whole stored told f at whole }

-- a commit had no memory
no_memory : (stored told : Given) → Fits stored told → Fits stored (cond told.down told (with_group told))
no_memory stored told f = on_bool (λ b. Fits stored (cond b told (with_group told))) told.down (λ _. f) (λ works. record {
  taken = f.taken;
  done = f.done;
  down = f.down;
  ends = group_ends told f.ends;
  whole = λ at whole up. whole_push at told.groups (told.done, told.taken) (f.whole at whole up) (λ x. let le = up (f.down ∙ works) in let same = f.done in let lt = x.0 in omega arith);
})

memory_fits : (event : Event) (stored told : Given) → Fits stored told → Fits stored (given_after told event Memory)
memory_fits Commit stored told f = no_memory stored told f
memory_fits event stored told f = f

reply_fits : (event : Event) (reply : Reply) (stored told : Given) → Fits stored told → Fits (stored_after stored reply) (given_after told event reply)
reply_fits event (Taken session ticket) stored told f =
    record { taken = ap (λ (n : ℕ). n + 1) f.taken; done = f.done; down = f.down; ends = ends_more told.taken (told.taken + 1) told.groups (omega arith) f.ends; whole = f.whole }
reply_fits event (Committed accepted) stored told f = group_fits stored told stored.taken told.taken stored.down told.down f f.taken f.down
reply_fits event (NotCommitted Device) stored told f = group_fits stored told stored.done told.done true true f f.done refl
reply_fits event (NotCommitted Worn) stored told f = group_fits stored told stored.done told.done stored.down told.down f f.done f.down
reply_fits event Memory stored told f = memory_fits event stored told f
reply_fits event reply stored told f = f

-- ---- a run

run_fits : (first : State) (m : Machine) (events : List Event) (replies : List Reply) (n : Machine) (told : Given) → Fits (come_to m) told → RunRoutes first m events replies n → Fits (come_to n) (given_by told events replies)
run_fits first m [] [] n told f run = subst (λ (x : Machine). Fits (come_to x) told) (sym run) f
run_fits first m (event ∷ events) (reply ∷ replies) n told f run =
    run_fits first run.0 events replies n (given_after told event reply) (subst (λ (g : Given). Fits g (given_after told event reply)) (ap (λ (t : Tally). t.committer) (gives event m reply run.0 run.1.0)) (reply_fits event reply (come_to m) told f)) run.1.1.1
run_fits first m events replies n told f run = absurd run

-- a life's rebuild, at its beginning, asks and takes nothing
pub nothing_yet : (first : State) (capacity n : ℕ) (words : List ℕ) (reply : Reply) (built : Machine) → RebuildAnswers words (begun capacity n first false) reply built → (built.asked ≡ []) × (come_to built ≡ nothing_given)
nothing_yet first capacity n words reply built is =
    let start : Machine = begun capacity n first false in
    ((queued start false [] reply built (rebuild_comes words start reply built is)).asked_is, sym (ap (λ (t : Tally). t.committer) (rebuild_keeps words start reply built is)))

-- so what events and replies tell of a life fits what is stored at its end
pub life_fits : (first : State) (capacity n : ℕ) (words : List ℕ) (reply : Reply) (built : Machine) (events : List Event) (replies : List Reply) (m : Machine)
    → RebuildAnswers words (begun capacity n first false) reply built → RunRoutes first built events replies m → Fits (come_to m) (given_by nothing_given events replies)
life_fits first capacity n words reply built events replies m rebuilt run =
    let none : Fits nothing_given nothing_given = record { taken = refl; done = refl; down = refl; ends = tt; whole = λ at whole up. tt } in
    run_fits first built events replies m nothing_given (subst (λ (g : Given). Fits g nothing_given) (sym (nothing_yet first capacity n words reply built rebuilt).1) none) run
