-- What lives came to: nothing that was found or acknowledged is gone.
use Rattle.std.proofs.Common.{arith, ◌≡◌, ◌∙◌, sym, ap, subst, ℕ, ◌+◌, ◌≤◌, List, [], ◌∷◌, ◌++◌, append_assoc, Option, false}
use Rattle.std.proofs.lemmas.List.{take-take}
use Rattle.std.proofs.lemmas.List.Sums.{sum_by-cons}
use Rattle.disk_trait.specs.declared.disk.Disk.{Ghosts}
use Rattle.layout_reader.specs.declared.refusals.OpenRefused.{OpenRefused}
use Rattle.layout_2.specs.State.{State}
use Rattle.event_model.specs.declared.event.Event.{Event}
use Rattle.event_model.specs.declared.reply.Reply.{Reply}
use Rattle.event_model.specs.Answers.{number_of}
use Rattle.event_model.specs.Machines.{Machine, begun}
use Rattle.event_laws.specs.History.{state_at}
use Rattle.event_laws.specs.Listed.{IsListed}
use Rattle.event_laws.specs.Replies.{RunRoutes}
use Rattle.interleave.specs.WorldWords.{machine_of}
use Rattle.life_chain.specs.declared.life.Life.{Life}
use Rattle.life_chain.specs.declared.report.LifeReport.{LifeReport}
use Rattle.life_chain.specs.Chains.{AreChained}
use Rattle.life_chain.specs.Lived.{AreLived, IsAnswered}
use Rattle.life_chain.specs.Reports.{ended_with, opened_of, taken_of}
use Rattle.life_chain.proofs.EventLemmas.{Tally, count_after, count_after_is, gives, rebuild_keeps}
use Rattle.crash_trials.specs.Kinds.{accepted_by, AreKept}

-- after events the store has as many changes more as their replies acknowledge
run_adds : (first : State) (m : Machine) (events : List Event) (replies : List Reply) (n : Machine) → RunRoutes first m events replies n → m.state.count + accepted_by replies ≡ n.state.count
run_adds first m [] [] n run = let e : n.state.count ≡ m.state.count = ap (λ (x : Machine). x.state.count) run in omega arith
run_adds first m [] (reply ∷ replies) n run = absurd run
run_adds first m (event ∷ events) [] n run = absurd run
run_adds first m (event ∷ events) (reply ∷ replies) n run =
    let one : count_after m.state.count reply ≡ run.0.state.count = ap (λ (t : Tally). t.count) (gives event m reply run.0 run.1.0) in
    let all = run_adds first run.0 events replies n run.1.1.1 in
    omega (arith, count_after_is m.state.count reply, sum_by-cons number_of reply replies)

-- the state after all that a commit answered Ok for has as many changes as the life found and its replies acknowledge
life_adds : (life : Life) (report : LifeReport) (built ended : Machine) → IsAnswered (opened_of report) life report built ended → report.count + accepted_by report.replies.items ≡ (state_at (opened_of report) (taken_of report) report.stored.done).count
life_adds life report built ended is =
    let first : State = opened_of report in
    let listed : IsListed first (ended_with report ended.due ended.state ended.down) = subst (λ (n : Machine). IsListed first n) is.reported is.listed in
    let settled : ended.state ≡ state_at first (taken_of report) report.stored.done = rw (take-take report.stored.done report.stored.taken report.stored.asked.items listed.lists.started) listed.lists.state_is in
    let start : first.count ≡ built.state.count = ap (λ (t : Tally). t.count) (rebuild_keeps life.words.items (begun life.capacity life.sessions first false) report.rebuilt built is.rebuilt) in
    let run : built.state.count + accepted_by report.replies.items ≡ ended.state.count = run_adds first built life.events.items report.replies.items ended is.answers in
    ap (λ (n : ℕ). n + accepted_by report.replies.items) start ∙ run ∙ ap (λ (s : State). s.count) settled

-- each life keeps what the one before had
pub are_kept : {D : Type 0} (model : Ghosts D) (by_word : D → ℕ → D → Type 0) (disk left : D) (lives : List Life) (reports : List LifeReport) (refused : Option OpenRefused) → AreLived model by_word disk lives reports refused left → AreChained lives reports → AreKept reports
are_kept model by_word disk left lives [] refused so chained = tt
are_kept model by_word disk left lives (r ∷ []) refused so chained = tt
are_kept model by_word disk left [] (r ∷ (next ∷ more)) refused so chained = absurd chained
are_kept model by_word disk left (x ∷ xs) (r ∷ (next ∷ more)) refused so chained =
    let adds = life_adds x r (machine_of so.1.0.started) (machine_of so.1.0.stopped) so.1.0.answered in
    (subst (λ (n : ℕ). n ≤ next.count) (sym adds) chained.0.holds, are_kept model by_word so.0 left xs (next ∷ more) refused so.1.1 chained.1)

-- ---- the last two lives

last_kept : (before : List LifeReport) (stopped last : LifeReport) → AreKept (before ++ (stopped ∷ (last ∷ []))) → stopped.count + accepted_by stopped.replies.items ≤ last.count
last_kept [] stopped last kept = kept.0
last_kept (x ∷ []) stopped last kept = kept.1.0
last_kept (x ∷ (y ∷ ys)) stopped last kept = last_kept (y ∷ ys) stopped last kept.1

-- two reports stand behind others, and the last one keeps what the one before it had
pub last_two : (reports others before : List LifeReport) (stopped last : LifeReport) → reports ≡ others ++ last ∷ [] → others ≡ before ++ stopped ∷ [] → AreKept reports
    → (reports ≡ before ++ (stopped ∷ (last ∷ []))) × (stopped.count + accepted_by stopped.replies.items ≤ last.count)
last_two reports others before stopped last all front kept =
    let is : reports ≡ before ++ (stopped ∷ (last ∷ [])) = all ∙ ap (λ (l : List LifeReport). l ++ last ∷ []) front ∙ append_assoc before (stopped ∷ []) (last ∷ []) in
    (is, last_kept before stopped last (subst AreKept is kept))
