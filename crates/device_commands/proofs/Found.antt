-- A change whose mark wasn't told.
use Rattle.std.proofs.Common.{refl, sym, ap, ◌∙◌, ◌≡◌, ◌≢◌, ◌<◌, ◌+◌, ◌⊎◌, inl, inr, ⊎_elim, ℕ, List, length, Result, Ok, Err, IfErr, IfOk, subst, arith}
use Rattle.graph_edits.specs.declared.edits.Op.{Op}
use Rattle.graph_edits.specs.Changes.{after as graph_after}
use Rattle.requests.specs.Tickets.{last_of, raise, sessions}
use Rattle.requests.proofs.TicketLemmas.{raised}
use Rattle.layout_2.specs.State.{State, state_with}
use Rattle.checkpoint.specs.declared.store.Store.{Store}
use Rattle.checkpoint.specs.StoreWords.{state_of}
use Rattle.generations.specs.declared.posting.Verdict.{Verdict}
use Rattle.generations.specs.declared.posting.Verdict.TheVariants.{Accepted, Refused}
use Rattle.command_output.specs.declared.fault.Fault.{Fault}
use Rattle.command_output.specs.declared.fault.Fault.TheVariants as told
use Rattle.device_commands.specs.Answer.{last_ticket, state_under, verdict_of}
use Rattle.device_commands.specs.Edits.{IsFound, IsSettledTo}

-- a state with a change that it takes: one change more, and the session's last ticket is that of the change
record Takes (s : State) (session ticket : ℕ) (change : List Op) (next : State) : Type 0 where
  pub tickets : next.tickets ≡ raise s.tickets (session, ticket)
  pub verdict : Accepted next.count ≡ verdict_of s change

-- behind a change the state is as it was, or takes it
taken_or_same : (s : State) (session ticket : ℕ) (change : List Op) → (state_under s session ticket change ≡ s) ⊎ Takes s session ticket change (state_under s session ticket change)
taken_or_same s session ticket change = by (graph_after s.graph change) refl
  where
    by : (o : _) → graph_after s.graph change ≡ o → (state_under s session ticket change ≡ s) ⊎ Takes s session ticket change (state_under s session ticket change)
    by (Ok graph) is =
        let next : state_under s session ticket change ≡ state_with (s.count + 1) graph (raise s.tickets (session, ticket)) = ap (λ o. elim o as (λ _. State) [ Ok g ↦ state_with (s.count + 1) g (raise s.tickets (session, ticket)) | Err at ↦ s ]) is in
        let verdict : verdict_of s change ≡ Accepted (s.count + 1) = ap (λ o. elim o as (λ _. Verdict) [ Ok g ↦ Accepted (s.count + 1) | Err at ↦ Refused at.0 at.1 ]) is in
        inr (record { tickets = ap (λ (t : State). t.tickets) next; verdict = ap (λ (t : State). Accepted t.count) next ∙ sym verdict })
    by (Err at) is = inl (ap (λ o. elim o as (λ _. State) [ Ok g ↦ state_with (s.count + 1) g (raise s.tickets (session, ticket)) | Err x ↦ s ]) is)

module _ {D : Type 0} {V : _} (old new : Store D V) (session ticket : ℕ) (change : List Op) (wide : length (state_of old).tickets ≡ sessions) (there : session < sessions) (less : last_ticket (state_of old) session < ticket) where
  abbrev s : State
  s = state_of old

  abbrev next : State
  next = state_under s session ticket change

  -- a store is in the one state, where the ticket isn't its last one, or in the other, where it is
  which : (state_of new ≡ s) ⊎ (state_of new ≡ next) → ((state_of new ≡ s) × (last_ticket (state_of new) session ≢ ticket)) ⊎ ((state_of new ≡ next) × (last_ticket (state_of new) session ≡ ticket) × (Accepted (state_of new).count ≡ verdict_of s change))
  which (inl same) = inl (stays same)
    where
      stays : state_of new ≡ s → (state_of new ≡ s) × (last_ticket (state_of new) session ≢ ticket)
      stays e = (e, λ is. (let at : last_ticket (state_of new) session ≡ last_ticket s session = ap (λ t. last_ticket t session) e in absurd (omega (arith, less, at, is))))
  which (inr same) = ⊎_elim
      (λ idle. (let e : state_of new ≡ s = same ∙ idle in
      inl (e, λ is. (let at : last_ticket (state_of new) session ≡ last_ticket s session = ap (λ t. last_ticket t session) e in absurd (omega (arith, less, at, is))))))
      (λ takes. inr (same, ap (λ t. last_ticket t session) same ∙ (ap (λ ts. last_of ts session) takes.tickets ∙ raised s.tickets (session, ticket) session wide there refl), ap (λ (t : State). Accepted t.count) same ∙ takes.verdict))
      (taken_or_same s session ticket change)

  -- so what is found is what became of the change, and a fault that stays changed nothing
  pub found_settled : (answer found : Result Verdict Fault) → IfOk answer (λ verdict. found ≡ Ok verdict) → IfErr answer (λ fault. IsFound (state_of new) session ticket fault found) → IsSettledTo next change old new answer
      → IsSettledTo next change old new found × IfErr found (λ fault. fault ≢ told.Device → state_of new ≡ s)
  found_settled (Ok verdict) found is untold by = subst (λ r. IsSettledTo next change old new r × IfErr r (λ fault. fault ≢ told.Device → state_of new ≡ s)) (sym is) (by, tt)
  found_settled (Err fault) found is untold by = ⊎_elim
      (λ failed. subst (λ r. IsSettledTo next change old new r × IfErr r (λ f. f ≢ told.Device → state_of new ≡ s)) (sym failed.1) (by, λ not. absurd (not failed.0)))
      (λ other.
      let decided = by.decided (λ e. other.0 (let same : fault ≡ told.Device = cc in same)) in
      ⊎_elim
      (λ in_it. subst (λ r. IsSettledTo next change old new r × IfErr r (λ f. f ≢ told.Device → state_of new ≡ s)) (sym in_it.1)
      (⊎_elim
      (λ stays. absurd (stays.1 in_it.0))
      (λ goes. (
        record {
          verdict = goes.2;
          state = goes.0;
          up = decided.0;
          refused = by.refused;
          worn_leaves = λ e. absurd (cc);
          threadless = λ e. absurd (cc);
          device = λ e. absurd (cc);
          decided = λ _. decided;
          ran = by.ran;
          any_moment = by.any_moment;
        },
        tt,
      ))
      (which decided.1)))
      (λ out. subst (λ r. IsSettledTo next change old new r × IfErr r (λ f. f ≢ told.Device → state_of new ≡ s)) (sym out.1)
      (by, λ _. ⊎_elim (λ stays. stays.0) (λ goes. absurd (out.0 goes.1)) (which decided.1)))
      other.1)
      untold
