-- What replies say of the queue.
use Rattle.std.proofs.Common.{◌≡◌, ◌≤◌, ◌+◌, ℕ, Bool, List, [], ◌∷◌, ◌++◌, length, take, refl, sym, ap, ◌∙◌, append-nil, append_assoc}
use Rattle.std.proofs.lemmas.List.{take-append-le, take_more, map-append}
use Rattle.std.proofs.lemmas.Option.{slice_get_within, get_or_from_slice_get}
use Rattle.requests.specs.Requests.{asked_by}
use Rattle.requests.specs.declared.request.Request.{Request}
use Rattle.layout_2.specs.State.{asked}
use Rattle.event_model.specs.declared.event.Event.{Event}
use Rattle.event_model.specs.declared.reply.Reply.{Reply}
use Rattle.event_model.specs.declared.reply.Reply.TheVariants.{Taken}
use Rattle.event_model.specs.Machines.{Machine}
use Rattle.event_model.specs.Answers.{Answers}
use Rattle.event_laws.specs.Queues.{let_in_by, all_let_in, taken_by, all_taken}
use Rattle.event_laws.specs.QueueLaws.{QueueKeeps, TakesInOrder}
use Rattle.event_laws.proofs.CameTo.{IsQuiet, is_route, CameTo, stays, asks, looks, takes, commits, loses, wears, posts, builds, routes, came_to}
use Rattle.event_laws.proofs.Listing.{answers_on}

-- The queue between two moments: these requests were let in, and these were taken.
pub record Queued (m : Machine) (more : List Request) (taken : List (ℕ × ℕ)) (n : Machine) : Type 0 where
  pub asked_is : n.asked ≡ m.asked ++ more
  pub taken_is : m.taken ≤ length m.asked → asked (take n.taken n.asked) ≡ asked (take m.taken m.asked) ++ taken

-- it stays, by a reply that takes nothing
still : (m n : Machine) (reply : Reply) → taken_by reply ≡ [] → n.asked ≡ m.asked → n.taken ≡ m.taken → Queued m [] (taken_by reply) n
still m n reply none a t = record {
  asked_is = a ∙ sym (append-nil m.asked);
  taken_is = λ _. (λ i. asked (take (t i) (a i))) ∙ (sym (append-nil (asked (take m.taken m.asked))) ∙ ap (λ (l : List (ℕ × ℕ)). asked (take m.taken m.asked) ++ l) (sym none));
}

quiet_takes : (reply : Reply) → IsQuiet reply → taken_by reply ≡ []
quiet_takes (Taken session ticket) quiet = absurd quiet
quiet_takes reply quiet = refl

pub queued : (m : Machine) (routed : Bool) (more : List Request) (reply : Reply) (n : Machine) → CameTo m routed more reply n → Queued m more (taken_by reply) n
queued m routed more reply n (stays b q quiet) = still m m q (quiet_takes q quiet) refl refl
queued m routed more reply n (asks x r at none) = record { asked_is = refl; taken_is = λ within. ap asked (take-append-le m.taken m.asked (r ∷ []) within) ∙ sym (append-nil (asked (take m.taken m.asked))) }
queued m routed more reply n (looks s x seen outcome at) = still m n reply refl refl refl
queued m routed more reply n (takes r at none) = record {
  asked_is = sym (append-nil m.asked);
  taken_is = λ _. ap asked (take_more m.asked m.taken r (slice_get_within m.asked m.taken r at) ∙ ap (λ (x : Request). take m.taken m.asked ++ x ∷ []) (get_or_from_slice_get m.asked m.taken r r at)) ∙ map-append asked_by (take m.taken m.asked) (r ∷ []);
}
queued m routed more reply n (commits some up) = still m n reply refl refl refl
queued m routed more reply n (loses some up) = still m n reply refl refl refl
queued m routed more reply n wears = still m n reply refl refl refl
queued m routed more reply n (posts q quiet) = still m n q (quiet_takes q quiet) refl refl
queued m routed more reply n (builds scheme up newest given serves) = still m n reply refl refl refl
queued m routed more reply n (routes q seen ways quiet) = still m n q (quiet_takes q quiet) refl refl

one : (event : Event) (m : Machine) (reply : Reply) (n : Machine) → Answers event m reply n → Queued m (let_in_by event reply) (taken_by reply) n
one event m reply n h = queued m (is_route event) (let_in_by event reply) reply n (came_to event m reply n h)

pub asked_in_order : QueueKeeps
asked_in_order m [] [] n run = ap (λ (x : Machine). x.asked) run ∙ sym (append-nil m.asked)
asked_in_order m (event ∷ events) (reply ∷ replies) n run =
    asked_in_order run.0 events replies n run.1.1
    ∙ (ap (λ (l : List Request). l ++ all_let_in events replies) (one event m reply run.0 run.1.0).asked_is ∙ append_assoc m.asked (let_in_by event reply) (all_let_in events replies))
asked_in_order m events replies n run = absurd run

pub taken_in_order : TakesInOrder
taken_in_order first m [] [] n is run = ap (λ (x : Machine). asked (take x.taken x.asked)) run ∙ sym (append-nil (asked (take m.taken m.asked)))
taken_in_order first m (event ∷ events) (reply ∷ replies) n is run =
    taken_in_order first run.0 events replies n (answers_on first event m reply run.0 is run.1.0) run.1.1
    ∙ (ap (λ (l : List (ℕ × ℕ)). l ++ all_taken replies) ((one event m reply run.0 run.1.0).taken_is is.lists.within) ∙ append_assoc (asked (take m.taken m.asked)) (taken_by reply) (all_taken replies))
taken_in_order first m events replies n is run = absurd run
