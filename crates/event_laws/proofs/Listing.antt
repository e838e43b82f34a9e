-- What sessions know of their last tickets, and how the machine's lists go on by each event; what was posted is lawful and durable.
use Rattle.std.proofs.Common.{◌≡◌, ◌≢◌, ◌+◌, ℕ, Bool, true, false, List, [], ◌∷◌, ◌++◌, length, take, drop, Option, Some, None, option_to_list, slice_get, refl, sym, ap, ◌∙◌, subst, arith, append-nil, inl, inr, ◌<◌, zero, suc, set, replicate}
use Rattle.std.proofs.lemmas.List.{take-append-le, length-take-le, drop_all}
use Rattle.std.proofs.lemmas.Option.{slice_get_within}
use Rattle.std.specs.Option.{unwrap_or}
use Rattle.std.proofs.lemmas.Bool.{cases_eq}
use Rattle.requests.specs.Tickets.{sessions, last_of, tickets_after}
use Rattle.requests.specs.declared.request.Request.{Request}
use Rattle.layout_2.specs.State.{State, AreInTurn, asked}
use Rattle.generations.specs.declared.posting.Notice.{Notice}
use Rattle.generations.specs.declared.posting.Notice.TheVariants.{Marked, Failed, Built}
use Rattle.intake.specs.Turns.{of, last_asked, last_or_start}
use Rattle.intake.specs.Outcomes.{refusal_on}
use Rattle.intake.proofs.InTurns.{of_own, of_other, own_last}
use Rattle.intake.proofs.Refusals.{asked_push}
use Rattle.request_lists.specs.declared.builds.Builds.TheVariants.{InTurn}
use Rattle.request_lists.specs.Lists.{AreListed}
use Rattle.request_lists.specs.Posted.{ArePosted}
use Rattle.request_lists.proofs.Posted.{posted_first}
use Rattle.request_lists.proofs.Steps.{listed_first, listed_taken, listed_asked, listed_marks, listed_down, listed_built}
use Rattle.event_model.specs.declared.session.Session.{Session}
use Rattle.event_model.specs.declared.reply.Reply.{Reply}
use Rattle.event_model.specs.Machines.{Machine, held, board_at, let_in, with_session, with_posted, grouped, committed, lost, fresh_session}
use Rattle.event_laws.specs.Listed.{IsListed, DueFits, KnowTheirLast, all_told, KnowsItsLast}
use Rattle.event_laws.specs.Queues.{let_in_by}
use Rattle.event_laws.specs.QueueLaws.{BeginsListed, AnswersKeep, RebuildKeeps, RunKeeps, PostingsAreLawful, PostingsAreDurable}
use Rattle.event_laws.specs.Submits.{IsLastOf}
use Rattle.event_laws.proofs.CameTo.{refusal_of, posted, is_route, CameTo, stays, asks, looks, takes, commits, loses, wears, posts, builds, routes, rebuild_comes, came_to}
use Rattle.event_laws.proofs.Refusing.{let_in_turn}
use Rattle.event_laws.proofs.Every.{set_at, get_other}

-- one session is written, which has the last ticket of its own, and no other asked for more
pub know_set : (old new : List Request) (all : List Session) (s : ℕ) (x y : Session) → KnowTheirLast old all → slice_get all s ≡ Some x → y.last ≡ last_asked (of s new) → ((k : ℕ) → k ≢ s → of k new ≡ of k old)
    → KnowTheirLast new (set all s y)
know_set old new all s x y know at own others k z e = elim (cases_eq k s) [
  | inl same ↦
      (let is : y ≡ z = set_at all s y z (ap (slice_get (set all s y)) (sym same) ∙ e) in
      record {
        there = (let t = (know s x at).there in omega (arith, t, same));
        last = ap (λ (w : Session). w.last) (sym is) ∙ (own ∙ ap (λ (j : ℕ). last_asked (of j new)) (sym same));
      })
  | inr other ↦
      (let was = know k z (sym (get_other all k s y other) ∙ e) in
      record { there = was.there; last = was.last ∙ ap last_asked (sym (others k other)) })
]

pub know_first : (n s : ℕ) (x : Session) → slice_get (replicate n fresh_session) s ≡ Some x → (s < n) × (x.last ≡ None)
know_first zero s x e = cc
know_first (suc n) zero x e = (omega arith, (let g : fresh_session ≡ x = cc in ap (λ (w : Session). w.last) (sym g)))
know_first (suc n) (suc s) x e = let h = know_first n s x e in (let l = h.0 in omega (arith, l), h.1)

-- the last ticket that a session knows, or else its start, is its last one of all requests
pub is_last : (starts : List ℕ) (requests : List Request) (s : ℕ) (x : Session) → length starts ≡ sessions → KnowsItsLast requests s x → IsLastOf starts requests s x.last
is_last starts requests s x wide know =
    let there = know.there in
    let own : last_of (tickets_after starts (asked requests)) s ≡ last_or_start (last_of starts s) (of s requests) = own_last starts requests s (omega (arith, there, wide)) in
    ap (λ (o : Option ℕ). unwrap_or o (last_of starts s)) know.last ∙ sym own

pub begins : BeginsListed
begins first capacity n down wide few = record {
  wide = wide;
  starts = refl;
  start = refl;
  lists = listed_first first down;
  last = λ s x e. let h = know_first n s x e in record { there = (let l = h.0 in omega (arith, l, few)); last = h.1 };
  due = tt;
}

-- the lists of a machine, with these notices told
abbrev Lists : State → Machine → List Notice → Type 0
Lists first m told = AreListed InTurn first told m.asked m.done m.taken m.state m.down

-- with the same beginning
keeps : (first : State) (m n : Machine) → IsListed first m → n.starts ≡ m.starts → n.start ≡ m.start → Lists first n (all_told n) → KnowTheirLast n.asked n.sessions → DueFits n.due (held n) n.down → IsListed first n
keeps first m n is starts start lists last due = record { wide = is.wide; starts = starts ∙ is.starts; start = start ∙ is.start; lists = lists; last = last; due = due }

-- a request that a board lets in leaves all in turn
next_in_turn : (first : State) (m : Machine) (x : Session) (r : Request) → IsListed first m → slice_get m.sessions r.session ≡ Some x → refusal_of m x r ≡ None → AreInTurn first.tickets (m.asked ++ r ∷ [])
next_in_turn first m x r is at none =
    let know = is.last r.session x at in
    let_in_turn first.tickets m.asked (board_at m x.seen) x.last r is.lists.in_turn know.there (is_last first.tickets m.asked r.session x is.wide know)
    (ap (λ (ts : List ℕ). refusal_on (board_at m x.seen) r.session (last_of ts r.session) x.last r.ticket) (sym is.starts) ∙ none)

-- where a group is held and the store is up, nothing is due
due_free : (due : Option Notice) (requests : List Request) (down : Bool) → DueFits due requests down → requests ≢ [] → down ≡ false → due ≡ None
due_free None requests down fits some up = refl
due_free (Some (Marked marks)) requests down fits some up = absurd (some fits)
due_free (Some Failed) requests down fits some up = (let f : down ≡ true = fits in cc)
due_free (Some (Built number scheme)) requests down fits some up = absurd fits

free_lists : (first : State) (m : Machine) → IsListed first m → held m ≢ [] → m.down ≡ false → Lists first m m.postings
free_lists first m is some up =
    subst (Lists first m) (ap (λ (d : Option Notice). m.postings ++ option_to_list d) (due_free m.due (held m) m.down is.due some up) ∙ append-nil m.postings) is.lists

listed : (first : State) (m : Machine) (routed : Bool) (more : List Request) (reply : Reply) (n : Machine) → IsListed first m → CameTo m routed more reply n → IsListed first n
listed first m routed more reply n is (stays b q quiet) = is
listed first m routed more reply n is (asks x r at none) =
    let y : Session = record { seen = x.seen; last = Some r.ticket } in
    keeps first m (let_in m y r) is refl refl (listed_asked first (all_told m) m.asked m.done m.taken m.state m.down r is.lists (next_in_turn first m x r is at none))
    (know_set m.asked (m.asked ++ r ∷ []) m.sessions r.session x y is.last at (sym (asked_push (of r.session m.asked) r) ∙ ap last_asked (sym (of_own m.asked r r.session refl))) (λ k other. of_other m.asked r k (λ f. other (sym f))))
    (subst (λ (l : List Request). DueFits m.due (drop m.done l) m.down) (sym (take-append-le m.taken m.asked (r ∷ []) is.lists.within)) is.due)
listed first m routed more reply n is (looks s x seen outcome at) =
    let y : Session = record { seen = seen; last = x.last } in
    keeps first m (with_session m s y) is refl refl is.lists (know_set m.asked m.asked m.sessions s x y is.last at (is.last s x at).last (λ k _. refl)) is.due
listed first m routed more reply n is (takes r at none) =
    let later : Machine = record m { taken = m.taken + 1 } in
    keeps first m later is refl refl (listed_taken first (all_told m) m.asked m.done m.taken m.state m.down is.lists (slice_get_within m.asked m.taken r at)) is.last
    (subst (λ (d : Option Notice). DueFits d (held later) m.down) (sym none) tt)
listed first m routed more reply n is (commits some up) =
    keeps first m (committed m) is refl refl (listed_marks first m.postings m.asked m.done m.taken m.state m.down (free_lists first m is some up) up) is.last
    (drop_all m.taken (take m.taken m.asked) (let e = length-take-le m.taken m.asked is.lists.within in omega (arith, e)))
listed first m routed more reply n is (loses some up) = keeps first m (lost m) is refl refl (listed_down first m.postings m.asked m.done m.taken m.state m.down (free_lists first m is some up) up) is.last refl
listed first m routed more reply n is wears = keeps first m (grouped m) is refl refl is.lists is.last is.due
listed first m routed more reply n is (posts q quiet) = keeps first m (posted m) is refl refl (subst (Lists first m) (sym (append-nil (all_told m))) is.lists) is.last tt
listed first m routed more reply n is (builds scheme up newest given serves) =
    let p : Notice = Built m.state.count scheme in
    keeps first m (with_posted (posted m) p) is refl refl
    (subst (Lists first m) (sym (append-nil (all_told m ++ p ∷ []))) (listed_built first (all_told m) m.asked m.done m.taken m.state m.down scheme is.lists up newest given serves)) is.last tt
listed first m routed more reply n is (routes q seen ways quiet) = keeps first m (record m { seen = seen; ways = ways }) is refl refl is.lists is.last is.due

pub answers_on : AnswersKeep
answers_on first event m reply n is h = listed first m (is_route event) (let_in_by event reply) reply n is (came_to event m reply n h)

pub rebuild_on : RebuildKeeps
rebuild_on first words m reply n is h = listed first m false [] reply n is (rebuild_comes words m reply n h)

pub run_on : RunKeeps
run_on first m [] [] n is run = subst (IsListed first) (sym run) is
run_on first m (event ∷ events) (reply ∷ replies) n is run = run_on first run.0 events replies n (answers_on first event m reply run.0 is run.1.0) run.1.1
run_on first m events replies n is run = absurd run

-- ---- what was posted, without what is due

posted_is : (first : State) (m : Machine) → IsListed first m → ArePosted InTurn first m.asked m.postings
posted_is first m is = posted_first first m.postings (option_to_list m.due) m.asked m.done m.taken m.state m.down is.lists

pub postings_lawful : PostingsAreLawful
postings_lawful first m is = (posted_is first m is).lawful

pub postings_durable : PostingsAreDurable
postings_durable first m is = (posted_is first m is).durable
