-- Answers by what is known of the list of postings, one after the other.
use Rattle.std.proofs.Common.{◌≡◌, ◌⊎◌, inl, inr, ⊎_elim, ◌<◌, ◌+◌, ◌++◌, ◌∷◌, [], ℕ, List, Option, Some, length, refl, sym, ap, subst, ◌∙◌, arith, append-nil, get_or}
use Rattle.std.specs.Prelude.{◌==◌, Bool, cond, set, slice_get, take}
use Rattle.requests.specs.Tickets.{Rises, last_of, sessions, tickets_after}
use Rattle.requests.proofs.TicketLemmas.{after_append, rises_both}
use Rattle.generations.specs.declared.posting.Mark.{Mark}
use Rattle.std.specs.Io.KnownBytes.{Appends, Keeps}
use Rattle.std.proofs.lemmas.Bool.{cases_eq, eq-eqb, ne_eqb}
use Rattle.std.proofs.lemmas.List.{get_or-set_other, length-append, take-append-le}
use Rattle.std.proofs.lemmas.Option.{slice_get_within}
use Rattle.std.proofs.lemmas.List.Sums.{sum_by-append}
use Rattle.std.proofs.Math.Seq.{take-append_seam}
use Rattle.std.proofs.lemmas.Grind.{flat_map-append, get_or-set_at}
use mathlib.Core.Logic.{∥∥₁_map}
use Rattle.command_output.specs.Lines.{line}
use Rattle.line_exchange.specs.Begun.{Begins, PrintsUnless}
use Rattle.line_exchange.specs.declared.answer_writer.AnswerWriter.{Ghosts}
use Rattle.generations.specs.Beginnings.{Beginning, GoesOn, Opening}
use Rattle.generations.proofs.Lawfulness.{get_last}
use Rattle.generations.proofs.Sharing.{goes_trans}
use Rattle.live_lines.specs.declared.asked.Asked.{Asked}
use Rattle.live_lines.specs.declared.answer.Answer.{Answer}
use Rattle.live_lines.specs.declared.answer.Answer.TheVariants.{BackedUp, Metrics, Settled, Waited}
use Rattle.live_lines.specs.Answers.{answer_text, generation_gone, script_text}
use Rattle.live_lines.specs.Metrics.{kind_of, place_of}
use Rattle.line_exchange.specs.Inputs.{Input}
use Rattle.line_exchange.specs.OneList.{AreGone, AreSaid, IsOffAt, IsSaidAt, IsSaidBy}
use Rattle.line_exchange.specs.Prints.{HasPrinted, HasPrintedBy, PrintsSo, lines_of}
use Rattle.line_exchange.specs.declared.line_fault.LineFault.{LineFault}
use Rattle.line_exchange.specs.declared.line_fault.LineFault.TheVariants.{Failed}
use Rattle.line_exchange.specs.Gathers.{HasText}
use Rattle.line_exchange.specs.Measured.{AreCounted, AreMeasured, CountsMore, IsMeasuredBy, Tells, how_many, none_counted}
use Rattle.line_exchange.specs.Tallies.{Adds, AreAwaited, AreBackedUp, AreDropped, AreInTurn, AreReached, IsDropped, IsInTurn, IsReached, TellsCount, accepted_by, accepted_in, no_tickets, told_by, told_in}
use Rattle.line_exchange.specs.Waits.{AreAwaitedTo, AreNoOlder, GoesBy, IsNoOlder}
use Rattle.line_exchange.specs.declared.tally.Tally.{Tally}
use Rattle.line_exchange.specs.PutLines.{no_puts}
use Rattle.line_exchange.proofs.NotedLines.{more_noted, none_at, none_noted}
use Rattle.line_exchange.proofs.PrintedLines.{appends_more, appends_none, appends_still, begins_all, begins_more}

-- ---- knowing more

said_by : (known later : Beginning) (asked : Asked) (answer : Answer) → GoesOn known later → IsSaidBy known asked answer → IsSaidBy later asked answer
said_by known later asked answer on said all lawful are_named from_here = said all lawful are_named (goes_trans known later all on from_here)

said_at : (known later : Beginning) (input : Input) (editors place : ℕ) (answer : Answer) → GoesOn known later → IsSaidAt known input editors place answer → IsSaidAt later input editors place answer
said_at known later input editors place answer on is = record { asked = is.asked; by = is.by; fits = is.fits; said = said_by known later is.asked answer on is.said }

none_said : (known : Beginning) (input : Input) (editors : ℕ) → AreSaid known input editors []
none_said known input editors k answer is = absurd (cc)

-- one answer more, and more is known
more_said : (known seen later : Beginning) (input : Input) (editors count : ℕ) (answers : List Answer) (answer : Answer) → AreSaid known input editors answers → length answers ≡ count → GoesOn known later → GoesOn seen later
    → ∥ IsSaidAt seen input editors count answer ∥₁ → AreSaid later input editors (answers ++ answer ∷ [])
more_said known seen later input editors count answers answer said many on covers is k other at =
    ⊎_elim (λ there. ∥∥₁_map (said k other there) (λ x. said_at known later input editors k other on x))
    (λ last. subst (λ (a : Answer). ∥ IsSaidAt later input editors k a ∥₁) last.1
    (subst (λ (n : ℕ). ∥ IsSaidAt later input editors n answer ∥₁) (sym (last.0 ∙ many)) (∥∥₁_map is (λ x. said_at seen later input editors count answer covers x))))
    (get_last answers answer other k at)

-- ---- how an answer goes with those before

-- of two answers in order the second one is the last, or neither is
both_last : (answers : List Answer) (answer first second : Answer) (before k : ℕ) → before < k → slice_get (answers ++ answer ∷ []) before ≡ Some first → slice_get (answers ++ answer ∷ []) k ≡ Some second
    → ((slice_get answers before ≡ Some first) × (slice_get answers k ≡ Some second)) ⊎ ((slice_get answers before ≡ Some first) × (answer ≡ second))
both_last answers answer first second before k less one two =
    let long = length-append answers (answer ∷ []) in
    let most = slice_get_within (answers ++ answer ∷ []) k second two in
    let there : slice_get answers before ≡ Some first = ⊎_elim (λ is. is) (λ last. absurd (let end = last.0 in omega (arith, long, most, end, less))) (get_last answers answer first before one) in
    ⊎_elim (λ is. inl (there, is)) (λ last. inr (there, last.1)) (get_last answers answer second k two)

-- those before an answer are the same with one more
same_before : (answers : List Answer) (answer other : Answer) (k : ℕ) → slice_get answers k ≡ Some other → take k (answers ++ answer ∷ []) ≡ take k answers
same_before answers answer other k there = take-append-le k answers (answer ∷ []) (let within = slice_get_within answers k other there in omega (arith, within))

-- and those before the last one are all others
all_before : (answers : List Answer) (answer : Answer) (k : ℕ) → k ≡ length answers → take k (answers ++ answer ∷ []) ≡ answers
all_before answers answer k last = ap (λ (n : ℕ). take n (answers ++ answer ∷ [])) last ∙ take-append_seam answers (answer ∷ [])

-- an answer more, and how far they reach then
more_reached : (old new : ℕ) (answers : List Answer) (answer : Answer) → AreReached old answers → IsReached old answer new → AreReached new (answers ++ answer ∷ [])
more_reached old new answers answer are is k count other at tells =
    ⊎_elim (λ there. (let least = are k count other there tells in let kept = is.kept in omega (arith, least, kept))) (λ last. is.told count (subst (λ (a : Answer). TellsCount a count) (sym last.1) tells)) (get_last answers answer other k at)

-- what was waited for has all that was told before
more_awaited : (old new : ℕ) (answers : List Answer) (answer : Answer) → AreAwaited answers → AreReached old answers → IsReached old answer new → AreAwaited (answers ++ answer ∷ [])
more_awaited old new answers answer are reached is before k count generation earlier less at tells waits =
    ⊎_elim (λ both. are before k count generation earlier less both.0 tells both.1) (λ last. (let least = reached before count earlier last.0 tells in let most = is.awaited generation last.1 in omega (arith, least, most)))
    (both_last answers answer earlier (Waited generation) before k less at waits)

-- and so has a backup
more_backed : (old new : ℕ) (answers : List Answer) (answer : Answer) → AreBackedUp answers → AreReached old answers → IsReached old answer new → AreBackedUp (answers ++ answer ∷ [])
more_backed old new answers answer are reached is before k count held earlier less at tells backs =
    ⊎_elim (λ both. are before k count held earlier less both.0 tells both.1) (λ last. (let least = reached before count earlier last.0 tells in let most = is.backed held last.1 in omega (arith, least, most)))
    (both_last answers answer earlier (BackedUp held) before k less at backs)

-- none was waited for that is later
more_waited : (old new : ℕ) (answers : List Answer) (answer : Answer) → AreAwaitedTo old answers → IsNoOlder old answer new → AreAwaitedTo new (answers ++ answer ∷ [])
more_waited old new answers answer are is k waited at =
    ⊎_elim (λ there. (let least = are k waited there in let kept = is.kept in omega (arith, least, kept))) (λ last. is.waits waited last.1) (get_last answers answer (Waited waited) k at)

-- and none goes by an older one
more_no_older : (old new : ℕ) (answers : List Answer) (answer : Answer) → AreNoOlder answers → AreAwaitedTo old answers → IsNoOlder old answer new → AreNoOlder (answers ++ answer ∷ [])
more_no_older old new answers answer are to is before k waited number other less waits at by =
    ⊎_elim (λ both. are before k waited number other less both.0 both.1 by)
    (λ last. (let least = to before waited last.0 in let most = is.by number (subst (λ (a : Answer). GoesBy a number) (sym last.1) by) in omega (arith, least, most)))
    (both_last answers answer (Waited waited) other before k less waits at)

-- the tickets of verdicts rise
more_in_turn : (old new : List ℕ) (answers : List Answer) (answer : Answer) → AreInTurn old answers → IsInTurn old answer new → AreInTurn new (answers ++ answer ∷ [])
more_in_turn old new answers answer are is =
    let all : told_in (answers ++ answer ∷ []) ≡ told_in answers ++ told_by answer = flat_map-append told_by answers (answer ∷ []) ∙ ap (λ (l : List (ℕ × ℕ)). told_in answers ++ l) (append-nil (told_by answer)) in
    record {
      rises = subst (λ (l : List (ℕ × ℕ)). Rises no_tickets l) (sym all) (rises_both no_tickets (told_in answers) (told_by answer) are.rises (subst (λ (ts : List ℕ). Rises ts (told_by answer)) are.last is.rises));
      last = is.last ∙ (ap (λ (ts : List ℕ). tickets_after ts (told_by answer)) are.last ∙ (sym (after_append no_tickets (told_in answers) (told_by answer)) ∙ ap (tickets_after no_tickets) (sym all)));
    }

-- a verdict's ticket is the last one of its session
pub in_turn_more : (old new : List ℕ) (mark : Mark) → length old ≡ sessions → mark.session < length old → last_of old mark.session < mark.ticket → new ≡ set old mark.session mark.ticket → IsInTurn old (Settled mark) new
in_turn_more old new mark wide within less is = record { rises = (subst (λ (n : ℕ). mark.session < n) wide within, less, tt); last = is }

-- the last tickets that were accepted, with an answer more
more_accepted : (starts old new : List ℕ) (answers : List Answer) (answer : Answer) → old ≡ tickets_after starts (accepted_in answers) → new ≡ tickets_after old (accepted_by answer) → new ≡ tickets_after starts (accepted_in (answers ++ answer ∷ []))
more_accepted starts old new answers answer was is =
    let all : accepted_in (answers ++ answer ∷ []) ≡ accepted_in answers ++ accepted_by answer = flat_map-append accepted_by answers (answer ∷ []) ∙ ap (λ (l : List (ℕ × ℕ)). accepted_in answers ++ l) (append-nil (accepted_by answer)) in
    is ∙ (ap (λ (ts : List ℕ). tickets_after ts (accepted_by answer)) was ∙ (sym (after_append starts (accepted_in answers) (accepted_by answer)) ∙ ap (tickets_after starts) (sym all)))

-- what an edit is told that put nothing
more_dropped : (starts accepted told : List ℕ) (answers : List Answer) (answer : Answer) → AreDropped starts answers → accepted ≡ tickets_after starts (accepted_in answers) → told ≡ tickets_after no_tickets (told_in answers)
    → IsDropped accepted told answer → AreDropped starts (answers ++ answer ∷ [])
more_dropped starts accepted told answers answer are was last is k other at =
    ⊎_elim (λ there. subst (λ (before : List Answer). IsDropped (tickets_after starts (accepted_in before)) (tickets_after no_tickets (told_in before)) other)
    (sym (same_before answers answer other k there)) (are k other there))
    (λ end. subst (λ (before : List Answer). IsDropped (tickets_after starts (accepted_in before)) (tickets_after no_tickets (told_in before)) other) (sym (all_before answers answer k end.0))
    (subst (λ (a : Answer). IsDropped (tickets_after starts (accepted_in answers)) (tickets_after no_tickets (told_in answers)) a) end.1
    (subst (λ (ts : List ℕ). IsDropped (tickets_after starts (accepted_in answers)) ts answer) last (subst (λ (ts : List ℕ). IsDropped ts told answer) was is))))
    (get_last answers answer other k at)

-- ---- metrics

-- they tell of the answers before them
more_measured : (answers : List Answer) (answer : Answer) → AreMeasured answers → IsMeasuredBy answers answer → AreMeasured (answers ++ answer ∷ [])
more_measured answers answer are is k other at =
    ⊎_elim (λ there. subst (λ (before : List Answer). IsMeasuredBy before other) (sym (same_before answers answer other k there)) (are k other there))
    (λ end. subst (λ (before : List Answer). IsMeasuredBy before other) (sym (all_before answers answer k end.0)) (subst (λ (a : Answer). IsMeasuredBy answers a) end.1 is))
    (get_last answers answer other k at)

-- .. by what is kept of those
measured_by : (tally : Tally) (answers : List Answer) (answer : Answer) → length answers ≡ tally.count → AreCounted tally.counted answers → Tells tally.count tally.counted answer → IsMeasuredBy answers answer
measured_by tally answers (Metrics m) many counted tells = (tells.0 ∙ sym many, λ place. ap (λ (numbers : List ℕ). get_or numbers place 0) tells.1 ∙ counted place)
measured_by tally answers _ many counted tells = tt

-- before any answer there is none of a kind
none_counted_yet : AreCounted none_counted []
none_counted_yet place = none_at 19 place

-- the number at a place, with one more at the answer's own
counted_at : (old : List ℕ) (own place : ℕ) → own < length old → get_or (set old own (get_or old own 0 + 1)) place 0 ≡ get_or old place 0 + cond (own == place) 1 0
counted_at old own place within =
    ⊎_elim (λ same. (let one : cond {A = ℕ} (own == place) 1 0 ≡ 1 = ap (λ (b : Bool). cond b 1 0) (eq-eqb own place same) in
    let there : get_or (set old own (get_or old own 0 + 1)) place 0 ≡ get_or old own 0 + 1 = get_or-set_at old own place (get_or old own 0 + 1) 0 (sym same) within in
    let was : get_or old own 0 ≡ get_or old place 0 = ap (λ (p : ℕ). get_or old p 0) same in omega (arith, one, there, was)))
    (λ other. (let none : cond {A = ℕ} (own == place) 1 0 ≡ 0 = ap (λ (b : Bool). cond b 1 0) (ne_eqb own place other) in
    let there : get_or (set old own (get_or old own 0 + 1)) place 0 ≡ get_or old place 0 = get_or-set_other old own place (get_or old own 0 + 1) 0 (λ is. other (sym is)) in omega (arith, none, there)))
    (cases_eq own place)

-- one answer more of its kind
more_counted : (old new : List ℕ) (answers : List Answer) (answer : Answer) → AreCounted old answers → CountsMore answer old new → AreCounted new (answers ++ answer ∷ [])
more_counted old new answers answer are more place =
    let own = place_of (kind_of answer) in
    let all : how_many place (answers ++ answer ∷ []) ≡ how_many place answers + how_many place (answer ∷ []) = sum_by-append (λ (a : Answer). cond (place_of (kind_of a) == place) 1 0) answers (answer ∷ []) in
    let one : how_many place (answer ∷ []) ≡ 0 + cond {A = ℕ} (own == place) 1 0 = refl in
    let next : get_or new place 0 ≡ get_or (set old own (get_or old own 0 + 1)) place 0 = ap (λ (numbers : List ℕ). get_or numbers place 0) more.next in
    let there = counted_at old own place more.within in
    let was = are place in
    omega (arith, all, one, next, there, was)

-- ---- generations that are gone

-- answers by what is known are answers by more
all_said : (known later : Beginning) (input : Input) (editors : ℕ) (answers : List Answer) → GoesOn known later → AreSaid known input editors answers → AreSaid later input editors answers
all_said known later input editors answers on said k answer at = ∥∥₁_map (said k answer at) (λ x. said_at known later input editors k answer on x)

abbrev Behind : Input → ℕ → Beginning → List Answer → Type 0
Behind input editors seen before = AreSaid seen input editors before

more_gone : (known seen later : Beginning) (input : Input) (editors : ℕ) (answers : List Answer) (answer : Answer) → AreGone (Behind input editors) known input editors answers → AreSaid known input editors answers → GoesOn known later
    → GoesOn seen later → (answer ≡ generation_gone → GoesOn known seen) → (answer ≡ generation_gone → ∥ IsOffAt seen input editors (length answers) ∥₁) → AreGone (Behind input editors) later input editors (answers ++ answer ∷ [])
more_gone known seen later input editors answers answer are said on covers knows off k at =
    ⊎_elim (λ there. ∥∥₁_map (are k there) (λ x. record {
      seen = x.seen;
      on = goes_trans x.seen known later x.on on;
      earlier = subst (λ (before : List Answer). AreSaid x.seen input editors before) (sym (same_before answers answer generation_gone k there)) x.earlier;
      gone = x.gone;
    }))
    (λ last. ∥∥₁_map (off last.1) (λ x. record {
      seen = seen;
      on = covers;
      earlier = subst (λ (before : List Answer). AreSaid seen input editors before) (sym (all_before answers answer k last.0)) (all_said known seen input editors answers (knows last.1) said);
      gone = subst (λ (n : ℕ). IsOffAt seen input editors n) (sym last.0) x;
    }))
    (get_last answers answer generation_gone k at)

-- ---- what is printed

-- at first nothing is
pub none_printed_by : (text : Answer → List ℕ) (tally : Tally) (input : Input) (editors : ℕ) (old : Option (List ℕ)) → tally.count ≡ 0 → tally.tickets ≡ no_tickets → tally.puts ≡ no_puts → tally.counted ≡ none_counted → tally.accepted ≡ tally.known.opening.starts → HasPrintedBy text tally input editors (Appends old old)
none_printed_by text tally input editors old none untold unput uncounted starts = record {
  answers = [];
  many = sym none;
  said = none_said tally.known input editors;
  gone = λ k at. absurd (cc);
  awaited = λ before k count generation earlier less at tells waits. absurd (cc);
  backed = λ before k count held earlier less at tells backs. absurd (cc);
  reached = λ k count answer at tells. absurd (cc);
  no_older = λ before k waited number answer less waits at by. absurd (cc);
  awaited_to = λ k waited at. absurd (cc);
  in_turn = record { rises = tt; last = untold };
  noted = none_noted tally.puts tally.lines.lines unput;
  measured = λ k answer at. absurd (cc);
  counted = subst (λ (numbers : List ℕ). AreCounted numbers []) (sym uncounted) none_counted_yet;
  dropped = λ k answer at. absurd (cc);
  accepted = starts;
  printed = appends_none old;
}

-- the same answers, of whose lines another thing holds
pub printed_as : (text : Answer → List ℕ) (tally : Tally) (input : Input) (editors : ℕ) (P Q : List ℕ → Type 0) → HasPrintedBy text tally input editors P → ((lines : List ℕ) → P lines → Q lines)
    → HasPrintedBy text tally input editors Q
printed_as text tally input editors P Q has so =
    record { answers = has.answers; many = has.many; said = has.said; gone = has.gone; awaited = has.awaited; backed = has.backed; reached = has.reached; no_older = has.no_older; awaited_to = has.awaited_to; in_turn = has.in_turn; noted = has.noted; measured = has.measured; counted = has.counted; dropped = has.dropped; accepted = has.accepted; printed = so (lines_of text has.answers) has.printed }

-- a flush prints nothing
pub still_printed_by : (text : Answer → List ℕ) (tally : Tally) (input : Input) (editors : ℕ) (old mid new : Option (List ℕ)) → HasPrintedBy text tally input editors (Appends old mid) → Keeps mid new
    → HasPrintedBy text tally input editors (Appends old new)
still_printed_by text tally input editors old mid new has kept =
    printed_as text tally input editors (Appends old mid) (Appends old new) has (λ lines was. appends_still old mid new lines was kept)

-- an answer more: of its line behind those of the others something holds
one_more_by : (text : Answer → List ℕ) (tally more : Tally) (seen : Beginning) (input : Input) (editors place : ℕ) (P Q : List ℕ → Type 0) (answer : Answer) → HasPrintedBy text tally input editors P
    → Adds tally seen answer more → place ≡ tally.count → ∥ IsSaidAt seen input editors place answer ∥₁ → (answer ≡ generation_gone → ∥ IsOffAt seen input editors place ∥₁) → ((lines : List ℕ) → P lines → Q (lines ++ line (text answer)))
    → HasPrintedBy text more input editors Q
one_more_by text tally more seen input editors place P Q answer has adds next is off so =
    let texts : lines_of text (has.answers ++ answer ∷ []) ≡ lines_of text has.answers ++ line (text answer) =
    flat_map-append (λ (a : Answer). line (text a)) has.answers (answer ∷ []) ∙ ap (λ (l : List ℕ). lines_of text has.answers ++ l) (append-nil (line (text answer))) in
    record {
      answers = has.answers ++ answer ∷ [];
      many = length-append has.answers (answer ∷ []) ∙ (ap (λ (n : ℕ). n + 1) has.many ∙ sym adds.count);
      said = more_said tally.known seen more.known input editors place has.answers answer has.said (has.many ∙ sym next) adds.on adds.covers is;
      gone = more_gone tally.known seen more.known input editors has.answers answer has.gone has.said adds.on adds.covers adds.gone (λ gone. subst (λ (n : ℕ). ∥ IsOffAt seen input editors n ∥₁) (next ∙ sym has.many) (off gone));
      awaited = more_awaited tally.reached more.reached has.answers answer has.awaited has.reached adds.reached;
      backed = more_backed tally.reached more.reached has.answers answer has.backed has.reached adds.reached;
      reached = more_reached tally.reached more.reached has.answers answer has.reached adds.reached;
      no_older = more_no_older tally.awaited more.awaited has.answers answer has.no_older has.awaited_to adds.no_older;
      awaited_to = more_waited tally.awaited more.awaited has.answers answer has.awaited_to adds.no_older;
      in_turn = more_in_turn tally.tickets more.tickets has.answers answer has.in_turn adds.in_turn;
      noted = more_noted tally.puts more.puts tally.lines more.lines tally.count has.answers answer has.noted has.many adds.noted;
      measured = more_measured has.answers answer has.measured (measured_by tally has.answers answer has.many has.counted adds.tells);
      counted = more_counted tally.counted more.counted has.answers answer has.counted adds.counted;
      dropped = subst (λ (o : Opening). AreDropped o.starts (has.answers ++ answer ∷ [])) (sym adds.on.0)
          (more_dropped tally.known.opening.starts tally.accepted tally.tickets has.answers answer has.dropped has.accepted has.in_turn.last adds.dropped);
      accepted = subst (λ (o : Opening). more.accepted ≡ tickets_after o.starts (accepted_in (has.answers ++ answer ∷ []))) (sym adds.on.0)
          (more_accepted tally.known.opening.starts tally.accepted more.accepted has.answers answer has.accepted adds.accepted);
      printed = subst Q (sym texts) (so (lines_of text has.answers) has.printed);
    }

-- the answer to the next line is printed
pub one_printed_by : (text : Answer → List ℕ) (tally more : Tally) (seen : Beginning) (input : Input) (editors place : ℕ) (old mid new : Option (List ℕ)) (answer : Answer) → HasPrintedBy text tally input editors (Appends old mid)
    → Adds tally seen answer more → place ≡ tally.count → ∥ IsSaidAt seen input editors place answer ∥₁ → (answer ≡ generation_gone → ∥ IsOffAt seen input editors place ∥₁) → Appends mid new (line (text answer))
    → HasPrintedBy text more input editors (Appends old new)
one_printed_by text tally more seen input editors place old mid new answer has adds next is off printed =
    one_more_by text tally more seen input editors place (Appends old mid) (Appends old new) answer has adds next is off (λ lines was. appends_more old mid new lines (line (text answer)) was printed)

-- the printing ended where all of them are printed
pub ends_whole : {W : Type 0} (outlet : Ghosts W) (tally : Tally) (end : Option LineFault) (input : Input) (editors : ℕ) (old mid new : W) → HasPrintedBy answer_text tally input editors (Appends (outlet.contents old) (outlet.contents mid))
    → Keeps (outlet.contents mid) (outlet.contents new) → (end ≡ Some Failed → outlet.has_failed new) → PrintsSo outlet input editors old new (record { tally = tally; end = end })
ends_whole outlet tally end input editors old mid new has kept failed = record {
  lines = printed_as answer_text tally input editors (Appends (outlet.contents old) (outlet.contents mid)) (PrintsUnless (end ≡ Some Failed) (outlet.contents old) (outlet.contents new)) has
      (λ lines was. let all = appends_still (outlet.contents old) (outlet.contents mid) (outlet.contents new) lines was kept in (begins_all (outlet.contents old) (outlet.contents new) lines all, λ other. all));
  failed = failed;
}

-- .. or where a write of the next one's line failed
pub ends_broken : {W : Type 0} (outlet : Ghosts W) (tally more : Tally) (seen : Beginning) (input : Input) (editors place : ℕ) (old mid new : W) (answer : Answer)
    → HasPrintedBy answer_text tally input editors (Appends (outlet.contents old) (outlet.contents mid))
    → Adds tally seen answer more → place ≡ tally.count → ∥ IsSaidAt seen input editors place answer ∥₁ → (answer ≡ generation_gone → ∥ IsOffAt seen input editors place ∥₁) → Begins (outlet.contents mid) (outlet.contents new) (line (answer_text answer))
    → outlet.has_failed new → PrintsSo outlet input editors old new (record { tally = more; end = Some Failed })
ends_broken outlet tally more seen input editors place old mid new answer has adds next is off begun failed =
    let failing = PrintsUnless (◌≡◌ {A = Option LineFault} (Some Failed) (Some Failed)) (outlet.contents old) (outlet.contents new) in
    record {
      lines = one_more_by answer_text tally more seen input editors place (Appends (outlet.contents old) (outlet.contents mid)) failing answer has adds next is off
          (λ lines was. (begins_more (outlet.contents old) (outlet.contents mid) (outlet.contents new) lines (line (answer_text answer)) was begun, λ other. absurd (other refl)));
      failed = λ same. failed;
    }

-- these are answers to the lines, whatever is known
pub printed_of : (tally : Tally) (input : Input) (editors : ℕ) (Stands : List ℕ → Type 0) → HasPrintedBy answer_text tally input editors Stands → HasPrinted input editors Stands tally.count
printed_of tally input editors Stands has = record {
  answers = has.answers;
  many = has.many;
  are = λ k answer at. ∥∥₁_map (has.said k answer at) (λ x. record { asked = x.asked; by = x.by; fits = x.fits });
  printed = has.printed;
}

-- ---- what is gathered

pub none_gathered : (tally : Tally) (input : Input) (editors : ℕ) (text : List ℕ) → tally.count ≡ 0 → tally.tickets ≡ no_tickets → tally.puts ≡ no_puts → tally.counted ≡ none_counted → tally.accepted ≡ tally.known.opening.starts → text ≡ [] → HasText tally input editors text
none_gathered tally input editors text first untold unput uncounted starts none = subst (λ (t : List ℕ). HasText tally input editors t) (sym none) (none_printed_by script_text tally input editors (Some []) first untold unput uncounted starts)

pub one_gathered : (tally more : Tally) (seen : Beginning) (input : Input) (editors place : ℕ) (answer : Answer) (old new : List ℕ) → HasText tally input editors old → Adds tally seen answer more
    → place ≡ tally.count → ∥ IsSaidAt seen input editors place answer ∥₁ → (answer ≡ generation_gone → ∥ IsOffAt seen input editors place ∥₁) → new ≡ old ++ line (script_text answer) → HasText more input editors new
one_gathered tally more seen input editors place answer old new has adds next is off printed =
    one_printed_by script_text tally more seen input editors place (Some []) (Some old) (Some new) answer has adds next is off printed
