-- How a committer's lists and the state of its store stay tied.
use Rattle.std.proofs.Common.{◌≡◌, ℕ, ◌+◌, ◌||◌, ◌≤◌, Bool, true, false, List, [], ◌∷◌, ◌++◌, length, map, fold, Option, Some, None, refl, ap, sym, ◌∙◌, subst, append-nil, arith}
use Rattle.std.specs.Option.{option_map}
use Rattle.std.proofs.lemmas.List.{map-append}
use Rattle.std.proofs.lemmas.List.Sums.{fold-append}
use Rattle.layout_2.specs.State.{State, asked}
use Rattle.graph_edits.specs.Edges.{Network}
use Rattle.schemes.specs.declared.parts.Parts.{Parts}
use Rattle.schemes.specs.Tables.{tables}
use Rattle.schemes.specs.Service.{Serves}
use Rattle.requests.specs.Tickets.{Rises}
use Rattle.requests.specs.Requests.{asked_by}
use Rattle.requests.specs.declared.request.Request.{Request}
use Rattle.generations.specs.declared.posting.Mark.{Mark}
use Rattle.generations.specs.declared.posting.Notice.{Notice}
use Rattle.generations.specs.declared.posting.Notice.TheVariants.{Marked, Failed, Built}
use Rattle.generations.specs.Notices.{told_to, counts_of, marks_of, marks_in, newest_in, is_down, says_down}
use Rattle.generations.specs.Beginnings.{Opening}
use Rattle.generations.specs.Boards.{accepting}
use Rattle.generations.proofs.Lawfulness.{lawful_none, lawful_marks, lawful_down, lawful_generation, marks_push, counted_append, still_up}
use Rattle.generations.proofs.Numbers.{same_newest, now_newest, all_below}
use Rattle.request_lists.specs.Lists.{IsAhead}
use Rattle.request_lists.proofs.Steps.{not_newest}
use Rattle.committer.specs.Ties.{IsTied}
use Rattle.committer.specs.Turns.{HoldsNoLater}
use Rattle.committer.proofs.InTurns.{held_no_later}
use Rattle.committer.proofs.Settled.{IsSettled}

-- ---- the lists

-- a notice of no marks leaves the marks
same_marks : (log : List Notice) (p : Notice) → marks_of p ≡ [] → marks_in (log ++ p ∷ []) ≡ marks_in log
same_marks log p none = marks_push log p ∙ (ap (λ l. marks_in log ++ l) none ∙ append-nil (marks_in log))

down_pushed : (log : List Notice) → says_down (log ++ Failed ∷ []) ≡ true
down_pushed [] = refl
down_pushed (q ∷ log) =
    elim (is_down q) as (λ b. (b || says_down (log ++ Failed ∷ [])) ≡ true) [ true ↦ refl | false ↦ down_pushed log ]

-- ---- the steps

-- at the beginning
pub tied_first : (opening : Opening) (state : State) → opening.count ≡ state.count → opening.starts ≡ state.tickets → IsTied opening [] None [] [] state false
tied_first opening state count starts = record {
  lawful = lawful_none opening.starts opening.count;
  rises = tt;
  told = refl;
  counted = omega (arith, count);
  tickets = starts;
  is_down = refl;
  newest_is = refl;
  behind = λ g at. absurd cc;
  serves = λ g at same. absurd cc;
}

-- requests were taken where nothing was held
pub tied_taken : (opening : Opening) (log : List Notice) (newest : Option ℕ) (got now got' : List Request) (state : State) (down : Bool) → IsTied opening log newest [] got state down
    → got' ≡ got ++ now → Rises opening.starts (asked got') → IsTied opening log newest now got' state down
tied_taken opening log newest got now got' state down h front rises = record {
  lawful = h.lawful;
  rises = rises;
  told = ap (λ l. l ++ asked now) (sym (append-nil (map told_to (marks_in log))) ∙ h.told) ∙ (sym (map-append asked_by got now) ∙ ap asked (sym front));
  counted = h.counted;
  tickets = h.tickets;
  is_down = h.is_down;
  newest_is = h.newest_is;
  behind = h.behind;
  serves = h.serves;
}

-- what is taken next may be given to a desk
pub tied_no_later : (opening : Opening) (log : List Notice) (newest : Option ℕ) (held got : List Request) (state : State) (down : Bool) (starts : List ℕ) → starts ≡ opening.starts → IsTied opening log newest held got state down
    → HoldsNoLater state.tickets held starts got
tied_no_later opening log newest held got state down starts same h =
    subst (λ (ts : List ℕ). HoldsNoLater state.tickets held ts got) (sym same) (held_no_later opening.starts state.tickets (marks_in log) held got h.lawful.tickets h.tickets h.told)

pub tied_rises : (opening : Opening) (log : List Notice) (newest : Option ℕ) (held got : List Request) (state : State) (down : Bool) (starts : List ℕ) → starts ≡ opening.starts → IsTied opening log newest held got state down → Rises starts (asked got)
tied_rises opening log newest held got state down starts same h = subst (λ (ts : List ℕ). Rises ts (asked got)) (sym same) h.rises

-- the marks of what is held, once it is committed
pub tied_marks : (opening : Opening) (log : List Notice) (newest : Option ℕ) (held got : List Request) (state next : State) (marks : List Mark) (many : ℕ) → IsTied opening log newest held got state false
    → IsSettled state held marks many next → IsTied opening (log ++ Marked marks ∷ []) newest [] got next false
tied_marks opening log newest held got state next marks many h is =
    let all : map told_to (marks_in log ++ marks) ≡ asked got = map-append told_to (marks_in log) marks ∙ (ap (λ l. map told_to (marks_in log) ++ l) is.each ∙ h.told) in
    let counted = counted_append opening.count state.count many (marks_in log) marks h.lawful.counts h.counted is.counts in
    let grown : marks_in (log ++ Marked marks ∷ []) ≡ marks_in log ++ marks = marks_push log (Marked marks) in
    let newest_same : newest_in (log ++ Marked marks ∷ []) ≡ newest_in log = same_newest log (Marked marks) refl in
    record {
      lawful = lawful_marks opening.starts opening.count log marks h.lawful h.is_down (subst (Rises opening.starts) (sym all) h.rises) counted.0;
      rises = h.rises;
      told = append-nil (map told_to (marks_in (log ++ Marked marks ∷ []))) ∙ (ap (map told_to) grown ∙ all);
      counted = ap (λ (l : List Mark). opening.count + length (counts_of l)) grown ∙ (counted.1 ∙ sym is.count);
      tickets = ap (fold accepting opening.starts) grown ∙ (fold-append accepting opening.starts (marks_in log) marks ∙ (ap (λ (t : List ℕ). fold accepting t marks) h.tickets ∙ is.tickets));
      is_down = still_up log (Marked marks) h.is_down refl;
      newest_is = h.newest_is ∙ ap (option_map (λ g. g.0)) (sym newest_same);
      behind = λ g at. let b : g.0 ≤ state.count = h.behind g (sym newest_same ∙ at) in let c = is.count in omega (arith, b, c);
      serves = λ g at same.
          let b : g.0 ≤ state.count = h.behind g (sym newest_same ∙ at) in
          let c = is.count in
          let none : many ≡ 0 = omega (arith, b, c, same) in
          subst (λ (m : Network). ∥ Serves m (tables g.1) ∥₁) (sym (is.graph none)) (h.serves g (sym newest_same ∙ at) (omega (arith, c, none, same)));
    }

-- that the device failed
pub tied_down : (opening : Opening) (log : List Notice) (newest : Option ℕ) (held got : List Request) (state : State) → IsTied opening log newest held got state false
    → IsTied opening (log ++ Failed ∷ []) newest held got state true
tied_down opening log newest held got state h =
    let grown : marks_in (log ++ Failed ∷ []) ≡ marks_in log = same_marks log Failed refl in
    let newest_same : newest_in (log ++ Failed ∷ []) ≡ newest_in log = same_newest log Failed refl in
    record {
      lawful = lawful_down opening.starts opening.count log h.lawful h.is_down;
      rises = h.rises;
      told = ap (λ (l : List Mark). map told_to l ++ asked held) grown ∙ h.told;
      counted = ap (λ (l : List Mark). opening.count + length (counts_of l)) grown ∙ h.counted;
      tickets = ap (fold accepting opening.starts) grown ∙ h.tickets;
      is_down = down_pushed log;
      newest_is = h.newest_is ∙ ap (option_map (λ g. g.0)) (sym newest_same);
      behind = λ g at. h.behind g (sym newest_same ∙ at);
      serves = λ g at same. h.serves g (sym newest_same ∙ at) same;
    }

-- a generation of an earlier state, whose number is above that of the newest
pub tied_earlier : (opening : Opening) (log : List Notice) (newest : Option ℕ) (held got : List Request) (state : State) (number : ℕ) (scheme : Parts) → IsTied opening log newest held got state false
    → number ≤ state.count → IsAhead number log → (number ≡ state.count → Serves state.graph (tables scheme)) → IsTied opening (log ++ Built number scheme ∷ []) (Some number) held got state false
tied_earlier opening log newest held got state number scheme h reached ahead served =
    let grown : marks_in (log ++ Built number scheme ∷ []) ≡ marks_in log = same_marks log (Built number scheme) refl in
    let now : newest_in (log ++ Built number scheme ∷ []) ≡ Some (number, scheme) = now_newest log number scheme in
    let below = all_below log number h.lawful.numbers (λ g at. let a = ahead g at in omega (arith, a)) (not_newest log number ahead) in
    record {
      lawful = lawful_generation opening.starts opening.count log number scheme h.lawful h.is_down below;
      rises = h.rises;
      told = ap (λ (l : List Mark). map told_to l ++ asked held) grown ∙ h.told;
      counted = ap (λ (l : List Mark). opening.count + length (counts_of l)) grown ∙ h.counted;
      tickets = ap (fold accepting opening.starts) grown ∙ h.tickets;
      is_down = still_up log (Built number scheme) h.is_down refl;
      newest_is = sym (ap (option_map (λ g. g.0)) now);
      behind = λ g at. let same : (number, scheme) ≡ g = cc in let e : number ≡ g.0 = ap (λ x. x.0) same in omega (arith, e, reached);
      serves = λ g at same. let e : (number, scheme) ≡ g = cc in let n : number ≡ g.0 = ap (λ x. x.0) e in ∣ subst (λ (x : ℕ × Parts). Serves state.graph (tables x.1)) e (served (n ∙ same)) ∣₁;
    }
