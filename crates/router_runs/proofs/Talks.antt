-- One line more is answered.
use Rattle.std.proofs.Common.{arith, ◌≡◌, ◌∙◌, ◌<◌, ◌++◌, ◌∷◌, ℕ, List, [], Option, Some, None, IfSome, length, ap, refl, sym, subst, Result, Ok, Err, IfErr, IsErrAnd, inr}
use Rattle.std.specs.List.{flat_map}
use Rattle.std.specs.Io.KnownBytes.{Appends}
use Rattle.std.proofs.KnownBytes.{Appends-nil, Appends-trans}
use Rattle.std.proofs.lemmas.List.{append-nil}
use Rattle.std.proofs.lemmas.List.Concat.{flat_map-append}
use Rattle.input_lines.specs.Lines.{after_line}
use Rattle.input_lines.specs.Reading.{DropsLine, IsNext}
use Rattle.input_lines.specs.declared.line.NextLine.{NextLine}
use Rattle.input_lines.specs.declared.line.NextLine.TheVariants.{Line, LongerLine, End}
use Rattle.input_lines.proofs.LineLemmas.{first_short}
use Rattle.router_lines.specs.Shelves.{Shelf}
use Rattle.router_lines.specs.declared.answer.Answer.{Answer}
use Rattle.router_runs.specs.Faults.{IsOutputFault, LeavesOutput}
use Rattle.router_runs.specs.Reads.{FileRead}
use Rattle.router_runs.specs.Runs.{AnswersAll, AnswersSoFar, AnswersSome, AreAnswers, IsAnswered, IsAnsweredNext, printed_text}
use Rattle.router_runs.specs.declared.talking.RunFault.{RunFault}
use Rattle.router_runs.specs.declared.talking.RunFault.TheVariants.{Input, Output, Memory}

module _ (reads : List ℕ → FileRead → Type 0) where
  -- an answer behind answers
  pub answers_more : (bytes : List ℕ) (old : Shelf) (answers : List Answer) (left : List ℕ) (mid : Shelf) (answer : Answer) (new : Shelf) → AreAnswers reads bytes old answers left mid
      → 0 < length left → IsAnsweredNext reads mid left answer new → AreAnswers reads bytes old (answers ++ answer ∷ []) (after_line left) new
  answers_more bytes old [] left mid answer new are some next = (
    subst (λ (b : List ℕ). 0 < length b) are.0 some,
    (new, (subst (λ (s : Shelf). IsAnsweredNext reads s bytes answer new) are.1 (subst (λ (b : List ℕ). IsAnsweredNext reads mid b answer new) are.0 next), (ap after_line are.0, refl))),
  )
  answers_more bytes old (first ∷ answers) left mid answer new are some next =
      (are.0, (are.1.0, (are.1.1.0, answers_more (after_line bytes) are.1.0 answers left mid answer new are.1.1.1 some next)))

  -- what is answered to a line that stands next is answered to the first line
  pub answered_line : (bytes line : List ℕ) (old : Shelf) (answer : Answer) (new : Shelf) → IsNext bytes Line line → IsAnswered reads old line answer new → IsAnsweredNext reads old bytes answer new
  answered_line bytes line old answer new is answered = inr (is.1, subst (λ (l : List ℕ). IsAnswered reads old l answer new) is.2 answered)

  -- nothing is answered yet
  pub so_far_none : (known : Option (List ℕ)) (shelf : Shelf) (out : Option (List ℕ)) → AnswersSoFar reads known shelf out known shelf out
  so_far_none None shelf out = tt
  so_far_none (Some bytes) shelf out = (bytes, (refl, ([], ((refl, refl), Appends-nil out))))

  -- something stands next
  some_next : (bytes line : List ℕ) (next : NextLine) → (next ≡ End → ⊥) → IsNext bytes next line → 0 < length bytes
  some_next bytes line Line other is = is.0
  some_next bytes line LongerLine other is = let short = first_short bytes in omega (arith, is, short)
  some_next bytes line End other is = absurd (other refl)

  -- one line more
  pub so_far_more : (known : Option (List ℕ)) (old : Shelf) (before : Option (List ℕ)) (left : Option (List ℕ)) (mid : Shelf) (after : Option (List ℕ)) (next : NextLine) (line : List ℕ) (answer : Answer) (new : Shelf) (rest printed : Option (List ℕ))
      → AnswersSoFar reads known old before left mid after → (next ≡ End → ⊥) → IfSome left (λ bytes. IsNext bytes next line) → DropsLine left rest
      → ((bytes : List ℕ) → IsNext bytes next line → IsAnsweredNext reads mid bytes answer new) → Appends after printed (printed_text answer)
      → AnswersSoFar reads known old before rest new printed
  so_far_more None old before left mid after next line answer new rest printed so other is drops answered prints = tt
  so_far_more (Some bytes) old before left mid after next line answer new rest printed so other is drops answered prints =
      let behind = so.0 in
      let stands : IsNext behind next line = subst (λ (o : Option (List ℕ)). IfSome o (λ ys. IsNext ys next line)) so.1.0 is in
      let dropped : rest ≡ Some (after_line behind) = subst (λ (o : Option (List ℕ)). DropsLine o rest) so.1.0 drops in
      let has = so.1.1 in
      let texts : flat_map printed_text (has.0 ++ answer ∷ []) ≡ flat_map printed_text has.0 ++ printed_text answer =
      flat_map-append printed_text has.0 (answer ∷ []) ∙ ap (λ (l : List ℕ). flat_map printed_text has.0 ++ l) (append-nil (printed_text answer)) in (
        after_line behind,
        (
          dropped,
          (
            has.0 ++ answer ∷ [],
            (
              answers_more bytes old has.0 behind mid answer new has.1.0 (some_next behind line next other stands) (answered behind stands),
              subst (λ (l : List ℕ). Appends before printed l) (sym texts) (Appends-trans before after printed (flat_map printed_text has.0) (printed_text answer) has.1.1 prints),
            ),
          ),
        ),
      )

  -- all lines, where none is left
  pub all_answered : (known : Option (List ℕ)) (old : Shelf) (before left : Option (List ℕ)) (new : Shelf) (after : Option (List ℕ)) (line : List ℕ) → AnswersSoFar reads known old before left new after
      → IfSome left (λ bytes. IsNext bytes End line) → AnswersAll reads known old before new after
  all_answered None old before left new after line so is = tt
  all_answered (Some bytes) old before left new after line so is =
      let none : so.0 ≡ [] = subst (λ (o : Option (List ℕ)). IfSome o (λ ys. IsNext ys End line)) so.1.0 is in
      let has = so.1.1 in
      (has.0, (subst (λ (l : List ℕ). AreAnswers reads bytes old has.0 l new) none has.1.0, has.1.1))

  -- the first of them
  pub some_answered : (known : Option (List ℕ)) (old : Shelf) (before left : Option (List ℕ)) (new : Shelf) (after : Option (List ℕ)) → AnswersSoFar reads known old before left new after → AnswersSome reads known old before after
  some_answered None old before left new after so = tt
  some_answered (Some bytes) old before left new after so = (so.0, (new, so.1.1))

-- what holds of the fault that came holds of the one that is handed up
pub handed_up : {T : Type 0} (r : Result T RunFault) (P : RunFault → Type 0) (fault : RunFault) → IsErrAnd r (λ e. e ≡ fault) → P fault → IfErr r P
handed_up (Ok x) P fault is has = absurd is
handed_up (Err e) P fault is has = subst P (sym is) has

-- what held of the output holds behind a fault of printing, unless the output failed
pub output_or : {W : Type 0} (P : W → Type 0) (fault : RunFault) (old new : W) → LeavesOutput fault old new → P old → IsOutputFault fault (P new)
output_or P (Input error) old new leaves has = absurd leaves
output_or P (Output error) old new leaves has = tt
output_or P Memory old new leaves has = subst P (sym leaves) has
