-- Answers to a whole script, printed at its end.
use Rattle.std.proofs.Common.{◌≡◌, ◌∷◌, [], ℕ, suc, List, Option, Some, Bool, None, length, map, refl, sym, ap, ◌∙◌, ⊎_elim, subst, arith}
use Rattle.std.specs.Prelude.{slice_get}
use Rattle.std.specs.Coded.{Coded-set, coded_bool, coded_option}
use Rattle.std.specs.Io.KnownBytes.{Appends}
use mathlib.Core.Logic.{∥∥₁_elim}
use Rattle.generations.specs.Beginnings.{Beginning}
use Rattle.checkpoint.specs.declared.store.Store.{Store}
use Rattle.line_exchange.specs.Begun.{Begins}
use Rattle.command_output.specs.declared.fault.Fault.{Fault}
use Rattle.command_output.specs.declared.fault.Fault.TheVariants as told
use Rattle.line_exchange.specs.Reads.{AreOfInput}
use Rattle.line_exchange.specs.declared.answer_writer.AnswerWriter.{Ghosts}
use Rattle.line_exchange.specs.declared.messages.Stream.{Ghosts as Streams}
use Rattle.value_syntax.specs.declared.line.ScriptLine.{ScriptLine}
use Rattle.value_syntax.specs.declared.line.ScriptLine.TheVariants.{Edit, Route}
use Rattle.live_lines.specs.declared.asked.Asked.{Asked}
use Rattle.live_lines.specs.declared.answer.Answer.{Answer}
use Rattle.live_lines.specs.declared.answer.Answer.TheVariants.{Settled, AlreadyIn, RefusedBefore, OldTicket, Way}
use Rattle.live_lines.specs.Answers.{FitsAsked, script_text}
use Rattle.line_exchange.specs.declared.printed.Printed.{Printed}
use Rattle.line_exchange.specs.declared.line_fault.LineFault.TheVariants.{Failed}
use Rattle.line_exchange.specs.declared.served.Served.{Served}
use Rattle.line_exchange.specs.declared.served.Served.TheVariants as served
use Rattle.line_exchange.specs.Inputs.{Input, Script}
use Rattle.line_exchange.specs.Scripts.{AreOfScript, is_edit, is_verdict, line_asked}
use Rattle.line_exchange.specs.OneList.{AreSaid}
use Rattle.line_exchange.specs.Gathers.{BreaksOff, HasText, IsServed, PrintsAtEnd}
use Rattle.line_exchange.specs.Ends.{fault_of}
use Rattle.line_exchange.proofs.SaidLines.{printed_as}
use Rattle.live_service.specs.Runs.{IsPrintEnd}
use Rattle.live_service.specs.ServedList.{HasPrintedOn, HasServedOn}
use Rattle.live_service.proofs.Ended.{none_given}

-- an answer to a line is a verdict just where the line is an edit
same_kind : (l : ScriptLine) (answer : Answer) → FitsAsked (line_asked l) answer → is_verdict answer ≡ Some (is_edit l)
same_kind (Edit session change) (Settled mark) fits = refl
same_kind (Edit session change) (AlreadyIn s t) fits = (let none = fits.1 in absurd (cc))
same_kind (Edit session change) (RefusedBefore s t op code) fits = (let none = fits.1 in absurd (cc))
same_kind (Edit session change) (OldTicket s t) fits = (let none = fits.1 in absurd (cc))
same_kind (Edit session change) _ fits = absurd fits
same_kind (Route from to) (Way way) fits = refl
same_kind (Route from to) _ fits = absurd fits

-- so it is of all answers, where there is one to each line
kinds : (script : List ScriptLine) (answers : List Answer) → length answers ≡ length script
    → ((k : ℕ) (answer : Answer) → slice_get answers k ≡ Some answer → (l : ScriptLine) → slice_get script k ≡ Some l → is_verdict answer ≡ Some (is_edit l)) → AreOfScript script answers
kinds [] [] many each = refl
kinds [] (a ∷ answers) many each = absurd (cc)
kinds (l ∷ script) [] many each = absurd (cc)
kinds (l ∷ script) (a ∷ answers) many each =
    let rest = kinds script answers (omega (arith, many)) (λ k answer at line is. each (suc k) answer at line is) in
    ap (λ (b : Option Bool). b ∷ map is_verdict answers) (each 0 a refl l refl) ∙ ap (λ (bs : List (Option Bool)). Some (is_edit l) ∷ bs) rest

of_script : (known : Beginning) (script : List ScriptLine) (editors : ℕ) (answers : List Answer) → length answers ≡ length script → AreSaid known (Script script) editors answers → AreOfScript script answers
of_script known script editors answers many said =
    kinds script answers many (λ k answer at l is.
    ∥∥₁_elim (said k answer at) (Coded-set (coded_option coded_bool) _ _) (λ x.
    let both : Some x.by.line ≡ Some l = sym x.by.at ∙ is in
    let line : x.by.line ≡ l = cc in
    let fits : FitsAsked (line_asked x.by.line) answer = subst (λ (a : Asked). FitsAsked a answer) x.by.asks x.fits in
    same_kind l answer (subst (λ (line : ScriptLine). FitsAsked (line_asked line) answer) line fits)))

-- the text that was gathered where no fault was given is that of answers to a whole script
script_whole : (input : Input) (script : List ScriptLine) (editors : ℕ) (printed : Printed) (given : Option Fault) (ended : Served) (text : List ℕ) → input ≡ Script script
    → (printed.end ≡ None → HasText printed.tally input editors text) → IsPrintEnd input printed given ended → given ≡ None → IsServed script (λ lines. text ≡ lines)
script_whole input script editors printed given ended text names has end is =
    let has_all : HasText printed.tally (Script script) editors text = subst (λ (i : Input). HasText printed.tally i editors text) names (has (end.done is)) in
    let all : printed.tally.count ≡ length script = (subst (λ (i : Input). IsPrintEnd i printed given ended) names end).whole is in
    (has_all.answers, of_script printed.tally.known script editors has_all.answers (has_all.many ∙ all) has_all.said, has_all.printed)

-- a service that ended without a fault has printed it
pub script_served : {W : Type 0} (outlet : Ghosts W) (input : Input) (script : List ScriptLine) (editors : ℕ) (printed : Printed) (given : Option Fault) (ended : Served) (text : List ℕ) (old new : W) → input ≡ Script script
    → (printed.end ≡ None → HasText printed.tally input editors text) → PrintsAtEnd outlet text old new given ended → IsPrintEnd input printed given ended → ended ≡ served.Printed
    → IsServed script (Appends (outlet.contents old) (outlet.contents new))
script_served outlet input script editors printed given ended text old new names has prints end is =
    let whole = script_whole input script editors printed given ended text names has end (none_given given ended end.finish is) in
    (whole.0, whole.1, subst (λ (t : List ℕ). Appends (outlet.contents old) (outlet.contents new) t) whole.2 (prints.printed is))

-- and one whose printing failed a beginning of it
pub script_broken : {W : Type 0} (outlet : Ghosts W) (input : Input) (script : List ScriptLine) (editors : ℕ) (printed : Printed) (given : Option Fault) (ended : Served) (text : List ℕ) (old new : W) → input ≡ Script script
    → (printed.end ≡ Some Failed → ⊥) → (printed.end ≡ None → HasText printed.tally input editors text) → PrintsAtEnd outlet text old new given ended → IsPrintEnd input printed given ended → fault_of ended ≡ Some told.Output
    → BreaksOff outlet script old new
script_broken outlet input script editors printed given ended text old new names unbroken has prints end is =
    ⊎_elim (λ same. absurd (⊎_elim unbroken (λ of. subst AreOfInput names of) (end.met (sym same ∙ is)))) (λ none.
    let whole = script_whole input script editors printed given ended text names has end none.0 in
    (prints.failed none.0 is, (whole.0, whole.1, subst (λ (t : List ℕ). Begins (outlet.contents old) (outlet.contents new) t) whole.2 (prints.begun none.0))))
    end.finish

-- and its answers are by what is known
pub script_gathered : {D J W : Type 0} {V : _} → (outlet : Ghosts W) (stream : Streams J) (store : Store D V) (printed : Printed) (given : Option Fault) (ended : Served) (text : List ℕ) (old new : W) (back : Option D)
    → (printed.end ≡ None → HasText printed.tally stream.input stream.editors text) → PrintsAtEnd outlet text old new given ended → IsPrintEnd stream.input printed given ended → (ended ≡ served.Printed → HasServedOn store stream.input stream.editors printed.tally back)
    → ended ≡ served.Printed → HasPrintedOn script_text stream store (outlet.contents old) (outlet.contents new) back
script_gathered outlet stream store printed given ended text old new back has prints end on is =
    let none = none_given given ended end.finish is in
    record {
      tally = printed.tally;
      printed = printed_as script_text printed.tally stream.input stream.editors (Appends (Some []) (Some text)) (Appends (outlet.contents old) (outlet.contents new)) (has (end.done none))
          (λ lines same. subst (λ (t : List ℕ). Appends (outlet.contents old) (outlet.contents new) t) same (prints.printed is));
      whole = end.whole none;
      on = on is;
    }
