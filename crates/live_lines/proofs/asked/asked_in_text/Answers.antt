use Rattle.std.proofs.Common.{◌≡◌, ◌∙◌, ℕ, List, Bor, ap, subst}
use Rattle.std.specs.Prelude.{IfOk}
use Rattle.value_syntax.specs.Reading.{texts_of}
use Rattle.value_syntax.specs.Scripts.{words_of}
use Rattle.live_lines.specs.Lines.{Asks, AsksJust, WordsAsk}
use Rattle.live_lines.proofs.Asking.{ok_more, text_asked}
use Rattle.live_lines.proofs.asked.asked_in_text.Goals as goal

pub returns : goal.returns
returns c =
    let words : texts_of c.deref.result.now ≡ words_of c.args.line.now =
    ap (λ (ws : List (Bor (List ℕ))). texts_of ws) c.deref.ensures.value ∙ c.in_ok-words.ensures ∙ ap (λ (text : List ℕ). words_of text) c.in-Ok.ensures.cases.0 in
    let asks : IfOk c.asked_by.result (AsksJust (WordsAsk c.args.editors (words_of c.args.line.now))) =
    subst (λ (ws : List (List ℕ)). IfOk c.asked_by.result (AsksJust (WordsAsk c.args.editors ws))) words c.asked_by.ensures in
    ok_more (AsksJust (WordsAsk c.args.editors (words_of c.args.line.now))) (AsksJust (Asks c.args.editors c.args.line.now)) c.asked_by.result
    (λ asked a. text_asked c.args.editors c.args.line.now asked c.in-Ok.ensures.cases.1 a) asks
