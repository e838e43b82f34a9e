use Rattle.std.proofs.Common.{arith, ◌≡◌, ◌≢◌, ◌<◌, ◌+◌, ◌∙◌, ◌∷◌, ◌++◌, [], sym, ap, subst, ℕ, List, Bor, append-nil, map, length}
use Rattle.std.proofs.lemmas.Bool.Decides.{nat_tests}
use Rattle.std.proofs.lemmas.Grind.{common_steps}
use Rattle.std.proofs.lemmas.List.{map-append}
use Rattle.value_syntax.specs.Reading.{texts_of}
use Rattle.rehearsal_syntax.specs.declared.stage.Stage.TheVariants.{Empty}
use Rattle.rehearsal_syntax.specs.Grammar.{IsRehearsal, MayStand, line_words, stage_after, stage_of}
use Rattle.rehearsal_syntax.specs.Said.{IsFirstRefused, words_of}
use Rattle.rehearsal_syntax.proofs.Orders.{stage_more, stand_more}
use Rattle.rehearsal_syntax.proofs.SaidLemmas.{first_refused, none_said, one_said, said_more}
use Rattle.rehearsal_syntax.proofs.reading.read_rehearsal.Goals as goal

pub returns-in-Err-Form-clause-refused : goal.returns-in-Err-Form-clause-refused
returns-in-Err-Form-clause-refused c =
    let texts : List (Bor (List ℕ)) = c.in_ok-texts.texts.items in
    let words : List (List ℕ) = texts_of c.in_ok-words.words.items in
    let lines = c.loop-index.lines.items in
    let within : c.loop-index.index < length texts = grind (arith, common_steps) in
    let long : c.loop-index.index < length (texts_of texts) = grind (arith, common_steps, within) in
    let some : length words ≢ 0 = λ none. grind (arith, common_steps, nat_tests, none) in
    let given : texts_of c.deref.result.now ≡ words = ap (λ (ws : List (Bor (List ℕ))). texts_of ws) c.deref.ensures.value in
    let is = c.in_ok-words.ensures ∙ ap (λ (t : Bor (List ℕ)). words_of t.now) c.index.ensures in
    let said = said_more texts c.loop-index.index c.index.result.now words lines within is c.loop-index.invariant.say ∙ ap (λ (l : List (List (List ℕ))). map line_words lines ++ l) (one_said words some) in
    subst (λ ts. IsFirstRefused ts (c.loop-index.index + 1)) c.in_ok-texts.ensures
    (first_refused (texts_of texts) c.loop-index.index words lines long said c.loop-index.invariant.say c.loop-index.invariant.stand
    (λ line may same.
    let read = c.in-Err-Form.ensures.only line (subst (λ s. MayStand s line) (sym c.loop-index.invariant.stage) may) (given ∙ same) in
    let form = c.in-Err-Form.field-0-is in
    cc))

pub loop-index-preserved-then-is_empty : goal.loop-index-preserved-then-is_empty
loop-index-preserved-then-is_empty c =
    let texts : List (Bor (List ℕ)) = c.in_ok-texts.texts.items in
    let words : List (List ℕ) = texts_of c.in_ok-words.words.items in
    let lines = c.loop-index.lines.items in
    let within : c.loop-index.index < length texts = grind (arith, common_steps) in
    let none : length words ≡ 0 = grind (arith, common_steps, nat_tests) in
    let is = c.in_ok-words.ensures ∙ ap (λ (t : Bor (List ℕ)). words_of t.now) c.index.ensures in
    let said = said_more texts c.loop-index.index c.index.result.now words lines within is c.loop-index.invariant.say in
    record {
      say = said ∙ ap (λ (l : List (List (List ℕ))). map line_words lines ++ l) (none_said words none) ∙ append-nil (map line_words lines);
      stand = c.loop-index.invariant.stand;
      stage = c.loop-index.invariant.stage;
    }

pub loop-index-preserved : goal.loop-index-preserved
loop-index-preserved c =
    let texts : List (Bor (List ℕ)) = c.in_ok-texts.texts.items in
    let words : List (List ℕ) = texts_of c.in_ok-words.words.items in
    let lines = c.loop-index.lines.items in
    let line = c.in-Ok.line in
    let within : c.loop-index.index < length texts = grind (arith, common_steps) in
    let some : length words ≢ 0 = λ none. grind (arith, common_steps, nat_tests, none) in
    let given : texts_of c.deref.result.now ≡ words = ap (λ (ws : List (Bor (List ℕ))). texts_of ws) c.deref.ensures.value in
    let is = c.in_ok-words.ensures ∙ ap (λ (t : Bor (List ℕ)). words_of t.now) c.index.ensures in
    let said = said_more texts c.loop-index.index c.index.result.now words lines within is c.loop-index.invariant.say in
    let one = one_said words some ∙ ap (λ (ws : List (List ℕ)). ws ∷ []) (sym given ∙ c.in-Ok.ensures.found.0) in
    let may : MayStand (stage_of Empty lines) line = subst (λ s. MayStand s line) c.loop-index.invariant.stage c.in-Ok.ensures.found.1 in
    let items = c.in_ok-push.ensures.items in
    record {
      say = said ∙ ap (λ (l : List (List (List ℕ))). map line_words lines ++ l) one ∙ sym (map-append line_words lines (line ∷ [])) ∙ ap (λ ls. map line_words ls) (sym items);
      stand = subst IsRehearsal (sym items) (stand_more Empty lines line c.loop-index.invariant.stand may);
      stage = c.behind-stage.ensures ∙ ap (λ s. stage_after s line) c.loop-index.invariant.stage ∙ sym (stage_more Empty lines line) ∙ ap (λ ls. stage_of Empty ls) (sym items);
    }
