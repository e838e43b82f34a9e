-- What a text says, a line more at a time.
use Rattle.std.proofs.Common.{arith, ◌≡◌, ◌≢◌, ◌<◌, ◌+◌, ◌-◌, ◌∙◌, sym, ap, ap₂, ℕ, Bool, cond, not, List, [], ◌∷◌, ◌++◌, map, length, take, get_or, Bor, append_assoc}
use Rattle.std.specs.List.{filter}
use Rattle.std.proofs.lemmas.Bool.{eq-eqb, ne_eqb}
use Rattle.std.proofs.lemmas.List.{get_or-map, length-map, map-append, take_more}
use Rattle.std.proofs.lemmas.List.Elements.{filter-append}
use Rattle.value_syntax.specs.Reading.{texts_of}
use Rattle.rehearsal_syntax.specs.declared.line.RehearsalLine.{RehearsalLine}
use Rattle.rehearsal_syntax.specs.declared.stage.Stage.TheVariants.{Empty}
use Rattle.rehearsal_syntax.specs.Grammar.{IsRehearsal, MayStand, line_words, stage_of}
use Rattle.rehearsal_syntax.specs.Said.{IsFirstRefused, Say, isnt_empty, said, words_of}
use Rattle.rehearsal_syntax.proofs.Orders.{none_goes_on}

said_append : (xs ys : List (List ℕ)) → said (xs ++ ys) ≡ said xs ++ said ys
said_append xs ys = ap (λ (l : List (List (List ℕ))). filter isnt_empty l) (map-append words_of xs ys) ∙ filter-append isnt_empty (map words_of xs) (map words_of ys)

-- one text more
pub said_more : (xs : List (Bor (List ℕ))) (i : ℕ) (d : Bor (List ℕ)) (words : List (List ℕ)) (lines : List RehearsalLine) → i < length xs → words ≡ words_of (get_or xs i d).now → Say (take i (texts_of xs)) lines
    → said (take (i + 1) (texts_of xs)) ≡ map line_words lines ++ filter isnt_empty (words ∷ [])
said_more xs i d words lines lt is say =
    let now : Bor (List ℕ) → List ℕ = λ x. x.now in
    let more = take_more (texts_of xs) i d.now (omega (arith, length-map xs now)) ∙ ap (λ (t : List ℕ). take i (texts_of xs) ++ t ∷ []) (get_or-map now xs i d d.now lt) in
    ap said more ∙ said_append (take i (texts_of xs)) ((get_or xs i d).now ∷ []) ∙ ap₂ (λ (a b : List (List (List ℕ))). a ++ b) say (ap (λ (ws : List (List ℕ)). filter isnt_empty (ws ∷ [])) (sym is))

-- what is empty says nothing
pub none_said : (words : List (List ℕ)) → length words ≡ 0 → filter isnt_empty (words ∷ []) ≡ []
none_said words none = ap (λ (t : Bool). cond (not t) (words ∷ []) []) (eq-eqb (length words) 0 none)

pub one_said : (words : List (List ℕ)) → length words ≢ 0 → filter isnt_empty (words ∷ []) ≡ words ∷ []
one_said words some = ap (λ (t : Bool). cond (not t) (words ∷ []) []) (ne_eqb (length words) 0 some)

-- a line that no line may stand for is the first that is refused
pub first_refused : (texts : List (List ℕ)) (i : ℕ) (words : List (List ℕ)) (lines : List RehearsalLine) → i < length texts → said (take (i + 1) texts) ≡ map line_words lines ++ words ∷ []
    → Say (take i texts) lines → IsRehearsal lines → ((line : RehearsalLine) → MayStand (stage_of Empty lines) line → words ≡ line_words line → ⊥) → IsFirstRefused texts (i + 1)
first_refused texts i words lines lt are say stand none =
    let same : i + 1 - 1 ≡ i = omega arith in
    record {
      some = omega arith;
      within = omega arith;
      before = (lines, ap (λ n. said (take n texts)) same ∙ say, stand);
      refused = λ more all other rehearsal.
          let whole = sym other ∙ said_append (take (i + 1) texts) more ∙ ap (λ (a : List (List (List ℕ))). a ++ said more) are ∙ append_assoc (map line_words lines) (words ∷ []) (said more) in
          none_goes_on Empty lines all words (said more) stand rehearsal whole none;
    }
