use Rattle.std.proofs.Common.{◌≡◌, ◌∙◌, ◌+◌, ◌++◌, ◌&&◌, ◌||◌, arith, ap, ap₂, codes, false, length, pos, refl, true, Bool, Bor, List, [], ◌∷◌, Option, Some}
use Rattle.std.proofs.lemmas.Bool.{ne_eqb}
use Rattle.std.proofs.lemmas.List.{length-append}
use Rattle.std.proofs.lemmas.Result.{IfOk-weaker}
use Rattle.clap.specs.Simple.{with_rule}
use Rattle.clap.specs.Walk.{Rule, Text, is_empty, is_free_arg, rule_of}
use Rattle.clap.specs.Adds.{AddsRequirements}
use Rattle.clap.specs.declared.builder.arg.Arg.{Arg}
use Rattle.clap.specs.declared.builder.arg.ArgPredicate.{ArgPredicate}
use Rattle.clap.specs.declared.builder.value_parser.ValueParser.{ValueParser}
use Rattle.clap.specs.declared.builder.value_parser.ValueParser.TheVariants.{Signed}
use Rattle.lab_parts.specs.Grammar.{app_with}
use Rattle.crash_trials.proofs.rehearse.grammar.Goals as goal

not_empty : {X : Type 0} (xs : List X) (x : X) → is_empty (xs ++ x ∷ []) ≡ false
not_empty xs x = ne_eqb (length (xs ++ x ∷ [])) 0 (λ none.
    let more : length (xs ++ x ∷ []) ≡ length xs + 1 = length-append xs (x ∷ []) in
    absurd (omega arith))

third_false : (a b c d : Bool) → c ≡ false → (a && (b && (c && d))) ≡ false
third_false true true c d is = ap (λ (x : Bool). x && d) is
third_false true false c d is = refl
third_false false b c d is = refl

-- an argument that needs another has a rule on it
needs_one : (old new : Arg) (one : ArgPredicate × Bor Text) → AddsRequirements old new (one ∷ []) → rule_of new ≡ record (rule_of old) { is_free = false }
needs_one old new one added =
    let bound : is_free_arg (record old { needs = new.needs }) ≡ false = third_false _ _ (is_empty new.needs.items) _ (ap is_empty added.1 ∙ not_empty old.needs.items one) in
    ap rule_of added.0 ∙ ap (λ (free : Bool). record (rule_of old) { is_free = free }) bound

pub returns : goal.returns
returns c =
    let listed = c.in_ok-command.ensures.app ∙ ap₂ (λ (x y : Rule). app_with (codes "rehearse") (x ∷ y ∷ [])) c.word.ensures c.flag.ensures in
    let parser : c.range.result ≡ Signed (pos 1) (pos 4294967295) = rw c.value_parser.ensures at c.range.ensures in
    let given = c.value_parser-2.ensures.given in
    let numbered = ap (λ (r : Rule). record r { defaults = codes "4096" ∷ [] }) (c.as_arg.ensures.rule ∙ c.value.ensures) in
    let bounded = given.1 ∙ ap Some (given.2 ∙ parser) in
    let parsed = ap rule_of c.value_parser-2.ensures.others ∙ ap₂ (λ (r : Rule) (p : Option ValueParser). record r { parser = p }) (ap rule_of c.default_value.ensures ∙ numbered) bounded in
    let rule = needs_one c.value_parser-2.result c.in_ok-most.most _ c.in_ok-most.ensures ∙ ap (λ (r : Rule). record r { is_free = false }) parsed in
    let global = λ (a : Arg). a.global in
    let local = ap global c.in_ok-most.ensures.0 ∙ ap global c.value_parser-2.ensures.others ∙ ap global c.default_value.ensures ∙ c.as_arg.ensures.local in
    IfOk-weaker c.arg.result _ _ (λ command added. record {
      app = added.shape local ∙ ap₂ with_rule listed rule;
      local = added.globals ∙ ap₂ ◌||◌ c.in_ok-command.ensures.local local;
    }) c.arg.ensures
