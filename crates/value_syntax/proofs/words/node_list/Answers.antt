use Rattle.std.proofs.Common.{rules, arith, ◌≡◌, ◌∙◌, sym, ap, subst, ◌<◌, ◌^◌, ◌++◌, ◌∷◌, [], ℕ, List, All, length, decimal, Some}
use Rattle.std.proofs.lemmas.Grind.{common_steps}
use Rattle.std.proofs.lemmas.List.Elements.{All-push}
use Rattle.std.proofs.lemmas.Str.Pattern.{split_parts}
use Rattle.value_syntax.specs.WordsText.{nodes_text}
use Rattle.value_syntax.proofs.NodeTexts.{PartsOf, first_node, front_text, one_further, only_node, text_with_last, text_with_more}
use Rattle.value_syntax.proofs.words.node_list.Goals as goal

pub returns-in_default-2-clause-only : goal.returns-in_default-2-clause-only
returns-in_default-2-clause-only c all nodes written =
    let left = c.loop-front.invariant.2 all nodes written in
    let first = first_node left.0 c.loop-front.rest.now c.split_once.result c.in-Some.front c.in-Some.behind c.in-Some.is c.split_once.ensures.cases left.2 left.3 in
    let read : c.in_ok-node.field-0 ≡ Some first.node = c.in_ok-node.ensures.only first.node first.fits first.front_is in
    cc

pub loop-front-preserved : goal.loop-front-preserved
loop-front-preserved c =
    let before = c.loop-front.nodes.items in
    let node = c.in-Some-2.node in
    let behind = c.in-Some.behind.now in
    let items : c.push.new.self.items ≡ before ++ node ∷ [] = search rules in
    let fits : node < 2 ^ 16 = search rules in
    let front : c.in-Some.front.now ≡ decimal node = search rules in
    let parts : c.loop-front.rest.now ≡ c.in-Some.front.now ++ 44 ∷ behind = (subst (PartsOf c.loop-front.rest.now) c.in-Some.is (split_parts 44 c.loop-front.rest.now c.split_once.result c.split_once.ensures.cases (omega arith))).0 in (
      search rules,
      c.loop-front.invariant.1 ∙ ap (λ r. front_text before ++ r) (parts ∙ ap (λ f. f ++ 44 ∷ behind) front) ∙ sym (text_with_more before node behind) ∙ ap (λ xs. front_text xs ++ behind) (sym items),
      λ all nodes written.
          let left = c.loop-front.invariant.2 all nodes written in
          let first = first_node left.0 c.loop-front.rest.now c.split_once.result c.in-Some.front c.in-Some.behind c.in-Some.is c.split_once.ensures.cases left.2 left.3 in
          let read : c.in_ok-node.field-0 ≡ Some first.node = c.in_ok-node.ensures.only first.node first.fits first.front_is in
          let same : node ≡ first.node = cc in
          (first.others, one_further all before left.0 first.others c.push.new.self.items node first.node left.1 first.is same items, first.nodes, first.behind_is),
      subst (λ xs. All (λ n. n < 2 ^ 16) xs) (sym items) (All-push (λ n. n < 2 ^ 16) before node c.loop-front.invariant.3 fits),
    )

pub returns-in_default-3-clause-only : goal.returns-in_default-3-clause-only
returns-in_default-3-clause-only c all nodes written =
    let left = c.loop-front.invariant.2 all nodes written in
    let only = only_node left.0 c.loop-front.rest.now c.split_once.result c.in_default.is c.split_once.ensures.cases left.2 left.3 in
    let read : c.in_ok-last.field-0 ≡ Some only.0 = c.in_ok-last.ensures.only only.0 only.2 only.3 in
    cc

pub returns-clause-found : goal.returns-clause-found
returns-clause-found c =
    let before = c.loop-front.nodes.items in
    let last = c.in-Some-3.last in
    let items : c.push-2.new.self.items ≡ before ++ last ∷ [] = search rules in
    let read : c.loop-front.rest.now ≡ decimal last = search rules in
    let fits : last < 2 ^ 16 = search rules in (
      c.loop-front.invariant.1 ∙ ap (λ r. front_text before ++ r) read ∙ sym (text_with_last before last) ∙ ap (λ xs. nodes_text xs) (sym items),
      (
        λ empty. let none : length (before ++ last ∷ []) ≡ 0 = ap (λ (xs : List ℕ). length xs) (sym items ∙ empty) in grind (arith, common_steps, none),
        subst (λ xs. All (λ n. n < 2 ^ 16) xs) (sym items) (All-push (λ n. n < 2 ^ 16) before last c.loop-front.invariant.3 fits),
      ),
    )

pub returns-clause-only : goal.returns-clause-only
returns-clause-only c all nodes written =
    let before = c.loop-front.nodes.items in
    let last = c.in-Some-3.last in
    let items : c.push-2.new.self.items ≡ before ++ last ∷ [] = search rules in
    let left = c.loop-front.invariant.2 all nodes written in
    let only = only_node left.0 c.loop-front.rest.now c.split_once.result c.in_default.is c.split_once.ensures.cases left.2 left.3 in
    let read : c.in_ok-last.field-0 ≡ Some only.0 = c.in_ok-last.ensures.only only.0 only.2 only.3 in
    let same : last ≡ only.0 = cc in
    items ∙ ap (λ n. before ++ n ∷ []) same ∙ sym (left.1 ∙ ap (λ l. before ++ l) only.1)
