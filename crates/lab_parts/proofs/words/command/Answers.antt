use Rattle.std.proofs.Common.{arith, ap, ap₂, drop, get_or, length, map, sym, ◌||◌, ◌≡◌, ◌∙◌, ◌<◌, ◌+◌, ℕ, List}
use Rattle.std.proofs.lemmas.List.{drop_more}
use Rattle.clap.specs.Simple.{App, with_rule}
use Rattle.clap.specs.Walk.{Rule}
use Rattle.command_line.specs.Grammar.{with_rules}
use Rattle.lab_parts.specs.Grammar.{rule_for}
use Rattle.lab_parts.specs.declared.words.Said.{Said}
use Rattle.lab_parts.proofs.words.command.Goals as goal

one_more : (old new whole : App) (rule : Rule) (xs : List Said) (i : ℕ) (d : Said) → i < length xs → new ≡ with_rule old rule → rule ≡ rule_for (get_or xs i d)
    → with_rules old (map rule_for (drop i xs)) ≡ whole → with_rules new (map rule_for (drop (i + 1) xs)) ≡ whole
one_more old new whole rule xs i d lt added is rest =
    ap (λ (a : App). with_rules a (map rule_for (drop (i + 1) xs))) (added ∙ ap (with_rule old) is)
    ∙ ap (λ (ys : List Said). with_rules old (map rule_for ys)) (sym (drop_more xs i d lt)) ∙ rest

pub loop-said-preserved : goal.loop-said-preserved
loop-said-preserved c =
    let added = c.in_ok-command.ensures in
    record {
      rest = one_more _ _ _ _ c.args.said.now c.loop-said.said-index _ (omega arith) (added.shape c.as_arg.ensures.local) c.as_arg.ensures.rule c.loop-said.invariant.rest;
      local = added.globals ∙ ap₂ ◌||◌ c.loop-said.invariant.local c.as_arg.ensures.local;
    }
