use Rattle.std.proofs.Common.{◌≡◌, ◌∙◌, ap, refl, Bool, not, ℕ, List, ◌++◌, rules, string_bytes}
use Rattle.lab_landmarks.specs.Answers.{where_asked}
use Rattle.lab_landmarks.proofs.choosing.answer_of.Goals as goal

-- what a text of two parts is
whole : (is_asked : Bool) (text line given figures wanted : List ℕ) → text ≡ line ++ where_asked is_asked figures → line ≡ given → figures ≡ wanted → text ≡ given ++ where_asked is_asked wanted
whole is_asked text line given figures wanted is first next =
    is ∙ ap (λ t. t ++ where_asked is_asked figures) first ∙ ap (λ t. given ++ where_asked is_asked t) next

-- what is told of it
told : (is_asked : Bool) (text front figures wanted excess : List ℕ) → text ≡ front ++ excess → front ≡ where_asked is_asked figures → figures ≡ wanted → text ≡ where_asked is_asked wanted ++ excess
told is_asked text front figures wanted excess is first next = is ∙ ap (λ t. t ++ excess) (first ∙ ap (where_asked is_asked) next)

pub returns : goal.returns
returns g c =
    let figures : c.as_str.result.now ≡ string_bytes c.in_ok-report.report.figures = search rules in
    record {
      limits = c.limits_of-limits.result;
      nodes = c.in_ok-choice.choice.nodes.items;
      report = c.in_ok-report.report;
      are_limits = rw c.nodes.ensures.nodes at c.limits_of-limits.ensures;
      choice = c.in_ok-choice.ensures;
      is_report = rw c.deref.ensures.value at c.in_ok-report.ensures;
      kept = refl;
      printed = whole c.args.wanted.with_figures _ _ _ _ _ c.in_ok-put_figures.ensures.text (rw c.deref-2.ensures.value at c.in_ok-text.ensures) figures;
      to_tell =
          told (not c.args.wanted.with_figures) _ _ _ _ _ c.in_ok-push_excess.ensures
          (c.in_ok-put_figures.ensures.told ∙ ap (λ t. t ++ where_asked (not c.args.wanted.with_figures) c.as_str.result.now) c.new-told.ensures.bytes) figures;
    }
