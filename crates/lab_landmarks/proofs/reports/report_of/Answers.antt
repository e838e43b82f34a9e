use Rattle.std.proofs.Common.{◌≡◌, ◌∙◌, ap, ℕ, List, [], ◌++◌, string_bytes}
use Rattle.lab_landmarks.proofs.reports.report_of.Goals as goal

-- two texts behind none
both : (none first all before after : List ℕ) → none ≡ [] → first ≡ none ++ before → all ≡ first ++ after → all ≡ before ++ after
both none first all before after is one two = two ∙ ap (λ t. t ++ after) (one ∙ ap (λ t. t ++ before) is)

pub returns : goal.returns
returns g c = record {
  before = c.in_ok-drawn.drawn;
  after = c.in_ok-scheme.scheme;
  drawn = c.in_ok-drawn.ensures;
  chosen = c.in_ok-scheme.ensures;
  figures = both (string_bytes c.new-figures.result) (string_bytes c.push_tables.new.text) (string_bytes c.push_tables-2.new.text) _ _ c.new-figures.ensures.bytes c.in_ok-push_tables.ensures c.in_ok-push_tables-2.ensures;
  greatest = c.greatest_size-greatest.ensures;
  kept = c.is_kept.ensures;
}
