use Rattle.std.proofs.Common.{◌≡◌, ◌≢◌, ◌∙◌, ap, drop, sym, ℕ, List, Option, Some, None, MatchOption}
use Rattle.router_table.specs.declared.head.Head.{Head}
use Rattle.router_table.specs.Order.{IsHead}
use Rattle.router_table.specs.Reading.{IsHeadIn}
use Rattle.router_table.specs.Spelling.{router_text}
use Rattle.router_table.proofs.BodyTexts.{head_front}
use Rattle.table_view.proofs.parts.head_in.Goals as goal

only_head : (o : Option Head) (router : List ℕ) (h : Head) → MatchOption o ((k : Head) → IsHead k → router ≢ router_text k) (IsHeadIn router) → IsHead h → router ≡ router_text h → o ≡ Some h
only_head None router h read ok is = absurd (read h ok is)
only_head (Some k) router h read ok is = ap (λ (g : Head). Some g) (sym (read.only h ok is))

pub returns : goal.returns
returns c h ok is = only_head c.head_of.result c.split_at.result.1.now h c.head_of.ensures ok (c.split_at.ensures.back ∙ ap (λ (t : List ℕ). drop 8 t) is ∙ (head_front h).1)
