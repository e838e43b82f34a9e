use Rattle.certificate.proofs.Words.{◌≡◌, ◌∙◌, rules, sym, None, found, and_more, HasOwn}
use Rattle.certificate.proofs.shape.has_own.Goals as goal

pub returns-then-distance-eq0 : goal.returns-then-distance-eq0
unfolding HasOwn
returns-then-distance-eq0 c = found _ _ (λ e. (e.distance ≡ 0) × (e.parent ≡ None)) _ c.in-Some.ensures (and_more _ (sym c.distance.ensures ∙ c.if-distance-eq0.true) (search (rules, c.parent.ensures)))
