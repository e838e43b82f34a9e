use Rattle.std.proofs.Common.{◌≡◌, [], sym, ◌∙◌, true≢false}
use Rattle.committer.proofs.Logs.{not_some, pays_nothing}
use Rattle.committer.proofs.outbox.Outbox.pay.Goals as goal

pub returns-in-None : goal.returns-in-None
returns-in-None g c =
    let w = c.self.inside.writer in
    let none : w.kept ≡ [] = not_some w.kept (λ some. true≢false (sym (c.kept.ensures.kept.1 some) ∙ c.if-kept.false)) in
    pays_nothing w c.self.inside.back c.take.new.self c.args.self.now none (search) (search) c.self.view_is
