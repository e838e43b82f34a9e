use Rattle.std.proofs.Common.{ap, sym, ◌∙◌, ◌≡◌}
use Rattle.generations.specs.Beginnings.{Opening, Beginning}
use Rattle.generations.proofs.writer.BoardWriter.post.Goals as goal

pub invariant_of-self : goal.invariant_of-self
invariant_of-self g c =
    let all = c.in-Some.all in
    let same : c.again-in-Nothing.result ≡ all = c.again-in-Nothing.ensures in
    let here : c.again-in-Nothing.result.opening ≡ c.self.inside.posted.opening = ap (λ (b : Beginning). b.opening) same ∙ c.in-Some.ensures.0 in
    let handed = rw c.in-Nothing.is at c.hand_in-publisher.ensures in
    (c.self.invariant.0 ∙ sym (ap (λ (o : Opening). o.book) here), (rw same handed.0, (sym same, handed.1)))
