use Rattle.std.proofs.Common.{ap, ◌∙◌}
use Rattle.generations.specs.Beginnings.{Beginning}
use Rattle.generations.specs.Posts.{all_posted}
use Rattle.generations.specs.Writes.{posts_of}
use Rattle.generations.proofs.Keeping.{has_posts}
use Rattle.generations.proofs.writer.BoardWriter.retry.Goals as goal

pub returns-in-Nothing : goal.returns-in-Nothing
returns-in-Nothing g c =
    let w = c.self.inside in
    ap (λ (b : Beginning). posts_of b w.all) c.again.ensures ∙ (has_posts w.posted w.all w.waiting w.publisher c.self.invariant.1 ∙ ap all_posted c.self.view_is)
