use Rattle.committer.specs.CommitterWords.{posts_of}
use Rattle.test_committer.proofs.burst.generations.Given as goal

abbrev pub ghosts-commits_by : goal.ghosts-commits_by
ghosts-commits_by g a = record { opening = (posts_of a.committer).opening }
