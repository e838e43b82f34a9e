use Rattle.std.proofs.Common.{◌≡◌}
use Rattle.committer.specs.CommitterWords.{posts_of}
use Rattle.test_committer.proofs.threads.commits.Given as goal

abbrev pub invariant-loop : goal.invariant-loop
invariant-loop g l = record {
  posts : (posts_of l.committer).opening ≡ (posts_of l.fn.committer).opening;
  forwarder : l.forwarder.opening ≡ (posts_of l.committer).opening;
}
