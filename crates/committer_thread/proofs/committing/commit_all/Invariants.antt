use Rattle.std.proofs.Common.{◌≡◌}
use Rattle.request_lists.specs.declared.builds.Builds.TheVariants.{InTurn}
use Rattle.committer.specs.CommitterWords.{posts_of}
use Rattle.committer_thread.specs.Kept.{IsOnCourse, KeepsQueue}
use Rattle.committer_thread.specs.Pace.{IsShown}
use Rattle.committer_thread.proofs.committing.commit_all.Given as goal

abbrev pub invariant-loop : goal.invariant-loop
invariant-loop g l =
    (goal.iterator-loop g).can_next l.iterator' × ((goal.iterator-loop g).is_finite l.iterator'
    × (((posts_of l.committer).opening ≡ g.J.BoardName.opening) × (IsOnCourse InTurn l.fn.committer l.committer × (KeepsQueue l.fn.committer l.committer × IsShown l.rebuilds.newest l.committer))))
