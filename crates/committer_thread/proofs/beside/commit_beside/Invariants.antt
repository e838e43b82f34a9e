use Rattle.std.proofs.Common.{◌≡◌}
use Rattle.committer.specs.CommitterWords.{posts_of}
use Rattle.committer_thread.specs.Beside.{GoesBeside}
use Rattle.committer_thread.specs.Kept.{KeepsQueue}
use Rattle.committer_thread.proofs.beside.commit_beside.Given as goal

abbrev pub invariant-loop : goal.invariant-loop
invariant-loop g l =
    (goal.iterator-loop g).can_next l.iterator' × ((goal.iterator-loop g).is_finite l.iterator'
    × (((posts_of l.committer).opening ≡ g.J.BoardName.opening) × (GoesBeside l.fn.committer l.committer l.rebuilds × KeepsQueue l.fn.committer l.committer)))
