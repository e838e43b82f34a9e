use Rattle.std.proofs.Common.{◌≡◌, drop}
use Rattle.graph_edits.specs.Changes.{fold}
use Rattle.layout_2.specs.State.{changes_of}
use Rattle.test_storage.proofs.tests.full.is_accepted.Given as goal

abbrev pub invariant-loop-request : goal.invariant-loop-request
invariant-loop-request l = fold l.graph (changes_of l.requests) ≡ fold l.after (changes_of (drop l.request-index l.requests))
