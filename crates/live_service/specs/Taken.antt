-- What stays of a committer while its editors end.
use Rattle.std.specs.Prelude.{◌≡◌}
use Rattle.committer.specs.declared.committer.Committer.{Committer}
use Rattle.committer.specs.CommitterWords.{got_of, queue_of, store_of}

-- A committer took nothing more.
pub record TakesNoMore {D R : Type 0} {V : _} (old new : Committer D R V) : Type 0 where
  pub store : store_of new ≡ store_of old
  -- what it had taken is what it has taken
  pub got : got_of new ≡ got_of old
  pub queue : queue_of new ≡ queue_of old
