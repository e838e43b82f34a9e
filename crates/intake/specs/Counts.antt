-- What counts how often an end of the queue found it full, or empty.
use Rattle.std.specs.Prelude.{◌≡◌, [], length}
use Rattle.crossbeam_queue.specs.Passes.{view}
use Rattle.intake.specs.declared.misses.Misses.TheInside.{Inside}
use Rattle.intake.specs.Ends.{Missing}

-- how often, by the pass that counts
abbrev pub missing : Inside → Missing
missing m = record { queue = m.pass.table_id; number = length (view m.pass).misses }

-- no place of the queue is out with it
abbrev pub IsMissing : Inside → Type 0
IsMissing m = m.pass.me.1 ≡ []
