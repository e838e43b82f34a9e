use Rattle.std.proofs.Common.{◌≡◌, take, map, fold, None}
use Rattle.generations.specs.Boards.{number_or}
use Rattle.generations.specs.Shelves.{plain}
use Rattle.forwarders.proofs.answers.last_number.Given as goal

abbrev pub invariant-loop-place : goal.invariant-loop-place
invariant-loop-place l = l.latest ≡ fold number_or None (map plain (take l.place-index l.places))
