use Rattle.std.proofs.Common.{◌≡◌, length, map, take}
use Rattle.std.specs.List.{AllByRecursion}
use Rattle.disk_trait.specs.contracts.memory.MemDiskDisk.TheImpl.{ghosts}
use Rattle.crash_trials.specs.Trials.{IsStopFound}
use Rattle.crash_trials.proofs.TrialLemmas.{AreAlike}
use Rattle.crash_trials.proofs.trial.try_stops.Given as goal

-- the stops so far were tried, of lives that are the first ones but for a plan
abbrev pub invariant-loop-stop : goal.invariant-loop-stop
invariant-loop-stop g l = record {
  many : length l.rehearsal.lives.items ≡ length l.initial.rehearsal.lives.items;
  alike : AreAlike l.initial.rehearsal l.rehearsal;
  stops : map (λ found. found.stop) l.tried.items ≡ take l.stop-index l.stops;
  found : AllByRecursion (IsStopFound ghosts l.initial.rehearsal) l.tried.items;
}
