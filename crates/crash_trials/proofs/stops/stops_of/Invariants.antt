use Rattle.std.proofs.Common.{◌≡◌, ◌≤◌, ◌+◌, ◌++◌, drop, length, take}
use Rattle.crash_trials.specs.Stops.{first_stops, stops_from}
use Rattle.crash_trials.proofs.stops.stops_of.Given as goal

-- the stops so far, and those of the calls that are left
abbrev pub invariant-loop-i : goal.invariant-loop-i
invariant-loop-i l = record {
  within : length l.stops.items ≤ l.most;
  all : take l.most (l.stops.items ++ stops_from (l.i + 1) (drop l.i l.calls)) ≡ first_stops l.most l.calls;
}
