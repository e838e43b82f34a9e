-- The stops of calls.
use Rattle.std.specs.Prelude.{ℕ, ◌+◌, List, [], ◌∷◌, ◌++◌, length, map, take}
use Rattle.std.specs.List.{range_with_len}
use Rattle.crash_trials.specs.declared.stops.Call.{Call}
use Rattle.crash_trials.specs.declared.stops.Call.TheVariants.{Read, Write, Sync}
use Rattle.crash_trials.specs.declared.stops.Stop.{Stop}

-- how many bytes a call puts
abbrev pub bytes_of : Call → ℕ
bytes_of Read = 0
bytes_of (Write bytes) = bytes
bytes_of Sync = 0

-- a stop at the call of this number, that puts so many bytes
abbrev pub stop : ℕ → ℕ → Stop
stop number put = record { call = number; put = put }

-- the stops of the call of this number: no byte of it is put, one, two, up to all
abbrev pub stops_at : ℕ → Call → List Stop
stops_at number call = map (stop number) (range_with_len 0 (bytes_of call + 1))

-- the stops of calls, of which the first has this number
abbrev pub stops_from : ℕ → List Call → List Stop
stops_from number [] = []
stops_from number (call ∷ calls) = stops_at number call ++ stops_from (number + 1) calls

-- the first so many stops of calls
abbrev pub first_stops : ℕ → List Call → List Stop
first_stops most calls = take most (stops_from 1 calls)

-- how many stops calls have
abbrev pub stop_count : List Call → ℕ
stop_count calls = length (stops_from 1 calls)
