-- How many editors, forwarders and places in the queue there may be.
use Rattle.std.specs.Prelude.{◌≤◌, ℕ}
use Rattle.committer_thread.specs.declared.config.ServiceConfig.{ServiceConfig}

-- from 1 to 64
abbrev pub IsNumber : ℕ → Type 0
IsNumber n = (1 ≤ n) × (n ≤ 64)

-- each number is one of these
abbrev pub IsServiceConfig : ServiceConfig → Type 0
IsServiceConfig seats = IsNumber seats.editors × (IsNumber seats.forwarders × IsNumber seats.places)
