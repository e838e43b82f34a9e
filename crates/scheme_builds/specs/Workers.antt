-- How many workers build a scheme.
use Rattle.std.specs.Prelude.{ℕ, cond, nat_lt, min, max}

-- so many workers, but at least one and at most 16
abbrev pub workers_of : ℕ → ℕ
workers_of workers = max 1 (min workers 16)

-- one a processor, and one alone for a network of fewer than 512 nodes
abbrev pub workers_that_pay : ℕ → ℕ → ℕ
workers_that_pay nodes processors = cond (nat_lt nodes 512) 1 (workers_of processors)
