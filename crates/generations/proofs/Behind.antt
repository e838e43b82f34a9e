-- Who was told nothing beyond what it saw is never behind.
use Rattle.std.proofs.Common.{◌≡◌, ◌<◌, ◌≤◌, length, ap, arith}
use Rattle.generations.specs.Beginnings.{Beginning}
use Rattle.generations.specs.Knowledges.{Knowledge, IsBehind, all_seen}
use Rattle.generations.proofs.Prefixes.{prefix_length}

pub never_behind : (b : Beginning) (new : Knowledge) → IsBehind (all_seen b) new → ⊥
never_behind b new h =
    let least : length b.log ≤ length new.seen.log = prefix_length b.log new.seen.log h.seen.1 in
    let same : length new.all.log ≡ length b.log = ap (λ (z : Beginning). length z.log) h.all in
    let short : length new.seen.log < length new.all.log = h.short in
    omega (arith, least, same, short)
