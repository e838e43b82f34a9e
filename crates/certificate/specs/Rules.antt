-- The rules, as what they say of each node.
use Rattle.std.specs.Prelude.{ℕ, ◌<◌, ◌≤◌, All}
use Rattle.certificate.specs.Words.{Parts, Network, Fault, Holds, number_of, k1, k2, k3, k4, k5, k6, k7, k8, tables, entries_at, FitsRoot}
use Rattle.certificate.specs.Climbs.{HasLabelsAt}
use Rattle.certificate.specs.Entries.{HasDirectoryAt, IsClosedAt, IsEntryShaped, IsNearestAt, IsStrictAt, IsTightAt}
use Rattle.certificate.specs.Rows.{IsSwept}

-- the rules up to the one with this number hold
abbrev pub HoldsTo : Network → Parts → ℕ → Type 0
HoldsTo m p n = (j : Fault) → number_of j ≤ n → Holds m p j

-- the rules before k hold
abbrev pub HoldsBefore : Network → Parts → Fault → Type 0
HoldsBefore m p k = (j : Fault) → number_of j < number_of k → Holds m p j

-- what a rule says of one node of a framed scheme, where all before it hold
abbrev pub HoldsAt : Network → Parts → Fault → ℕ → Type 0
HoldsAt m p k1 x = All (IsEntryShaped m (tables p) x) (entries_at p x)
HoldsAt m p k2 x = All (IsClosedAt m (tables p) x) (entries_at p x)
HoldsAt m p k3 x = All (IsTightAt m (tables p) x) (entries_at p x)
HoldsAt m p k4 x = All (IsStrictAt (tables p) x) (entries_at p x)
HoldsAt m p k5 x = IsNearestAt p x
HoldsAt m p k6 x = FitsRoot (tables p) x × All (IsSwept m (tables p) x) (entries_at p x)
HoldsAt m p k7 x = HasLabelsAt m p x
HoldsAt m p k8 x = HasDirectoryAt p x
