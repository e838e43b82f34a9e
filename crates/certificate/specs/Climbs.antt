-- What is said of the labels of one node, by climbing from the nodes that they name.
use Rattle.std.specs.Prelude.{◌≡◌, ◌==◌, ◌↔◌, ℕ, ◌≤◌, Bool, MatchOption, Option, None, Some, IsSome, List, [], All}
use Rattle.certificate.specs.Words.{Bor, Label, lights_at, Parts, Listed, Near, Network, IsSound, Tables, tables, directory_at, Fault, Holds, number_of, distance_of, farthest, lights_to, parent_of, record_at, IsLocalLabel, port_to}

-- the network is sound, and the first five rules hold
unfoldable pub HoldsFirst : Network → Parts → Type 0
HoldsFirst m p = IsSound m × ((k : Fault) → number_of k ≤ 5 → Holds m p k)

-- these are the light ports above an edge, heavy or not, that has this port below; or there are none where they can't be
abbrev pub AreAbove : Bool → Option ℕ → List ℕ → Option (Bor (List ℕ)) → Type 0
AreAbove is_heavy port lights found = (ls : List ℕ) → MatchOption found (lights ≡ lights_at is_heavy ls port → ⊥) (λ rest. (lights ≡ lights_at is_heavy ls port) ↔ (rest.now ≡ ls))

-- the light ports on the way from the root of r's tree to x
abbrev pub lights_up : Network → Tables → ℕ → ℕ → List ℕ
lights_up m t r x = lights_to m t r (distance_of (t.entry x r)) x

-- these are the light ports on the way from the root of r's tree to x
unfoldable pub HasLights : Network → Tables → ℕ → ℕ → List ℕ → Type 0
HasLights m t r x ls = ls ≡ lights_to m t r (farthest t r m.nodes) x

-- these are the light ports of x, where its parent is y, by the label that u's directory has for y
abbrev pub AreLinkedBy : Network → Tables → ℕ → ℕ → List ℕ → Option ℕ → Type 0
AreLinkedBy m t u x ls None = ls ≡ []
AreLinkedBy m t u x ls (Some y) = (l : Label) × ((t.listed u y ≡ Some l) × (ls ≡ lights_at ((record_at t u x).light_depth == (record_at t u y).light_depth) l.lights (port_to m y x)))

-- a label of u's directory fits the one of its node's parent there, if its node has an entry for u
unfoldable pub IsLinked : Network → Tables → ℕ → Listed → Type 0
IsLinked m t u e = IsSome (t.entry e.node u) → (e.label.first ≡ (record_at t u e.node).first) × AreLinkedBy m t u e.node e.label.lights (parent_of (t.entry e.node u))

-- a label of u's directory is right, if its node has an entry for u
unfoldable pub IsLabelRight : Network → Tables → ℕ → Listed → Type 0
IsLabelRight m t u e = IsSome (t.entry e.node u) → IsLocalLabel m t u e.node e.label

-- a home label is right, if there is a nearest landmark
unfoldable pub IsHomeRight : Network → Parts → ℕ → Type 0
IsHomeRight m p v = (q : Near) (l : Label) → (tables p).home v ≡ Some l → (tables p).nearest v ≡ Some q → IsLocalLabel m (tables p) q.landmark v l

-- the labels of u's directory are right, and its home label is
unfoldable pub HasLabelsAt : Network → Parts → ℕ → Type 0
HasLabelsAt m p u = All (IsLabelRight m (tables p) u) (directory_at p u) × IsHomeRight m p u
