-- How large the tables of a scheme are.
use Rattle.std.specs.Prelude.{◌≡◌, ◌⊎◌, ◌<◌, ◌≤◌, ℕ, zero, suc, ◌+◌, ◌-◌, ◌*◌, ◌^◌, List, [], ◌∷◌, ◌++◌, length, min, sum_by}
use Rattle.schemes.specs.declared.parts.Parts.{Parts}
use Rattle.schemes.specs.declared.parts.Listed.{Listed}
use Rattle.schemes.specs.Tables.{directory_at, entries_at}

-- what a function gives for each number below n, in order
abbrev pub each_node : {X : Type 0} → (ℕ → X) → ℕ → List X
each_node f zero = []
each_node f (suc n) = each_node f n ++ f n ∷ []

-- how many entries each node has
abbrev pub entry_counts : Parts → List ℕ
entry_counts p = each_node (λ x. length (entries_at p x)) p.nodes

-- how many members each node's directory has
abbrev pub directory_lengths : Parts → List ℕ
directory_lengths p = each_node (λ x. length (directory_at p x)) p.nodes

-- a node's entries and the members of its directory, taken together
abbrev pub table_size : Parts → ℕ → ℕ
table_size p x = length (entries_at p x) + length (directory_at p x)

-- no table has more, and one has as many, or there is none
pub record IsGreatestSize (p : Parts) (greatest : ℕ) : Type 0 where
  pub within : (x : ℕ) → x < p.nodes → table_size p x ≤ greatest
  pub one : (greatest ≡ 0) ⊎ ((x : ℕ) × ((x < p.nodes) × (table_size p x ≡ greatest)))

-- a number that is kept at the greatest u64
abbrev pub kept : ℕ → ℕ
kept n = min n (2 ^ 64 - 1)

-- the bytes of a member of a directory: 8, and 2 for each port of its label
abbrev pub listed_bytes : Listed → ℕ
listed_bytes listed = 8 + 2 * length listed.label.lights

-- the bytes of a directory
abbrev pub directory_bytes : List Listed → ℕ
directory_bytes directory = sum_by listed_bytes directory

-- the bytes of a node's table: 13 for each entry, and those of its directory
abbrev pub table_bytes : Parts → ℕ → ℕ
table_bytes p x = length (entries_at p x) * 13 + directory_bytes (directory_at p x)

-- the bytes of each node's table
abbrev pub table_lengths : Parts → List ℕ
table_lengths p = each_node (λ x. kept (table_bytes p x)) p.nodes
