-- Members of a directory that are passed one after the other, as a loop does.
use Rattle.std.proofs.Common.{◌≡◌, ℕ, suc, ◌-◌, ◌+◌, ◌*◌, ◌≤◌, ◌<◌, List, get_or, Option, Some, sym, arith}
use Rattle.byte_forms.specs.Reading.{◌>>=◌}
use Rattle.router_table.specs.Refusals.{behind, behind_members}

module _ (count i : ℕ) (bytes : List ℕ) (total : Option (List ℕ)) (so_far : behind_members (count - i) bytes ≡ total) where
  -- one is passed, and the others are behind it
  pub one_more : i < count → total ≡ (behind 5 bytes >>= λ ports. behind (2 * get_or bytes 4 0) ports >>= λ rest. behind_members (count - (i + 1)) rest)
  unfolding behind_members
  one_more lt = (let k : count - i ≡ suc (count - (i + 1)) = omega arith in rw k at (sym so_far))

  pub all_passed : count ≤ i → total ≡ Some bytes
  unfolding behind_members
  all_passed le = (let k : count - i ≡ 0 = omega arith in rw k at (sym so_far))
