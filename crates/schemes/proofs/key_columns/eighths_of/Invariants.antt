use Rattle.std.proofs.Common.{◌≡◌, ◌<◌, ◌+◌, ◌*◌, ℕ, List, length, map}
use Rattle.std.specs.Prelude.{slice_index}
use Rattle.schemes.proofs.key_columns.eighths_of.Given as goal

pub record AreEighthsBelow (ks fs : List ℕ) (n : ℕ) : Type 0 where
  pub size : length fs ≡ n
  pub each : (i : ℕ) → i < n → slice_index fs i ≡ slice_index ks (8 * i + 7)

abbrev pub invariant-loop-i : goal.invariant-loop-i
invariant-loop-i g l = AreEighthsBelow (map g.T.Keyed.key l.items) l.eighths.items l.i
