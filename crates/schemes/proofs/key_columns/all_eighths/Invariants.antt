use Rattle.std.proofs.Common.{◌≡◌, ◌<◌, ℕ, List, length, map}
use Rattle.std.specs.declared.vec.Vec.{Vec}
use Rattle.schemes.specs.Apart.{AreEighths}
use Rattle.schemes.specs.Tables.{items_at}
use Rattle.schemes.proofs.key_columns.all_eighths.Given as goal

pub record AreEighthsUpTo (X A B : Type 0) (key : X → ℕ) (lists : List (Vec X A)) (all : List (Vec ℕ B)) (n : ℕ) : Type 0 where
  pub size : length all ≡ n
  pub each : (x : ℕ) → x < n → AreEighths (map key (items_at lists x)) (items_at all x)

abbrev pub invariant-loop-x : goal.invariant-loop-x
invariant-loop-x g l = AreEighthsUpTo _ _ _ g.T.Keyed.key l.lists l.all.items l.x
