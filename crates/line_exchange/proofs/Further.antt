-- Histories that go on from others.
use Rattle.std.proofs.Common.{◌≡◌, sym, subst}
use mathlib.Core.List.{IsPrefix}
use Rattle.generations.specs.Beginnings.{Beginning, GoesOn}
use Rattle.generations.proofs.Sharing.{goes_self}

-- the same history
pub same_goes : (a b : Beginning) → b ≡ a → GoesOn a b
same_goes a b same = subst (λ (c : Beginning). GoesOn a c) (sym same) (goes_self a)

-- a longer one of the same board
pub longer_goes : (a b c : Beginning) → a.opening ≡ b.opening → IsPrefix a.log b.log → c ≡ b → GoesOn a c
longer_goes a b c of first same = subst (λ (d : Beginning). GoesOn a d) (sym same) (sym of, first)

pub longer_on : (a b c : Beginning) → b.opening ≡ a.opening → IsPrefix a.log b.log → c ≡ b → GoesOn a c
longer_on a b c of first same = longer_goes a b c (sym of) first same
