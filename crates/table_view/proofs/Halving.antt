-- A look-up by halving among the roots of entries in bytes.
use Rattle.std.proofs.Common.{◌≡◌, ℕ, ◌+◌, ◌-◌, ◌<◌, ◌≤◌, List, subst, arith, inl, inr}
use Rattle.std.proofs.lemmas.Bool.{cases_lt}
use Rattle.table_view.specs.Parts.{IsHalved, root_of}

module _ (entries : List ℕ) (count root base size step : ℕ) (h : IsHalved entries count root base size) (some : 0 < step) (few : step < size) where
  -- the places from a step on
  pub upper : root_of entries (base + step) ≤ root → IsHalved entries count root (base + step) (size - step)
  upper le = record {
    some = omega (arith, few);
    within = omega (arith, h.within, few);
    below = λ rise i lt. (let up = rise i (base + step) lt (omega (arith, h.within, few)) in omega (arith, up, le));
    above = λ rise i from lt. h.above rise i (omega (arith, from, few)) lt;
  }

  -- the places before it
  pub lower : root < root_of entries (base + step) → IsHalved entries count root base step
  lower gt = record {
    some = some;
    within = omega (arith, h.within, few);
    below = h.below;
    above = λ rise i from lt. elim (cases_lt (base + step) i) [
      | inl past ↦ (let up = rise (base + step) i past lt in omega (arith, up, gt))
      | inr le ↦ (let same : base + step ≡ i = omega (arith, from, le) in subst (λ j. root < root_of entries j) same gt)
    ];
  }
