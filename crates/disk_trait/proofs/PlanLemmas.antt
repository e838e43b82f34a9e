-- Which calls a plan lets fail, of all that are to come.
use Rattle.std.proofs.Common.{◌≡◌, ◌↔◌, ⊎_elim, ℕ, zero, suc, ◌+◌, ◌-◌, ◌≤◌, Bool, true, false, IsTrue, if◌then◌else◌, sym, subst, arith}
use Rattle.std.proofs.lemmas.Bool.{eqb-true, eq-eqb}
use Rattle.std.proofs.lemmas.Bool.Decides.{eqb_tells}
use Rattle.disk_trait.specs.declared.plan.Plan.TheVariants.{Fail, Stop}
use Rattle.disk_trait.specs.Plans.{fails_now, plan_after, FailsOnceAt, StopsAt}

pub fails_once : (call : ℕ) → FailsOnceAt call (Fail call)
fails_once call zero = (λ is. omega (arith, eqb-true call 1 is), λ e. eq-eqb call 1 (omega (arith, e)))
fails_once call (suc n) =
    let later = fails_once (call - 1) n in
    (λ is. omega (arith, later.0 is), λ e. later.1 (omega (arith, e)))

pub stops_from : (call bytes : ℕ) → StopsAt call (Stop call bytes)
stops_from call bytes zero = (λ is. (omega (arith, eqb-true call 1 is), omega (arith, eqb-true call 1 is)), λ e. eq-eqb call 1 (omega (arith, e.0, e.1)))
stops_from call bytes (suc n) =
    let P : Bool → Type 0 = λ one. IsTrue (fails_now (plan_after n (if one then Stop 1 0 else Stop (call - 1) bytes))) ↔ ((1 ≤ call) × (call ≤ suc n + 1)) in
    ⊎_elim
    (λ one.
    let e : call ≡ 1 = one.1 in
    let there : P true = (λ is. (omega arith, omega arith), λ _. (stops_from 1 0 n).1 (omega arith, omega arith)) in
    subst P (sym one.0) there)
    (λ other.
    let later = stops_from (call - 1) bytes n in
    let there : P false = (λ is. (omega (arith, (later.0 is).0), omega (arith, (later.0 is).1, (later.0 is).0)), λ both. later.1 (not_first other.1 both.0, omega (arith, both.1))) in
    subst P (sym other.0) there)
    (eqb_tells call 1)
  where
    not_first : (call ≡ 1 → ⊥) → 1 ≤ call → 1 ≤ call - 1
    not_first other some = omega (arith, other)
