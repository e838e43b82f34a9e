-- When a disk in memory fails by its plan.
use Rattle.std.specs.Prelude.{◌≡◌, ◌≤◌, ◌+◌, ◌-◌, ◌==◌, ◌↔◌, ℕ, zero, suc, Bool, false, min, if◌then◌else◌, IsTrue}
use Rattle.disk_trait.specs.declared.plan.Plan.{Plan}
use Rattle.disk_trait.specs.declared.plan.Plan.TheVariants.{None, Fail, Stop}

-- whether the next call fails
abbrev pub fails_now : Plan → Bool
fails_now None = false
fails_now (Fail call) = call == 1
fails_now (Stop call bytes) = call == 1

-- the plan after that call; a disk that has stopped is one that stops at its next call with no byte put
abbrev pub next_plan : Plan → Plan
next_plan None = None
next_plan (Fail call) = Fail (call - 1)
next_plan (Stop call bytes) = if call == 1 then Stop 1 0 else Stop (call - 1) bytes

-- how many of its n bytes the next call puts, if it is a write: the first so many
abbrev pub bytes_put : Plan → ℕ → ℕ
bytes_put None n = n
bytes_put (Fail call) n = if call == 1 then 0 else n
bytes_put (Stop call bytes) n = if call == 1 then min bytes n else n

-- the plan after some calls
abbrev pub plan_after : ℕ → Plan → Plan
plan_after zero plan = plan
plan_after (suc n) plan = plan_after n (next_plan plan)

-- of all calls to come, only this one fails
abbrev pub FailsOnceAt : ℕ → Plan → Type 0
FailsOnceAt call plan = (n : ℕ) → IsTrue (fails_now (plan_after n plan)) ↔ (n + 1 ≡ call)

-- of all calls to come, this one and all later ones fail; there is no call 0
abbrev pub StopsAt : ℕ → Plan → Type 0
StopsAt call plan = (n : ℕ) → IsTrue (fails_now (plan_after n plan)) ↔ ((1 ≤ call) × (call ≤ n + 1))
