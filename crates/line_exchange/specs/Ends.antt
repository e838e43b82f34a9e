-- How a live service ends.
use Rattle.std.specs.Prelude.{◌≡◌, ◌⊎◌, ℕ, Bool, List, Option, Some, None, IsTrue}
use Rattle.std.specs.Io.KnownBytes.{Appends}
use Rattle.command_output.specs.Faults.{told_text}
use Rattle.command_output.specs.declared.fault.Fault.{Fault}
use Rattle.command_output.specs.declared.fault.Fault.TheVariants as told
use Rattle.line_exchange.specs.declared.served.Served.{Served}
use Rattle.line_exchange.specs.declared.served.Served.TheVariants.{Printed, Told, Untold}

-- the fault that ended it
abbrev pub fault_of : Served → Option Fault
fault_of Printed = None
fault_of (Told fault) = Some fault
fault_of (Untold fault) = Some fault

-- what was told of that
abbrev pub HasToldSo : Option (List ℕ) → Option (List ℕ) → Served → Type 0
HasToldSo old new Printed = new ≡ old
HasToldSo old new (Told fault) = Appends old new (told_text fault)
HasToldSo old new (Untold fault) = Unit {0}

-- What was told of how a service ended, on a writer for faults, between two values of it.
pub record TellsEnd {E : Type 0} (contents : E → Option (List ℕ)) (has_failed : E → Bool) (old new : E) (ended : Served) : Type 0 where
  -- the fault that ended it, unless telling it failed, and nothing where none did
  pub said : HasToldSo (contents old) (contents new) ended
  -- a fault that wasn't told couldn't be: a write of this writer has failed
  pub untold : (fault : Fault) → ended ≡ Untold fault → IsTrue (has_failed new)

-- a fault was told, or a write of the writer for faults has failed
abbrev pub IsToldOrFailed : Option (List ℕ) → Option (List ℕ) → Bool → Fault → Type 0
IsToldOrFailed old new has_failed fault = Appends old new (told_text fault) ⊎ IsTrue has_failed

-- a service that had this fault, if one, ended so: without a fault its output may still have failed
abbrev pub IsFinish : Option Fault → Served → Type 0
IsFinish fault ended = (fault_of ended ≡ fault) ⊎ ((fault ≡ None) × (fault_of ended ≡ Some told.Output))
