-- What the readers of a rehearsal's lines promise.
use Rattle.std.specs.Prelude.{◌≡◌, IfErr, IfOk, Result}
use Rattle.rehearsal_syntax.specs.declared.line_reading.NotRead.{NotRead}
use Rattle.rehearsal_syntax.specs.declared.line_reading.NotRead.TheVariants.{Memory}

-- unless memory ran out, something is read
abbrev pub IsRead : {A : Type 0} → Result A NotRead → Type 0
IsRead result = IfErr result (λ e. e ≡ Memory)

-- what is read fits, and is written so
abbrev pub Finds : {A W : Type 0} → (A → Type 0) → (A → W) → W → Result A NotRead → Type 0
Finds Fits written text result = IfOk result (λ a. (text ≡ written a) × Fits a)

-- where anything that fits is written so, something is read
abbrev pub ReadsEach : {A B W : Type 0} → (A → Type 0) → (A → W) → W → Result B NotRead → Type 0
ReadsEach {A} Fits written text result = (a : A) → Fits a → text ≡ written a → IsRead result
