-- What is there, of values that may be there, and of answers that may be refusals.
use Rattle.std.proofs.Common.{◌≡◌, refl}
use Rattle.std.proofs.lemmas.Bool.{false≢true}
use Rattle.std.specs.Prelude.{Option, Some, None, IsSome, Result, Ok, Err}

pub same_value : {X : Type 0} {x y : X} {o : Option X} → o ≡ Some x → o ≡ Some y → x ≡ y
same_value e f = cc

pub not_none : {X : Type 0} {x : X} {o : Option X} → o ≡ Some x → o ≡ None → ⊥
not_none e f = cc

pub some_is : {X : Type 0} {x : X} {o : Option X} → o ≡ Some x → IsSome o
some_is e = rw e refl

pub is_there : {X : Type 0} (o : Option X) → IsSome o → (x : X) × (o ≡ Some x)
is_there None e = absurd (false≢true e)
is_there (Some x) e = (x, refl)

pub same_ok : {X Y : Type 0} {x y : X} {o : Result X Y} → o ≡ Ok x → o ≡ Ok y → x ≡ y
same_ok e f = cc

pub ok_not_err : {X Y : Type 0} {x : X} {y : Y} {o : Result X Y} → o ≡ Ok x → o ≡ Err y → ⊥
ok_not_err e f = cc
