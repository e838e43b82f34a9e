-- Results and options apart.
use Rattle.std.proofs.Common.{◌≡◌, Some, sym, subst}
use Rattle.std.specs.Prelude.{Result, Ok, Err, IfErr, IsErrAnd}

pub some_is : {A : Type 0} (x y : A) → Some x ≡ Some y → x ≡ y
some_is x y e = cc

pub ok_is : {A B : Type 0} (x y : A) → let r : Result A B = Ok x in r ≡ Ok y → x ≡ y
ok_is x y e = cc

-- a refusal that is handed on says what it said
pub handed_on : {T E : Type 0} (Says : E → Type 0) (r : Result T E) (e : E) → IsErrAnd r (λ x. x ≡ e) → Says e → IfErr r Says
handed_on Says (Ok x) e is says = absurd is
handed_on Says (Err f) e is says = subst Says (sym is) says
