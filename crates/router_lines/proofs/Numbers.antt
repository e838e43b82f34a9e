-- Texts that are equal, and their test.
use Rattle.std.proofs.Common.{◌≡◌, List, ℕ, [], ◌∷◌, true, refl, subst, nat_eq}
use Rattle.std.proofs.lemmas.Bool.{eq-eqb}
use lib.Pointwise.{pointwise}

is_itself : (xs : List ℕ) → pointwise nat_eq xs xs ≡ true
is_itself [] = refl
is_itself (x ∷ xs) = rw (eq-eqb x x refl, is_itself xs) refl

pub equal_texts : (xs ys : List ℕ) → xs ≡ ys → pointwise nat_eq xs ys ≡ true
equal_texts xs ys e = subst (λ zs. pointwise nat_eq xs zs ≡ true) e (is_itself xs)
