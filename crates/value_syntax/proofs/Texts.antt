-- Texts that are equal, and their test.
use Rattle.std.proofs.Common.{arith, ◌≡◌, ◌≢◌, ◌<◌, ◌^◌, ℕ, List, [], ◌∷◌, true, refl, subst, nat_eq, length, get_or, decimal, Option, Some, None}
use Rattle.std.specs.Prelude.{MatchOption}
use denote.Ref.{Bor}
use Rattle.std.proofs.lemmas.Fmt.{decimal_is_IsNumeral}
use Rattle.std.proofs.lemmas.Str.Parse.{digit_at}
use Rattle.std.proofs.lemmas.Bool.{eq-eqb}
use lib.Pointwise.{pointwise}

is_itself : (xs : List ℕ) → pointwise nat_eq xs xs ≡ true
is_itself [] = refl
is_itself (x ∷ xs) = rw (eq-eqb x x refl, is_itself xs) refl

pub equal_texts : (xs ys : List ℕ) → xs ≡ ys → pointwise nat_eq xs ys ≡ true
equal_texts xs ys e = subst (λ zs. pointwise nat_eq xs zs ≡ true) e (is_itself xs)

-- no digit is a colon
pub no_colon : (n : ℕ) → n < 2 ^ 64 → (i : ℕ) → i < length (decimal n) → get_or (decimal n) i 0 ≢ 58
no_colon n small i within is =
    let range = digit_at (decimal n) i (decimal_is_IsNumeral n small).0.1 within in
    omega (arith, range.0, range.1)

-- what a split at a colon found
abbrev pub Splits : List ℕ → List ℕ → Option (Bor (List ℕ) × Bor (List ℕ)) → Type 0
Splits xs ys found = MatchOption found ⊥ (λ x. (x.0.now ≡ xs) × (x.1.now ≡ ys))

pub split_none : (found : Option (Bor (List ℕ) × Bor (List ℕ))) (xs ys : List ℕ) → found ≡ None → Splits xs ys found → ⊥
split_none found xs ys is parts = subst (Splits xs ys) is parts

pub split_some : (found : Option (Bor (List ℕ) × Bor (List ℕ))) (xs ys : List ℕ) (front rest : Bor (List ℕ)) → found ≡ Some (front, rest) → Splits xs ys found
    → (front.now ≡ xs) × (rest.now ≡ ys)
split_some found xs ys front rest is parts = subst (Splits xs ys) is parts
