-- Numbers as they are read.
use Rattle.std.proofs.Common.{arith, cond, Some, None, decimal, ◌≡◌, ◌≤◌, ◌<◌, ◌^◌, ◌∙◌, ◌&&◌, ap, sym, refl, ℕ, List, Bool, true, false}
use Rattle.std.specs.Prelude.{nat_le}
use Rattle.std.specs.Str.{bytes_eq}
use Rattle.std.specs.Str.Parse.{digits_value}
use Rattle.std.proofs.lemmas.Fmt.{decimal_is_IsNumeral}
use Rattle.std.proofs.lemmas.Slice.Eq.{bytes_eq-Decides}
use Rattle.std.proofs.lemmas.Bool.{le-leb, leb-true}
use Rattle.network_load.specs.Lists.{plain_number}

-- the plain decimal form of a number that fits is read as it
pub number_read : (most : ℕ) (word : List ℕ) (n : ℕ) → word ≡ decimal n → n ≤ most → most < 2 ^ 64 → plain_number most word ≡ Some n
number_read most word n is fits small =
    let value : digits_value 10 word ≡ n = ap (digits_value 10) is ∙ (decimal_is_IsNumeral n (omega (arith, fits, small))).1 in
    let same : bytes_eq word (decimal (digits_value 10 word)) ≡ true = (bytes_eq-Decides word (decimal (digits_value 10 word))).1 (is ∙ ap decimal (sym value)) in
    ap (λ (b : Bool). cond (b && nat_le (digits_value 10 word) most) (Some (digits_value 10 word)) None) same ∙ ap (λ (m : ℕ). cond (nat_le m most) (Some m) None) value
    ∙ ap (λ (b : Bool). cond b (Some n) None) (le-leb n most fits)

-- and no other word is read
pub none_read : (most : ℕ) (word : List ℕ) → ((n : ℕ) → n ≤ most → word ≡ decimal n → ⊥) → plain_number most word ≡ None
none_read most word none = by (bytes_eq word (decimal (digits_value 10 word))) (nat_le (digits_value 10 word) most) refl refl where
  by : (same small : Bool) → bytes_eq word (decimal (digits_value 10 word)) ≡ same → nat_le (digits_value 10 word) most ≡ small → cond (same && small) (Some (digits_value 10 word)) None ≡ None
  by true true is fits = absurd (none (digits_value 10 word) (leb-true (digits_value 10 word) most fits) ((bytes_eq-Decides word (decimal (digits_value 10 word))).0 is))
  by true false is fits = refl
  by false small is fits = refl
