-- A label, as contracts see it.
use Rattle.std.specs.Prelude.{ℕ, List, refl}
use Rattle.std.specs.Coded.{Coded, code_by, coded×, coded_ℕ, coded_list}

-- a member's number, and the ports of the light edges from the root to it
pub record Label : Type 0 where
  pub first : ℕ
  pub lights : List ℕ

-- a label is coded as its two parts
abbrev pub label_code : Coded Label
label_code = code_by (ℕ × List ℕ) (coded× coded_ℕ (coded_list coded_ℕ)) (λ l. (l.first, l.lights)) (λ p. record { first = p.0; lights = p.1 }) (λ _. refl)
