-- The rule that a fault names.
use Rattle.std.specs.Prelude.{Result, Ok, Err, ◌↔◌, ℕ, List, ◌∷◌, [], ◌++◌, ◌+◌, codes, ◌≡◌}
use Rattle.certificate.specs.Words.{Parts, Network, k1, k2, k3, k4, k5, k6, k7, k8, number_of, IsChecked, IsFirstFault}
use Rattle.schemes.specs.Checks.{Fault as Rule}
use Rattle.certificate.specs.declared.fault.Fault.{Fault}
use Rattle.certificate.specs.declared.fault.Fault.TheVariants.{Shape, Edges, Parents, Strict, Nearest, Records, Labels, Directories}

-- the rule that a fault names
abbrev pub rule_of : Fault → Rule
rule_of Shape = k1
rule_of Edges = k2
rule_of Parents = k3
rule_of Strict = k4
rule_of Nearest = k5
rule_of Records = k6
rule_of Labels = k7
rule_of Directories = k8

-- how a fault is shown: the letter K and its number
abbrev pub fault_text : Fault → List ℕ
fault_text f = codes "K" ++ (48 + number_of (rule_of f)) ∷ []

-- An answer is Ok exactly where all rules hold, and a fault exactly where its rule is the first that fails.
pub record IsExact (m : Network) (p : Parts) (answer : Result Unit Fault) : Type 0 where
  pub ok : (answer ≡ Ok tt) ↔ IsChecked m p
  pub fault : (fault : Fault) → (answer ≡ Err fault) ↔ IsFirstFault m p (rule_of fault)
