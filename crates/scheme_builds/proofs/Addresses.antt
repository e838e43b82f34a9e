-- The own address of a node.
use Rattle.std.proofs.Common.{◌≡◌, ◌<◌, ◌∙◌, refl, ℕ, true, arith}
use Rattle.std.specs.Prelude.{nat_lt, Result, Ok, Err}
use Rattle.std.proofs.lemmas.Bool.Decides.{nat_tests}
use Rattle.graph_edits.specs.Edges.{Network}
use Rattle.schemes.specs.declared.packet.Address.{Address}
use Rattle.schemes.specs.declared.packet.Refused.{Refused}
use Rattle.schemes.specs.declared.parts.Parts.{Parts}
use Rattle.schemes.specs.Checks.{IsChecked, IsShaped, k1}
use Rattle.schemes.specs.Service.{address, address_given}
use Rattle.schemes.specs.Tables.{tables}

-- in a scheme that keeps all rules every node of the network has an address
given : (m : Network) (p : Parts) (v : ℕ) → IsChecked m p → v < m.nodes → address_given (tables p) v ≡ Ok (address (tables p) v)
given m p v checked inside =
    let shaped : IsShaped m p = checked k1 in
    let within : v < p.nodes = omega (arith, shaped.nodes) in
    let test : nat_lt v p.nodes ≡ true = grind (arith, nat_tests) in
    rw test refl

-- what is given is the node's own address
pub own_address : (m : Network) (p : Parts) (v : ℕ) (answer : Result Address Refused) (a : Address) → IsChecked m p → v < m.nodes
    → answer ≡ address_given (tables p) v → answer ≡ Ok a → a ≡ address (tables p) v
own_address m p v answer a checked inside is ok = let own : answer ≡ Ok (address (tables p) v) = is ∙ given m p v checked inside in cc

-- and none is refused
pub never_refused : (m : Network) (p : Parts) (v : ℕ) (answer : Result Address Refused) (e : Refused) → IsChecked m p → v < m.nodes
    → answer ≡ address_given (tables p) v → answer ≡ Err e → ⊥
never_refused m p v answer e checked inside is err = let own : answer ≡ Ok (address (tables p) v) = is ∙ given m p v checked inside in cc
