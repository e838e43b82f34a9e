use Rattle.std.proofs.Common.{◌≡◌, ℕ, List, Some}
use Rattle.schemes.specs.declared.parts.Listed.{Listed}
use Rattle.byte_forms.specs.Reading.{list_at}
use Rattle.router_table.specs.MemberForm.{member_at}
use Rattle.table_view.proofs.Walks.{IsLeft}
use Rattle.table_view.proofs.launches.label_in.Given as goal

abbrev pub invariant-loop : goal.invariant-loop
invariant-loop l = (ms : List Listed) (rest : List ℕ) → list_at member_at l.directory ≡ Some (ms, rest) → IsLeft l.count l.counter l.node l.rest ms rest
