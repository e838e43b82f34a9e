use Rattle.std.proofs.Common.{◌∙◌, subst, sym, ℕ, List}
use Rattle.std.proofs.lemmas.Bool.{eq-eqb, eqb-true}
use Rattle.std.proofs.lemmas.List.{nil_from_length}
use Rattle.table_view.specs.Listing.{AreMembersIn}
use Rattle.table_view.proofs.Lists.{its_entries, its_members, not_so, nothing_left}
use Rattle.table_view.proofs.order.are_lists.Goals as goal

pub returns-in_default : goal.returns-in_default
returns-in_default c = not_so (λ is. c.in_default.ensures _ _ is.ports)

pub returns-in_default-list_in_order : goal.returns-in_default-list_in_order
returns-in_default-list_in_order c = not_so (λ is. c.in_default-list_in_order.ensures _ _ (its_entries c.args.bytes.now c.args.head.now c.in-Some.ports c.in-Some.rest.now c.in-Some.ensures is))

pub returns-in_default-list_in_order-2 : goal.returns-in_default-list_in_order-2
returns-in_default-list_in_order-2 c = not_so (λ is. c.in_default-list_in_order-2.ensures _ _ (its_members c.args.bytes.now c.args.head.now c.in-Some.ports c.in-Some.rest.now c.in-Some.ensures is c.in-Some-list_in_order.field-0-0 c.in-Some-list_in_order.rest.now c.in-Some-list_in_order.ensures))

pub returns : goal.returns
returns c =
    let empty = c.is_empty.ensures in (
      λ yes. record {
        port_count = c.in-Some.ports;
        entry_count = c.in-Some-list_in_order.field-0-0;
        member_count = c.in-Some-list_in_order-2.field-0-0;
        after_ports = c.in-Some.rest.now;
        after_entries = c.in-Some-list_in_order.rest.now;
        ports = c.in-Some.ensures;
        entries = c.in-Some-list_in_order.ensures;
        members = subst (λ (t : List ℕ). AreMembersIn c.args.head.now.nodes c.in-Some-list_in_order.rest.now c.in-Some-list_in_order-2.field-0-0 t) (nil_from_length _ (eqb-true _ _ (sym empty ∙ yes))) c.in-Some-list_in_order-2.ensures;
      },
      λ is. empty ∙ eq-eqb _ 0 (nothing_left c.args.bytes.now c.args.head.now c.in-Some.ports c.in-Some.rest.now c.in-Some.ensures is c.in-Some-list_in_order.field-0-0 c.in-Some-list_in_order.rest.now c.in-Some-list_in_order.ensures _ _ c.in-Some-list_in_order-2.ensures),
    )
