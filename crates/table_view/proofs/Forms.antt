-- What a body that was read says of the table in order whose body it is, if it is one.
use Rattle.std.proofs.Common.{◌≡◌, ◌≢◌, ℕ, ◌≤◌, List, ◌++◌, length, take, drop, refl, sym, ap, subst, ◌∙◌}
use Rattle.std.specs.List.{All}
use Rattle.router_table.specs.declared.head.Head.{Head}
use Rattle.router_table.specs.declared.refused.ReadRefused.TheVariants.{NotInOrder}
use Rattle.router_table.specs.Order.{IsHead, IsRecord}
use Rattle.router_table.specs.Reading.{IsHeadIn, lists_at}
use Rattle.router_table.specs.Refusals.{IsBodyOf, IsRefusedFor, head_size}
use Rattle.router_table.specs.Spelling.{letters, lists_text, router_text, version}
use Rattle.router_table.specs.Table.{Table}
use Rattle.router_table.proofs.BodyTexts.{body_parts, body_read, head_front}
use Rattle.router_table.proofs.FormTexts.{body_of_text}
use Rattle.byte_forms.specs.Forms.{IsBytes}
use Rattle.table_view.specs.Listing.{AreListsIn, IsBody}
use Rattle.table_view.proofs.Lists.{lists_in_text}

module _ (body front rest router : List ℕ) (front_is : front ≡ take head_size body) (rest_is : rest ≡ drop head_size body) (router_is : router ≡ drop 8 front) where
  its_router : (is : IsBody body) → router ≡ router_text is.table.head
  its_router is =
      let parts = body_parts is.table is.fits in
      router_is ∙ ap (λ (t : List ℕ). drop 8 t) (front_is ∙ ap (λ (t : List ℕ). take head_size t) is.text ∙ parts.0) ∙ (head_front is.table.head).1

  pub headless : ((h : Head) → IsHead h → router ≢ router_text h) → IsBody body → ⊥
  headless none is = none is.table.head is.fits.head (its_router is)

  module _ (h : Head) (read : IsHeadIn router h) where
    same_head : (is : IsBody body) → is.table.head ≡ h
    same_head is = read.only is.table.head is.fits.head (its_router is)

    pub no_order : (IsHead h → ⊥) → IsBody body → ⊥
    no_order none is = none (subst IsHead (same_head is) is.fits.head)

    pub listless : (AreListsIn rest h → ⊥) → IsBody body → ⊥
    listless none is =
        let parts = body_parts is.table is.fits in
        let lists : rest ≡ lists_text is.table.ports is.table.entries is.table.directory = rest_is ∙ ap (λ (t : List ℕ). drop head_size t) is.text ∙ parts.1 in
        none (subst (AreListsIn rest) (same_head is) (subst (λ (t : List ℕ). AreListsIn t is.table.head) (sym lists) (lists_in_text is.table is.fits)))

    pub is_body : IsBytes body → take 8 body ≡ letters ++ version → head_size ≤ length body → IsHead h → AreListsIn rest h → IsBody body
    unfolding lists_at
    is_body ok first long order lists =
        let table : Table = record { head = h; ports = lists.ports.items; entries = lists.entries.items; directory = lists.members.items } in
        record {
          table = table;
          fits = record {
            head = order;
            lists = record {
              ports = lists.ports.order;
              entries = lists.entries.order;
              directory = lists.members.order;
              records = subst (λ n. All (λ e. IsRecord n e.tree_record) lists.entries.items) (sym lists.ports.many) lists.entries.each;
              labels = lists.members.each;
            };
          };
          text = (body_read body front rest table ok first long front_is rest_is (subst (λ (t : List ℕ). IsHeadIn t h) router_is read) (rw (lists.ports.read, lists.entries.read, lists.members.read) refl)).text;
        }

pub not_spelled : (bytes body : List ℕ) → IsBodyOf bytes body → (IsBody body → ⊥) → IsRefusedFor bytes NotInOrder
not_spelled bytes body of none = (of.form, λ a is. none (record { table = a; fits = is.fits; text = of.same ∙ (body_of_text bytes a is).0 }))
