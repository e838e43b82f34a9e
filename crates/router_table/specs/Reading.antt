-- What stands at the front of a table's bytes, and the bytes behind it: none where they don't begin so.
use Rattle.std.specs.Prelude.{◌≡◌, ℕ, List, Option, Some, refl}
use Rattle.std.specs.Int.{w16, w64}
use Rattle.schemes.specs.declared.packet.Address.{Address}
use Rattle.schemes.specs.declared.parts.Listed.{Listed}
use Rattle.byte_forms.specs.Forms.{FormOf, IsForm}
use Rattle.byte_forms.specs.FormLaws.{list_form, list_is_form, made_form, same_is_form, then_form, then_is_form, u16_form, u16_is_form}
use Rattle.byte_forms.specs.Reading.{◌>>=◌, number_at, whole_at}
use Rattle.router_table.specs.declared.head.Head.{Head}
use Rattle.router_table.specs.declared.tree_entry.TreeEntry.{TreeEntry}
use Rattle.router_table.specs.EntryForm.{entry_form, entry_is_form}
use Rattle.router_table.specs.MemberForm.{member_form, member_is_form}
use Rattle.router_table.specs.Order.{IsHead, IsTable}
use Rattle.router_table.specs.Spelling.{body_text, router_text}
use Rattle.router_table.specs.Table.{Table}

-- a generation, a number of nodes and a node
unfoldable pub numbers_at : List ℕ → Option (ℕ × ℕ × ℕ × List ℕ)
numbers_at bytes = do
  generation ← number_at w64 bytes
  nodes ← number_at w16 generation.1
  node ← number_at w16 nodes.1
  Some (generation.0, nodes.0, node.0, node.1)

-- the three lists of a table: neighbours, entries and members
abbrev pub Lists : Type 0
Lists = List ℕ × List TreeEntry × List Listed

abbrev pub Three : Type 0
Three = List ℕ × (List TreeEntry × List Listed)

abbrev pub three_form : FormOf Three
three_form = then_form (list_form u16_form) (then_form (list_form entry_form) (list_form member_form))

abbrev pub lists_of : Three → Lists
lists_of x = (x.0, x.1.0, x.1.1)

abbrev pub three_of : Lists → Three
three_of y = (y.0, (y.1, y.2))

abbrev pub lists_form : FormOf Lists
lists_form = made_form three_form (λ x. Some (lists_of x)) three_of (λ y. three_form.Fits (three_of y))

pub lists_is_form : IsForm lists_form
lists_is_form = same_is_form (then_is_form (list_is_form u16_is_form) (then_is_form (list_is_form entry_is_form) (list_is_form member_is_form))) lists_of three_of (λ x. refl) (λ y. refl)

-- these, and nothing behind them
unfoldable pub lists_at : List ℕ → Option Lists
lists_at bytes = whole_at lists_form.at bytes

-- the head of an address's node, in the same generation
pub record IsHeadWith (generation nodes node : ℕ) (a : Address) (h : Head) : Type 0 where
  pub same_head : h ≡ record { generation = generation; nodes = nodes; node = node; home = a.home }
  pub same_generation : a.generation ≡ generation
  pub same_node : a.node ≡ node

-- bytes are those of a head, and of no other head in order
pub record IsHeadIn (bytes : List ℕ) (h : Head) : Type 0 where
  pub text : bytes ≡ router_text h
  pub only : (k : Head) → IsHead k → bytes ≡ router_text k → k ≡ h

-- a body is that of a table, and of no other table in order
pub record IsTableIn (body : List ℕ) (a : Table) : Type 0 where
  pub text : body ≡ body_text a
  pub only : (b : Table) → IsTable b → body ≡ body_text b → b ≡ a
