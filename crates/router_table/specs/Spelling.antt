-- How a table is spelled in bytes. Each number begins with its highest byte.
use Rattle.std.specs.Prelude.{◌≡◌, ℕ, List, [], ◌∷◌, ◌++◌, Option, Some, None}
use Rattle.std.specs.Int.{w16, w64, to_be_bytes}
use Rattle.sha2.specs.Sha256.{sha256}
use Rattle.heavy_labels.specs.Label.{Label}
use Rattle.heavy_labels.specs.declared.tree_record.Record.{Record}
use Rattle.schemes.specs.declared.parts.Listed.{Listed}
use Rattle.packet_bytes.specs.Spelling.{address_text}
use Rattle.byte_forms.specs.Forms.{list_text, short_text}
use Rattle.router_table.specs.declared.head.Head.{Head}
use Rattle.router_table.specs.declared.tree_entry.TreeEntry.{TreeEntry}
use Rattle.router_table.specs.Order.{IsTable}
use Rattle.router_table.specs.Table.{Table, address_of}

-- the letters TZTABL
abbrev pub letters : List ℕ
letters = 84 ∷ 90 ∷ 84 ∷ 65 ∷ 66 ∷ 76 ∷ []

-- the digits of the version, 01
abbrev pub version : List ℕ
version = 48 ∷ 49 ∷ []

-- two bytes
abbrev pub number : ℕ → List ℕ
number n = to_be_bytes w16 n

-- what stands for a port that isn't there
abbrev pub no_port : ℕ
no_port = 65535

-- a port, where there is one
abbrev pub port_number : Option ℕ → ℕ
port_number None = no_port
port_number (Some port) = port

-- who a router is: generation, number of nodes, its node, and its address
unfoldable pub router_text : Head → List ℕ
router_text h = to_be_bytes w64 h.generation ++ (number h.nodes ++ (number h.node ++ address_text (address_of h)))

-- letters, version, and the router
unfoldable pub head_text : Head → List ℕ
head_text h = letters ++ (version ++ router_text h)

-- the six numbers of a record: two bytes each, and the light depth one
abbrev pub record_text : Record → List ℕ
record_text r = number r.first ++ (number r.last ++ (number r.heavy_last ++ (number (port_number r.parent_port) ++ (number (port_number r.heavy_port) ++ r.light_depth ∷ []))))

-- an entry: the root, and the record
abbrev pub entry_text : TreeEntry → List ℕ
entry_text e = number e.root ++ record_text e.tree_record

-- a label: its number, how many ports it has, and these
abbrev pub label_text : Label → List ℕ
label_text l = number l.first ++ short_text number l.lights

-- a member of a directory: its node, and its label
abbrev pub member_text : Listed → List ℕ
member_text m = number m.node ++ label_text m.label

-- the three lists: neighbours, entries and members
unfoldable pub lists_text : List ℕ → List TreeEntry → List Listed → List ℕ
lists_text ports entries directory = list_text number ports ++ (list_text entry_text entries ++ list_text member_text directory)

-- all but the digest
unfoldable pub body_text : Table → List ℕ
body_text a = head_text a.head ++ lists_text a.ports a.entries a.directory

-- the SHA-256 of bytes
unfoldable pub digest_of : List ℕ → List ℕ
digest_of bytes = sha256 bytes

-- the whole table: its body, and the digest of that
abbrev pub table_text : Table → List ℕ
table_text a = body_text a ++ digest_of (body_text a)

-- the bytes are the spelling of a table that is in order
pub record SpellsTable (bytes : List ℕ) (a : Table) : Type 0 where
  pub fits : IsTable a
  pub text : bytes ≡ table_text a
