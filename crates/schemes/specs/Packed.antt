-- How an entry is kept: a number that isn't there is a zero in its place.
use Rattle.std.specs.Prelude.{◌≡◌, ◌==◌, ℕ, Bool, true, false, Option, Some, None, is_none, is_some, not, refl}
use Rattle.heavy_labels.specs.declared.tree_record.Record.{Record}
use Rattle.heavy_labels.specs.Numbering.{or_zero}
use Rattle.schemes.specs.Entry.{Entry}
use Rattle.schemes.specs.declared.entry.Entry.TheInside.{Inside}
use Rattle.schemes.specs.declared.entry.Upwards.{Upwards}
use Rattle.schemes.specs.declared.entry.Upwards.TheVariants.{Neither, ParentAlone, PortAlone, Both}

-- whether a parent is there, and whether a port to it is
abbrev pub has_parent : Upwards → Bool
has_parent Neither = false
has_parent ParentAlone = true
has_parent PortAlone = false
has_parent Both = true

abbrev pub has_port : Upwards → Bool
has_port Neither = false
has_port ParentAlone = false
has_port PortAlone = true
has_port Both = true

-- which of the two are there
abbrev pub upwards_of : Bool → Bool → Upwards
upwards_of false false = Neither
upwards_of true false = ParentAlone
upwards_of false true = PortAlone
upwards_of true true = Both

-- a number, where one is there
abbrev pub there_if : Bool → ℕ → Option ℕ
there_if false n = None
there_if true n = Some n

pub none_where_not : (leaf : Bool) (n : ℕ) → is_none (there_if (not leaf) n) ≡ leaf
none_where_not false n = refl
none_where_not true n = refl

-- the record of an entry: it has a heavy port where its first number isn't its last
abbrev pub unpacked_record : Inside → Record
unpacked_record a = record {
  first = a.first;
  last = a.last;
  heavy_last = a.heavy_last;
  light_depth = a.light_depth;
  parent_port = there_if (has_port a.upwards) a.parent_port;
  heavy_port = there_if (not (a.first == a.last)) a.heavy_port;
  heavy_port_there = none_where_not (a.first == a.last) a.heavy_port;
}

-- what is kept, as an entry
abbrev pub unpacked : Inside → Entry
unpacked a = record { distance = a.distance; root = a.root; parent = there_if (has_parent a.upwards) a.parent; tree_record = unpacked_record a }

-- what isn't there is zero
pub record IsPacked (a : Inside) : Type 0 where
  pub parent : or_zero (there_if (has_parent a.upwards) a.parent) ≡ a.parent
  pub parent_port : or_zero (there_if (has_port a.upwards) a.parent_port) ≡ a.parent_port
  pub heavy_port : or_zero (there_if (not (a.first == a.last)) a.heavy_port) ≡ a.heavy_port

-- an entry, as it is kept
abbrev pub packed : Entry → Inside
packed e = record {
  distance = e.distance;
  root = e.root;
  parent = or_zero e.parent;
  first = e.tree_record.first;
  last = e.tree_record.last;
  heavy_last = e.tree_record.heavy_last;
  parent_port = or_zero e.tree_record.parent_port;
  heavy_port = or_zero e.tree_record.heavy_port;
  light_depth = e.tree_record.light_depth;
  upwards = upwards_of (is_some e.parent) (is_some e.tree_record.parent_port);
}

upwards_again : (u : Upwards) (p q : ℕ) → upwards_of (is_some (there_if (has_parent u) p)) (is_some (there_if (has_port u) q)) ≡ u
upwards_again Neither p q = refl
upwards_again ParentAlone p q = refl
upwards_again PortAlone p q = refl
upwards_again Both p q = refl

-- what is kept of an entry is kept again
pub packed_again : (a : Inside) → IsPacked a → packed (unpacked a) ≡ a
packed_again a h = λ i. record {
  distance = a.distance;
  root = a.root;
  parent = h.parent i;
  first = a.first;
  last = a.last;
  heavy_last = a.heavy_last;
  parent_port = h.parent_port i;
  heavy_port = h.heavy_port i;
  light_depth = a.light_depth;
  upwards = upwards_again a.upwards a.parent a.parent_port i;
}
