-- An entry that was packed is the same again.
use std.HLevel.{prop→path_p}
use Rattle.std.proofs.Common.{◌≡◌, ℕ, ◌==◌, Bool, true, false, Option, Some, None, refl}
use Rattle.std.specs.Prelude.{is_none, is_some, not, unwrap_or}
use Rattle.std.proofs.Props.{props}
use Rattle.heavy_labels.specs.declared.tree_record.Record.{Record}
use Rattle.schemes.specs.Packed.{has_parent, has_port, none_where_not, there_if, unpacked, upwards_of}

parent_again : (p : Option ℕ) (b : Bool) → there_if (has_parent (upwards_of (is_some p) b)) (unwrap_or p 0) ≡ p
parent_again None false = refl
parent_again None true = refl
parent_again (Some n) false = refl
parent_again (Some n) true = refl

port_again : (b : Bool) (q : Option ℕ) → there_if (has_port (upwards_of b (is_some q))) (unwrap_or q 0) ≡ q
port_again false None = refl
port_again true None = refl
port_again false (Some n) = refl
port_again true (Some n) = refl

heavy_again : (leaf : Bool) (q : Option ℕ) → is_none q ≡ leaf → there_if (not leaf) (unwrap_or q 0) ≡ q
heavy_again false None e = cc
heavy_again true None e = refl
heavy_again false (Some n) e = refl
heavy_again true (Some n) e = cc

-- these parts, packed, are the entry of them
pub unpacked_again : (d r : ℕ) (p : Option ℕ) (k : Record) → unpacked (record {
  distance = d;
  root = r;
  parent = unwrap_or p 0;
  first = k.first;
  last = k.last;
  heavy_last = k.heavy_last;
  parent_port = unwrap_or k.parent_port 0;
  heavy_port = unwrap_or k.heavy_port 0;
  light_depth = k.light_depth;
  upwards = upwards_of (is_some p) (is_some k.parent_port);
}) ≡ record { distance = d; root = r; parent = p; tree_record = k }
unpacked_again d r p k = λ i. record {
  distance = d;
  root = r;
  parent = parent_again p (is_some k.parent_port) i;
  tree_record = record {
    first = k.first;
    last = k.last;
    heavy_last = k.heavy_last;
    light_depth = k.light_depth;
    parent_port = port_again (is_some p) k.parent_port i;
    heavy_port = heavy_again (k.first == k.last) k.heavy_port k.heavy_port_there i;
    heavy_port_there = prop→path_p (λ j. is_none (heavy_again (k.first == k.last) k.heavy_port k.heavy_port_there j) ≡ (k.first == k.last)) (hlevel props) (none_where_not (k.first == k.last) (unwrap_or k.heavy_port 0)) k.heavy_port_there i;
  };
}
