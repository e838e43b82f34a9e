-- Records by their six fields.
use std.HLevel.{prop→path_p}
use Rattle.std.proofs.Common.{◌≡◌, ℕ, ◌==◌, Bool, true, false, Option, Some, None, IsSome, IfSome, ◌↔◌, sym, ap, refl, ◌∙◌}
use Rattle.std.specs.Prelude.{is_none}
use Rattle.std.proofs.Props.{props}
use Rattle.heavy_labels.specs.declared.tree_record.Record.{Record}
use Rattle.heavy_labels.specs.Stepped.{record_of}

-- the record of six fields: its heavy port is there exactly where its first number isn't its last
abbrev pub record_with : (first last heavy_last light_depth : ℕ) (parent heavy : Option ℕ) (leaf : Bool) → (first == last) ≡ leaf → Option Record
record_with f l h d p None true e = Some (record { first = f; last = l; heavy_last = h; light_depth = d; parent_port = p; heavy_port = None; heavy_port_there = sym e })
record_with f l h d p None false e = None
record_with f l h d p (Some q) true e = None
record_with f l h d p (Some q) false e = Some (record { first = f; last = l; heavy_last = h; light_depth = d; parent_port = p; heavy_port = Some q; heavy_port_there = sym e })

-- records with the same fields are one
pub same_record : (r s : Record) → record_of r ≡ record_of s → r ≡ s
same_record r s e = λ i. record {
  first = (e i).first;
  last = (e i).last;
  heavy_last = (e i).heavy_last;
  light_depth = (e i).light_depth;
  parent_port = (e i).parent_port;
  heavy_port = (e i).heavy_port;
  heavy_port_there = prop→path_p (λ k. is_none (e k).heavy_port ≡ ((e k).first == (e k).last)) (hlevel props) r.heavy_port_there s.heavy_port_there i;
}

false_true : false ≡ true → ⊥
false_true e = cc

true_false : true ≡ false → ⊥
true_false e = cc

-- what is made of six fields
pub made : (f l h d : ℕ) (p q : Option ℕ) (o : Option Record)
    → IfSome o (λ r. record_of r ≡ record { first = f; last = l; heavy_last = h; light_depth = d; parent_port = p; heavy_port = q })
    → IsSome o ↔ (is_none q ≡ (f == l)) → (b : Bool) (e : (f == l) ≡ b) → o ≡ record_with f l h d p q b e
made f l h d p None (Some r) is exact true e = ap (λ s. Some s) (same_record r _ is)
made f l h d p None (Some r) is exact false e = absurd (true_false (exact.0 refl ∙ e))
made f l h d p (Some q) (Some r) is exact true e = absurd (false_true (exact.0 refl ∙ e))
made f l h d p (Some q) (Some r) is exact false e = ap (λ s. Some s) (same_record r _ is)
made f l h d p None None is exact true e = absurd (false_true (exact.1 (sym e)))
made f l h d p None None is exact false e = refl
made f l h d p (Some q) None is exact true e = refl
made f l h d p (Some q) None is exact false e = absurd (false_true (exact.1 (sym e)))
