-- The column of a root stands in other tables as it did.
use Rattle.std.proofs.Common.{◌≡◌, ℕ, cond, sym, ap, subst, ◌∙◌}
use Rattle.std.specs.Prelude.{Some, None, IsSome}
use Rattle.std.specs.Option.{option_map}
use Rattle.std.specs.List.Sorted.{IsStrictlyIncreasing}
use Rattle.graph_edits.specs.Edges.{Network}
use Rattle.landmarks.specs.declared.near.Near.{Near}
use Rattle.schemes.specs.declared.parts.Parts.{Parts}
use Rattle.schemes.specs.Tables.{tables, entries_at, directory_at, first_entry, first_listed, nodes_of}
use Rattle.schemes.specs.Checks.{IsListed}
use Rattle.node_table.specs.Columns.{IsColumn, HasColumn, limit_in}

-- the limits of a root
pub limit_kept : (p q : Parts) (r x : ℕ) → (tables q).landmark r ≡ (tables p).landmark r → (tables q).nearest x ≡ (tables p).nearest x → limit_in p r x ≡ limit_in q r x
limit_kept p q r x landmark nearest =
    ap (λ b. cond b None (option_map (λ (z : Near). z.distance) ((tables p).nearest x))) (sym landmark)
    ∙ ap (λ o. cond ((tables q).landmark r) None (option_map (λ (z : Near). z.distance) o)) (sym nearest)

-- its column, where all that is said of the root is the same
pub column_kept : (m : Network) (p q : Parts) (r : ℕ) → (tables q).landmark r ≡ (tables p).landmark r → ((x : ℕ) → (tables q).nearest x ≡ (tables p).nearest x) → directory_at q r ≡ directory_at p r
    → ((x : ℕ) → first_entry r (entries_at q x) ≡ first_entry r (entries_at p x)) → ((v : ℕ) (z : Near) → (tables p).nearest v ≡ Some z → z.landmark ≡ r → (tables q).home v ≡ (tables p).home v)
    → HasColumn m p r → HasColumn m q r
column_kept m p q r landmark nearest dir first home c = record {
  labels = c.labels;
  column = subst (λ f. IsColumn m (limit_in q r) r f c.labels) (λ i x. sym (first x) i)
      (subst (λ lim. IsColumn m lim r (λ x. first_entry r (entries_at p x)) c.labels) (λ i x. limit_kept p q r x landmark (nearest x) i) c.column);
  landmark = λ e. dir ∙ c.landmark (sym landmark ∙ e);
  listed = λ e i. c.listed e (subst (IsListed e) dir i);
  ascend = subst (λ z. IsStrictlyIncreasing (nodes_of z)) (sym dir) c.ascend;
  complete = λ e v s. subst (λ z. IsSome (first_listed v z)) (sym dir) (c.complete (sym landmark ∙ e) v s);
  homes = λ v z g s. home v z (sym (nearest v) ∙ g) s ∙ c.homes v z (sym (nearest v) ∙ g) s;
}
