-- Edges laid over an edge map: what is found there, and one more laid over them.
use Rattle.std.proofs.Common.{◌≡◌, ℕ, Bool, true, false, cond, [], ◌∷◌, Option, None, Some, refl, sym, ap, ◌∙◌}
use Rattle.std.specs.Ordering.{eq_by_cmp}
use Rattle.std.specs.Option.{unwrap_or}
use Rattle.std.specs.FinMap.{find, put, get, get-insert, get-remove, same_map}
use Rattle.std.specs.FinMap.Entries.{find-put}
use Rattle.graph_edits.specs.Edges.{EdgeMap, pair_cmp, pair_of}
use Rattle.graph_edits.specs.Overlays.{Laid, lay, overlaid}
use Rattle.graph_edits.specs.Changes.{edges_after_op, first_node, second_node, op_weight}
use Rattle.graph_edits.specs.declared.edits.Op.{Op}
use Rattle.graph_edits.specs.declared.edits.Op.TheVariants.{Add, Set, Cut}
use Rattle.graph_edits.proofs.EdgesOfRows.{pair_total, pair_same}

get-lay : (m : EdgeMap) (p : ℕ × ℕ) (o : Option ℕ) (q : ℕ × ℕ) → get (lay m p o) q ≡ cond (eq_by_cmp pair_cmp q p) o (get m q)
get-lay m p (Some w) q = get-insert pair_total m p w q
get-lay m p None q = get-remove pair_total m p q

or_laid : (b : Bool) (o d : Option ℕ) (x : Option (Option ℕ)) → unwrap_or (cond b (Some o) x) d ≡ cond b o (unwrap_or x d)
or_laid true o d x = refl
or_laid false o d x = refl

-- the weight that is laid at a pair, and else that of the map below
pub get-overlaid : (m : EdgeMap) (es : Laid) (q : ℕ × ℕ) → get (overlaid m es) q ≡ unwrap_or (find pair_cmp q es) (get m q)
get-overlaid m [] q = refl
get-overlaid m (e ∷ es) q =
    get-lay (overlaid m es) e.0 e.1 q
    ∙ ap (cond (eq_by_cmp pair_cmp q e.0) e.1) (get-overlaid m es q)
    ∙ sym (or_laid (eq_by_cmp pair_cmp q e.0) e.1 (get m q) (find pair_cmp q es))

overlaid-put : (m : EdgeMap) (es : Laid) (p : ℕ × ℕ) (o : Option ℕ) → overlaid m (put pair_cmp p o es) ≡ lay (overlaid m es) p o
overlaid-put m es p o = same_map pair_total pair_same _ _ (λ q.
    get-overlaid m (put pair_cmp p o es) q
    ∙ ap (λ x. unwrap_or x (get m q)) (find-put pair_cmp pair_total q p o es)
    ∙ or_laid (eq_by_cmp pair_cmp q p) o (get m q) (find pair_cmp q es)
    ∙ ap (cond (eq_by_cmp pair_cmp q p) o) (sym (get-overlaid m es q))
    ∙ sym (get-lay (overlaid m es) p o q))

-- an op laid over them
pub overlaid_op : (m : EdgeMap) (es : Laid) (op : Op) → overlaid m (put pair_cmp (pair_of (first_node op) (second_node op)) (op_weight op) es) ≡ edges_after_op (overlaid m es) op
overlaid_op m es (Add a b w) = overlaid-put m es (pair_of a b) (Some w)
overlaid_op m es (Set a b w) = overlaid-put m es (pair_of a b) (Some w)
overlaid_op m es (Cut a b) = overlaid-put m es (pair_of a b) None
