use Rattle.certificate.proofs.Words.{◌+◌, ◌<◌, ◌≤◌, ℕ, length, map, drop, get_or, tables, IsRightOver, IsWidest, StartsAt, but, children_among}
use Rattle.certificate.proofs.records.are_children_fit.Given as goal

abbrev pub invariant-loop-left : goal.invariant-loop-left
invariant-loop-left l = record {
  within : l.left ≤ length l.row;
  right : (k : ℕ) (d : ℕ × ℕ) → l.left ≤ k → k < length l.row → IsRightOver (tables l.scheme) l.entry (get_or l.row k d);
  start : StartsAt (tables l.scheme) l.entry.root (l.entry.tree_record.light_depth + 1) (l.entry.tree_record.last + 1) (but l.heavy (children_among (tables l.scheme) l.entry.root l.x (map (λ e. e.0) (drop l.left l.row)))) l.start;
  widest : IsWidest (tables l.scheme) l.entry.root (children_among (tables l.scheme) l.entry.root l.x (map (λ e. e.0) (drop l.left l.row))) l.widest;
}

abbrev pub decreases-loop-left : goal.decreases-loop-left
decreases-loop-left l = l.left
