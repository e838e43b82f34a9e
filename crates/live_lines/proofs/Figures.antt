-- The text of names and numbers.
use Rattle.std.proofs.Common.{◌≡◌, ℕ, List, map, sym}
use Rattle.std.specs.List.{flat_map}
use Rattle.std.proofs.lemmas.List.Folds.{flat_map-map}
use denote.Ref.{Bor}
use Rattle.live_lines.specs.Metrics.{named, pair_text}

-- each one's text, behind the others'
pub named_texts : (pairs : List (Bor (List ℕ) × ℕ)) → flat_map (λ (pair : Bor (List ℕ) × ℕ). pair_text (named pair)) pairs ≡ flat_map pair_text (map named pairs)
named_texts pairs = sym (flat_map-map pair_text named pairs)
