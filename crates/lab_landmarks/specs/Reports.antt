-- What is told of chosen landmarks.
use Rattle.std.specs.Prelude.{true, ◌≡◌, ◌↔◌, ◌<◌, ◌≤◌, ◌++◌, ℕ, List, codes, count_by, string_bytes}
use Rattle.graph_edits.specs.Edges.{Network}
use Rattle.schemes.specs.declared.parts.Parts.{Parts}
use Rattle.value_syntax.specs.Words.{AreDrawn, AreZeroAt, first_state}
use Rattle.scheme_builds.specs.Schemes.{IsSchemeOf}
use Rattle.landmark_choice.specs.declared.limits.Limits.{Limits}
use Rattle.lab_landmarks.specs.declared.reports.Report.{Report}
use Rattle.lab_landmarks.specs.Sizes.{IsGreatestSize, table_size}
use Rattle.lab_landmarks.specs.Tables.{tables_text}

-- no table of a scheme has more entries and members than it may have, and there are no more landmarks than there may be
pub record Keeps (limits : Limits) (p : Parts) : Type 0 where
  pub tables : (x : ℕ) → x < p.nodes → table_size p x ≤ limits.most_entries
  pub landmarks : count_by (λ flag. flag) p.landmarks.items ≤ limits.most

-- the scheme of the landmarks that a seed draws
pub record IsDrawn (m : Network) (generation seed : ℕ) (p : Parts) : Type 0 where
  pub words : List ℕ
  pub drawn : AreDrawn (first_state seed) m.nodes words
  pub is : IsSchemeOf m words generation p

-- the scheme whose landmarks are these nodes
pub record IsChosen (m : Network) (generation : ℕ) (nodes : List ℕ) (p : Parts) : Type 0 where
  pub words : List ℕ
  pub chosen : AreZeroAt nodes m.nodes words
  pub is : IsSchemeOf m words generation p

-- the figures of the landmarks that the seed draws, and then of the chosen ones; the largest table of these; and whether they keep the limits
pub record IsReport (m : Network) (generation seed : ℕ) (nodes : List ℕ) (limits : Limits) (report : Report) : Type 0 where
  pub before : Parts
  pub after : Parts
  pub drawn : IsDrawn m generation seed before
  pub chosen : IsChosen m generation nodes after
  pub figures : string_bytes report.figures ≡ tables_text (codes "before") before ++ tables_text (codes "after") after
  pub greatest : IsGreatestSize after report.greatest
  pub kept : (report.is_kept ≡ true) ↔ Keeps limits after
