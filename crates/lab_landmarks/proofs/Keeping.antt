-- When a scheme keeps limits, by its largest table.
use Rattle.std.proofs.Common.{ℕ, ◌≤◌, inl, inr, arith, count_by}
use Rattle.schemes.specs.declared.parts.Parts.{Parts}
use Rattle.lab_landmarks.specs.Sizes.{IsGreatestSize}
use Rattle.landmark_choice.specs.declared.limits.Limits.{Limits}
use Rattle.lab_landmarks.specs.Reports.{Keeps}

-- where the largest table is no larger than it may be, none is
pub kept : (limits : Limits) (p : Parts) (g : ℕ) → IsGreatestSize p g → g ≤ limits.most_entries → count_by (λ flag. flag) p.landmarks.items ≤ limits.most → Keeps limits p
kept limits p g is tables landmarks = record {
  tables = λ x lt. let size = is.within x lt in omega (arith, size, tables);
  landmarks = landmarks;
}

-- where none is, the largest one isn't
pub keeps_tables : (limits : Limits) (p : Parts) (g : ℕ) → IsGreatestSize p g → Keeps limits p → g ≤ limits.most_entries
keeps_tables limits p g is keeps = elim is.one [
  | inl none ↦ omega (arith, none)
  | inr one ↦ let size = keeps.tables one.0 one.1.0 in let same = one.1.1 in omega (arith, size, same)
]

pub keeps_landmarks : (limits : Limits) (p : Parts) → Keeps limits p → count_by (λ flag. flag) p.landmarks.items ≤ limits.most
keeps_landmarks limits p keeps = keeps.landmarks
