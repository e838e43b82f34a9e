-- What a caller knows that reads line by line, from bytes xs.
use Rattle.std.proofs.Common.{◌≡◌, ◌⊎◌, ◌<◌, ◌+◌, ℕ, suc, List, Option, Some, None, IfSome, inl, inr, length, refl, sym, ap, subst, ◌∙◌, arith}
use Rattle.input_lines.specs.Lines.{after_line, after_lines, first_line, lines_in}
use Rattle.input_lines.specs.Reading.{AreRead, DropsLine, IsLineAt, IsNext}
use Rattle.input_lines.specs.declared.line.NextLine.{NextLine}
use Rattle.input_lines.specs.declared.line.NextLine.TheVariants.{Line, LongerLine, End}
use Rattle.input_lines.proofs.LineLemmas.{first_short, line_here, line_within, lines_over}

module _ (xs : List ℕ) where
  -- at first no line is read
  pub none_read : AreRead xs 0 (Some xs)
  none_read = record { rest = refl; within = omega arith }

  module _ (k : ℕ) (old : Option (List ℕ)) (are : AreRead xs k old) where
    left : (P : List ℕ → Type 0) → IfSome old P → P (after_lines k xs)
    left P = subst (λ o. IfSome o P) are.rest

    -- a line that is given is the one at the place
    pub line_read : (line : List ℕ) → IfSome old (λ ys. IsNext ys Line line) → IsLineAt xs k Line line
    line_read line next =
        let is = left (λ ys. IsNext ys Line line) next in
        let here = line_here k xs is.0 in
        let same = ap (λ (l : List ℕ). length l) is.2 in
        (here ∙ ap Some (sym is.2), omega (arith, same, is.1))

    -- one that is not given is longer
    pub longer_read : (line : List ℕ) → IfSome old (λ ys. IsNext ys LongerLine line) → IsLineAt xs k LongerLine line
    longer_read line next =
        let is = left (λ ys. IsNext ys LongerLine line) next in
        let some : 0 < length (after_lines k xs) = omega (arith, is, first_short (after_lines k xs)) in
        (first_line (after_lines k xs), line_here k xs some, is)

    -- where nothing stands next, so many lines are all
    pub all_read : (line : List ℕ) → IfSome old (λ ys. IsNext ys End line) → IsLineAt xs k End line
    all_read line next =
        let over = lines_over k xs (left (λ ys. IsNext ys End line) next) in
        omega (arith, over, are.within)

    -- whatever stands next
    pub next_read : (next : NextLine) (line : List ℕ) → IfSome old (λ ys. IsNext ys next line) → IsLineAt xs k next line
    next_read Line line next = line_read line next
    next_read LongerLine line next = longer_read line next
    next_read End line next = all_read line next

    more : (new : Option (List ℕ)) → k < length (lines_in xs) → DropsLine old new → AreRead xs (k + 1) new
    more new within drops =
        let next : suc k ≡ k + 1 = omega arith in
        record {
          rest = left (λ ys. new ≡ Some (after_line ys)) drops ∙ ap (λ n. Some (after_lines n xs)) next;
          within = omega (arith, within);
        }

    -- and one line more is read then
    pub one_more : (new : Option (List ℕ)) (line : List ℕ) → IfSome old (λ ys. IsNext ys Line line) → DropsLine old new → AreRead xs (k + 1) new
    one_more new line next drops =
        more new (line_within k xs (left (λ ys. IsNext ys Line line) next).0) drops

    pub one_longer_more : (new : Option (List ℕ)) (line : List ℕ) → IfSome old (λ ys. IsNext ys LongerLine line) → DropsLine old new → AreRead xs (k + 1) new
    one_longer_more new line next drops =
        let is = left (λ ys. IsNext ys LongerLine line) next in
        let some : 0 < length (after_lines k xs) = omega (arith, is, first_short (after_lines k xs)) in
        more new (line_within k xs some) drops

-- ---- where it is known what the bytes were

-- what stands next is what stands at the place
pub known_next : (bytes : Option (List ℕ)) (k : ℕ) (old : Option (List ℕ)) (next : NextLine) (line : List ℕ) → IfSome bytes (λ xs. AreRead xs k old) → IfSome old (λ ys. IsNext ys next line) → IfSome bytes (λ xs. IsLineAt xs k next line)
known_next None k old next line are is = tt
known_next (Some xs) k old next line are is = next_read xs k old are next line is

-- and a line more is read where something stood there
pub known_more : (bytes : Option (List ℕ)) (k : ℕ) (old new : Option (List ℕ)) (next : NextLine) (line : List ℕ) → (next ≡ Line) ⊎ (next ≡ LongerLine) → IfSome bytes (λ xs. AreRead xs k old) → IfSome old (λ ys. IsNext ys next line) → DropsLine old new → IfSome bytes (λ xs. AreRead xs (k + 1) new)
known_more None k old new next line either are is drops = tt
known_more (Some xs) k old new next line (inl e) are is drops = one_more xs k old are new line (subst (λ n. IfSome old (λ ys. IsNext ys n line)) e is) drops
known_more (Some xs) k old new next line (inr e) are is drops = one_longer_more xs k old are new line (subst (λ n. IfSome old (λ ys. IsNext ys n line)) e is) drops

-- at first no line is read of what a reader has left
pub known_none : (left : Option (List ℕ)) → IfSome left (λ xs. AreRead xs 0 left)
known_none None = tt
known_none (Some xs) = none_read xs
