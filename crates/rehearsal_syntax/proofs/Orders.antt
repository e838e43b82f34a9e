-- Lines that stand in their order, and the first that doesn't.
use Rattle.std.proofs.Common.{arith, ◌≡◌, sym, ap, refl, subst, ℕ, List, [], ◌∷◌, ◌++◌, map, decimal}
use Rattle.std.proofs.lemmas.Fmt.{decimal_injective}
use Rattle.rehearsal_syntax.specs.declared.line.RehearsalLine.{RehearsalLine}
use Rattle.rehearsal_syntax.specs.declared.line.RehearsalLine.TheVariants.{Device}
use Rattle.rehearsal_syntax.specs.declared.stage.Stage.{Stage}
use Rattle.rehearsal_syntax.specs.declared.stage.Stage.TheVariants.{Empty, Made, Living}
use Rattle.rehearsal_syntax.specs.Grammar.{MayStand, StandFrom, line_words, stage_after, stage_of}

-- one line more that may stand behind the others
pub stand_more : (stage : Stage) (lines : List RehearsalLine) (line : RehearsalLine) → StandFrom stage lines → MayStand (stage_of stage lines) line → StandFrom stage (lines ++ line ∷ [])
stand_more stage [] line stand may = (may, tt)
stand_more stage (l ∷ ls) line stand may = (stand.0, stand_more (stage_after stage l) ls line stand.1 may)

pub stage_more : (stage : Stage) (lines : List RehearsalLine) (line : RehearsalLine) → stage_of stage (lines ++ line ∷ []) ≡ stage_after (stage_of stage lines) line
stage_more stage [] line = refl
stage_more stage (l ∷ ls) line = stage_more (stage_after stage l) ls line

-- the same words bring it as far
pub same_stage : (stage : Stage) (one other : RehearsalLine) → MayStand stage one → MayStand stage other → line_words one ≡ line_words other → stage_after stage one ≡ stage_after stage other
same_stage Empty (Device m) (Device n) fm fn is =
    let texts : decimal m ≡ decimal n = cc in
    ap (λ k. Made k) (decimal_injective m n (omega (arith, fm.1)) (omega (arith, fn.1)) texts)
same_stage Empty (Device m) other fm fn is = absurd (fn)
same_stage Empty one other fm fn is = absurd (fm)
same_stage (Made nodes) one other fm fn is = refl
same_stage (Living nodes) one other fm fn is = refl

-- where no line may stand behind these that has the words, no rehearsal goes on with them
pub none_goes_on : (stage : Stage) (lines all : List RehearsalLine) (words : List (List ℕ)) (more : List (List (List ℕ))) → StandFrom stage lines → StandFrom stage all
    → map line_words all ≡ map line_words lines ++ words ∷ more → ((line : RehearsalLine) → MayStand (stage_of stage lines) line → words ≡ line_words line → ⊥) → ⊥
none_goes_on stage [] [] words more stand other is none = absurd (cc)
none_goes_on stage [] (x ∷ xs) words more stand other is none =
    let same : words ≡ line_words x = cc in
    none x other.0 same
none_goes_on stage (l ∷ ls) [] words more stand other is none = absurd (cc)
none_goes_on stage (l ∷ ls) (x ∷ xs) words more stand other is none =
    let first : line_words l ≡ line_words x = cc in
    let rest : map line_words xs ≡ map line_words ls ++ words ∷ more = cc in
    let stages : stage_after stage l ≡ stage_after stage x = same_stage stage l x stand.0 other.0 first in
    none_goes_on (stage_after stage l) ls xs words more stand.1 (subst (λ s. StandFrom s xs) (sym stages) other.1) rest none
