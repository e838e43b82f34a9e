-- Reading line by line.
use Rattle.std.proofs.Common.{◌≡◌, ◌≢◌, ◌+◌, ◌++◌, ◌∷◌, [], ℕ, List, Option, Some, None, IfSome, length, refl, sym, ap, ◌∙◌, subst, append-nil, append_assoc}
use Rattle.std.specs.Prelude.{slice_get}
use Rattle.std.proofs.lemmas.List.{length-append}
use Rattle.input_lines.specs.Reading.{DropsLine, IsLineAt, IsNext}
use Rattle.input_lines.specs.declared.line.NextLine.{NextLine}
use Rattle.input_lines.specs.declared.line.NextLine.TheVariants.{Line, LongerLine, End}
use Rattle.input_lines.proofs.LoopLemmas.{none_read, next_read, one_more, one_longer_more}
use Rattle.live_lines.specs.declared.asked.Asked.{Asked}
use Rattle.value_syntax.specs.declared.line.ScriptLine.{ScriptLine}
use Rattle.line_exchange.specs.Inputs.{Input, Bytes, Script}
use Rattle.line_exchange.specs.Scripts.{line_asked}
use Rattle.line_exchange.specs.Streams.{IsAskedAt, IsAskedBy}
use Rattle.line_exchange.specs.Prints.{AreAllLines}
use Rattle.line_exchange.specs.Reads.{AreGivenOf, AreOfInput, AreReadOf}

-- ---- an input

none_left : (left : Option (List ℕ)) → AreReadOf (Bytes left) 0 left
none_left None = tt
none_left (Some xs) = none_read xs

-- what a line is read to ask for, the line at its place asks for
pub asks_at : (input : Input) (editors k : ℕ) (old : Option (List ℕ)) (next : NextLine) (line : List ℕ) (asked : Asked) → AreReadOf input k old → IfSome old (λ ys. IsNext ys next line)
    → ((xs : List ℕ) (n : ℕ) → IsLineAt xs n next line → IsAskedBy xs editors n asked) → ∥ IsAskedAt input editors k asked ∥₁
asks_at (Bytes None) editors k old next line asked are is asks = ∣ tt ∣₁
asks_at (Bytes (Some xs)) editors k old next line asked are is asks = ∣ asks xs k (next_read xs k old are next line is) ∣₁
asks_at (Script script) editors k old next line asked are is asks = absurd are

-- then a line more is read
pub read_on : (input : Input) (k : ℕ) (old new : Option (List ℕ)) (next : NextLine) (line : List ℕ) → AreReadOf input k old → IfSome old (λ ys. IsNext ys next line) → DropsLine old new
    → next ≢ End → AreReadOf input (k + 1) new
read_on (Bytes None) k old new next line are is drops some = tt
read_on (Bytes (Some xs)) k old new Line line are is drops some = one_more xs k old are new line is drops
read_on (Bytes (Some xs)) k old new LongerLine line are is drops some = one_longer_more xs k old are new line is drops
read_on (Bytes (Some xs)) k old new End line are is drops some = absurd (some refl)
read_on (Script script) k old new next line are is drops some = absurd are

-- and at the end all are
pub read_whole : (input : Input) (k : ℕ) (old : Option (List ℕ)) (next : NextLine) (line : List ℕ) → AreReadOf input k old → IfSome old (λ ys. IsNext ys next line)
    → next ≡ End → AreAllLines input k
read_whole (Bytes None) k old next line are is end = tt
read_whole (Bytes (Some xs)) k old next line are is end = subst (λ (n : NextLine). IsLineAt xs k n line) end (next_read xs k old are next line is)
read_whole (Script script) k old next line are is end = absurd are

-- a read may fail
pub read_may_fail : (input : Input) (k : ℕ) (left : Option (List ℕ)) → AreReadOf input k left → AreOfInput input
read_may_fail (Bytes bytes) k left are = tt
read_may_fail (Script script) k left are = absurd are

-- ---- a script

none_given_yet : (script : List ScriptLine) → AreGivenOf (Script script) 0 script
none_given_yet script = record { given = []; many = refl; all = refl }

-- at first no line is given
pub none_given : (input : Input) (script : List ScriptLine) → input ≡ Script script → AreGivenOf input 0 script
none_given input script is = subst (λ (i : Input). AreGivenOf i 0 script) (sym is) (none_given_yet script)

get_behind : {X : Type 0} (xs : List X) (y : X) (ys : List X) → slice_get (xs ++ y ∷ ys) (length xs) ≡ Some y
get_behind [] y ys = refl
get_behind (x ∷ xs) y ys = get_behind xs y ys

-- the line that is given asks for what it asks for
pub line_asks : (input : Input) (editors k : ℕ) (line : ScriptLine) (left : List ScriptLine) (asked : Asked) → AreGivenOf input k (line ∷ left) → asked ≡ line_asked line → ∥ IsAskedAt input editors k asked ∥₁
line_asks (Bytes bytes) editors k line left asked are is = absurd are
line_asks (Script script) editors k line left asked are is = ∣ record {
  line = line;
  at = subst (λ (n : ℕ). slice_get script n ≡ Some line) are.many (subst (λ (all : List ScriptLine). slice_get all (length are.given) ≡ Some line) (sym are.all) (get_behind are.given line left));
  asks = is;
} ∣₁

-- then a line more is given
pub given_on : (input : Input) (k : ℕ) (line : ScriptLine) (left : List ScriptLine) → AreGivenOf input k (line ∷ left) → AreGivenOf input (k + 1) left
given_on (Bytes bytes) k line left are = absurd are
given_on (Script script) k line left are = record {
  given = are.given ++ line ∷ [];
  many = length-append are.given (line ∷ []) ∙ ap (λ (n : ℕ). n + 1) are.many;
  all = are.all ∙ sym (append_assoc are.given (line ∷ []) left);
}

-- and at the end all are
pub given_whole : (input : Input) (k : ℕ) → AreGivenOf input k [] → AreAllLines input k
given_whole (Bytes bytes) k are = absurd are
given_whole (Script script) k are = sym (ap length (are.all ∙ append-nil are.given) ∙ are.many)
