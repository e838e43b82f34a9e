-- What a reader gives line by line.
use Rattle.std.specs.Prelude.{◌≡◌, ◌≢◌, ◌≤◌, ◌<◌, ◌+◌, ◌++◌, ◌∷◌, ℕ, Bool, true, false, All, Option, Some, IfSome, List, [], length}
use Rattle.std.specs.Io.KnownBytes.{Consumes, IsAtEnd, Keeps}
use Rattle.input_lines.specs.Lines.{after_line, after_lines, first_line, line_at, line_feed, lines_in, longest_line}
use Rattle.input_lines.specs.declared.line.NextLine.{NextLine}
use Rattle.input_lines.specs.declared.line.NextLine.TheVariants.{Line, LongerLine, End}
use Rattle.input_lines.specs.declared.line.Part.{Part}
use Rattle.input_lines.specs.declared.line.Part.TheVariants.{Fed, More, TooLong, AtEnd}

-- what stands next in bytes, and the line that is given of it
abbrev pub IsNext : List ℕ → NextLine → List ℕ → Type 0
IsNext xs Line line = (0 < length xs) × (length (first_line xs) ≤ longest_line) × (line ≡ first_line xs)
IsNext xs LongerLine line = longest_line < length (first_line xs)
IsNext xs End line = xs ≡ []

-- known bytes lose their first line, and its line feed
abbrev pub DropsLine : Option (List ℕ) → Option (List ℕ) → Type 0
DropsLine old new = IfSome old (λ xs. new ≡ Some (after_line xs))

-- known bytes lose some from the front
abbrev pub IsFurther : Option (List ℕ) → Option (List ℕ) → Type 0
IsFurther old new = (bs : List ℕ) × Consumes old new bs

-- there is no line feed
abbrev pub Unfed : List ℕ → Type 0
Unfed bytes = All (λ byte. byte ≢ line_feed) bytes

-- a line has grown by a part, and the known bytes lose the part and what stands behind it
pub record Grows (old new : Option (List ℕ)) (before after behind : List ℕ) : Type 0 where
  pub part : List ℕ
  pub grown : after ≡ before ++ part
  pub unfed : Unfed part
  pub read : Consumes old new (part ++ behind)

-- a line with all that is known to be behind it would be longer
abbrev pub IsTooLong : Option (List ℕ) → List ℕ → Type 0
IsTooLong old before = IfSome old (λ xs. longest_line < length before + length (first_line xs))

-- what a part of a line does to the known bytes and to the line
abbrev pub TakesPart : Option (List ℕ) → Option (List ℕ) → List ℕ → List ℕ → Part → Type 0
TakesPart old new before after Fed = Grows old new before after (line_feed ∷ [])
TakesPart old new before after More = Grows old new before after []
TakesPart old new before after TooLong = (after ≡ before) × Keeps old new × IsTooLong old before
TakesPart old new before after AtEnd = (after ≡ before) × Keeps old new × IsAtEnd old

-- the line feed where there is one
abbrev pub feed_of : Bool → List ℕ
feed_of true = line_feed ∷ []
feed_of false = []

-- known bytes lose some in which there is no line feed, or all through the first one
abbrev pub SkipsPart : Option (List ℕ) → Option (List ℕ) → Bool → Type 0
SkipsPart old new false = (part : List ℕ) × Unfed part × Consumes old new part
SkipsPart old new true = DropsLine old new

-- so many lines of xs are read, and the bytes behind them are left
pub record AreRead (xs : List ℕ) (count : ℕ) (left : Option (List ℕ)) : Type 0 where
  pub rest : left ≡ Some (after_lines count xs)
  pub within : count ≤ length (lines_in xs)

-- what stands at a place among the lines of xs, and the line that is given of it; nothing stands behind all of them
abbrev pub IsLineAt : List ℕ → ℕ → NextLine → List ℕ → Type 0
IsLineAt xs k Line line = (line_at xs k ≡ Some line) × (length line ≤ longest_line)
IsLineAt xs k LongerLine line = (whole : List ℕ) × (line_at xs k ≡ Some whole) × (longest_line < length whole)
IsLineAt xs k End line = k ≡ length (lines_in xs)
