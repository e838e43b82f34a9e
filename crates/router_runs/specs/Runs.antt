-- What a router answers to the lines of an input.
use Rattle.std.specs.Prelude.{◌≡◌, ◌≢◌, ◌⊎◌, ◌<◌, ◌≤◌, ◌^◌, ◌++◌, ◌∷◌, ℕ, List, [], Ok, Err, Option, IfSome, Some, decimal, length}
use Rattle.std.specs.List.{flat_map}
use Rattle.std.specs.Io.KnownBytes.{Appends}
use Rattle.input_lines.specs.Lines.{after_line, first_line, line_feed, longest_line}
use Rattle.router_table.specs.declared.refused.ReadRefused.TheVariants.{TooLong as TooLongTable}
use Rattle.router_lines.specs.Answers.{IsAnswerTo, IsForgotten, IsLoadedBy, answer_text}
use Rattle.router_lines.specs.Lines.{IsAskedIn, drop_word, load_word}
use Rattle.router_lines.specs.Shelves.{Shelf}
use Rattle.router_lines.specs.declared.answer.Answer.{Answer}
use Rattle.router_lines.specs.declared.answer.Answer.TheVariants.{NoFile as CannotUse, NotRead, NotUnderstood}
use Rattle.router_lines.specs.declared.line.Asked.{Asked}
use Rattle.router_runs.specs.Reads.{FileRead}
use Rattle.router_runs.specs.declared.source.Unread.TheVariants.{TooLong, NoFile}

-- ---- one line

-- what is answered of a file, and the shelf then: its bytes are loaded, or it isn't read
abbrev pub IsLoadOf : Shelf → FileRead → Answer → Shelf → Type 0
IsLoadOf old (Ok bytes) answer new = IsLoadedBy old bytes new answer
IsLoadOf old (Err TooLong) answer new = (answer ≡ NotRead TooLongTable) × (new ≡ old)
IsLoadOf old (Err NoFile) answer new = (answer ≡ CannotUse) × (new ≡ old)

-- the same of the file of this name, by what is read of it
abbrev pub Loads : (List ℕ → FileRead → Type 0) → Shelf → List ℕ → Answer → Shelf → Type 0
Loads reads old file answer new = (read : FileRead) × (reads file read × IsLoadOf old read answer new)

-- a line names no generation to forget
abbrev pub DropsNone : List ℕ → Type 0
DropsNone line = (generation : ℕ) → generation < 2 ^ 64 → line ≢ drop_word ++ decimal generation

-- what is answered to a line that isn't too long, and the shelf then: it loads the file that it names, or forgets the generation that it
-- names, or it asks and leaves the shelf
abbrev pub IsAnswered : (List ℕ → FileRead → Type 0) → Shelf → List ℕ → Answer → Shelf → Type 0
IsAnswered reads old line answer new =
    ((file : List ℕ) × ((line ≡ load_word ++ file) × Loads reads old file answer new))
    ⊎ (((generation : ℕ) × ((line ≡ drop_word ++ decimal generation) × IsForgotten old generation new answer))
    ⊎ (((file : List ℕ) → line ≢ load_word ++ file)
    × (DropsNone line × ((asked : Asked) × (IsAskedIn line asked × (IsAnswerTo old asked answer × (new ≡ old)))))))

-- what is answered to the first line of bytes: one that is longer is not understood
abbrev pub IsAnsweredNext : (List ℕ → FileRead → Type 0) → Shelf → List ℕ → Answer → Shelf → Type 0
IsAnsweredNext reads old bytes answer new =
    ((longest_line < length (first_line bytes)) × ((answer ≡ NotUnderstood) × (new ≡ old)))
    ⊎ ((length (first_line bytes) ≤ longest_line) × IsAnswered reads old (first_line bytes) answer new)

-- ---- lines

-- These are the answers to the lines of bytes, in order, each by the shelf as the lines before left it, until these bytes are left.
abbrev pub AreAnswers : (List ℕ → FileRead → Type 0) → List ℕ → Shelf → List Answer → List ℕ → Shelf → Type 0
AreAnswers reads bytes old [] left new = (left ≡ bytes) × (new ≡ old)
AreAnswers reads bytes old (answer ∷ answers) left new =
    (0 < length bytes) × ((mid : Shelf) × (IsAnsweredNext reads old bytes answer mid × AreAnswers reads (after_line bytes) mid answers left new))

-- the line of an answer
abbrev pub printed_text : Answer → List ℕ
printed_text answer = answer_text answer ++ line_feed ∷ []

-- Behind the lines of these bytes that aren't left: they were answered, and just their answers were printed.
abbrev pub HasAnswered : (List ℕ → FileRead → Type 0) → List ℕ → Shelf → Option (List ℕ) → List ℕ → Shelf → Option (List ℕ) → Type 0
HasAnswered reads bytes old before left new after =
    (answers : List Answer) × (AreAnswers reads bytes old answers left new × Appends before after (flat_map printed_text answers))

-- all lines were, where it is known what they were
abbrev pub AnswersAll : (List ℕ → FileRead → Type 0) → Option (List ℕ) → Shelf → Option (List ℕ) → Shelf → Option (List ℕ) → Type 0
AnswersAll reads known old before new after = IfSome known (λ bytes. HasAnswered reads bytes old before [] new after)

-- the first ones were
abbrev pub AnswersSome : (List ℕ → FileRead → Type 0) → Option (List ℕ) → Shelf → Option (List ℕ) → Option (List ℕ) → Type 0
AnswersSome reads known old before after = IfSome known (λ bytes. (left : List ℕ) × ((new : Shelf) × HasAnswered reads bytes old before left new after))

-- the first ones were, and these bytes are left
abbrev pub AnswersSoFar : (List ℕ → FileRead → Type 0) → Option (List ℕ) → Shelf → Option (List ℕ) → Option (List ℕ) → Shelf → Option (List ℕ) → Type 0
AnswersSoFar reads known old before left new after = IfSome known (λ bytes. (behind : List ℕ) × ((left ≡ Some behind) × HasAnswered reads bytes old before behind new after))
