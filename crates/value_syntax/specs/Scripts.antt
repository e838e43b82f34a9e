-- How a script is written.
use Rattle.std.specs.Prelude.{ℕ, ◌==◌, ◌<◌, ◌≤◌, ◌^◌, ◌≡◌, List, [], ◌∷◌, All, length, map, codes, decimal, cond}
use Rattle.std.specs.List.{slice_split}
use Rattle.graph_edits.specs.Edges.{most_ops}
use Rattle.graph_edits.specs.declared.edits.Op.{Op}
use Rattle.value_syntax.specs.OpText.{Fits, op_text}
use Rattle.value_syntax.specs.declared.line.ScriptLine.{ScriptLine}
use Rattle.value_syntax.specs.declared.line.ScriptLine.TheVariants.{Edit, Route}

-- the words of a line, cut at each blank
abbrev pub words_of : List ℕ → List (List ℕ)
words_of text = slice_split (λ b. b == 32) text

-- without the last part, where it is empty
abbrev pub without_empty_last : List (List ℕ) → List (List ℕ)
without_empty_last [] = []
without_empty_last (part ∷ []) = cond (length part == 0) [] (part ∷ [])
without_empty_last (part ∷ next ∷ parts) = part ∷ without_empty_last (next ∷ parts)

-- the lines of a text, cut at each line feed: behind the last feed there may be nothing
abbrev pub lines_of : List ℕ → List (List ℕ)
lines_of text = without_empty_last (slice_split (λ b. b == 10) text)

-- the words of a change: its session and its ops
abbrev pub edit_words : ℕ → List Op → List (List ℕ)
edit_words session change = decimal session ∷ map op_text change

-- the words of a packet: its ends
abbrev pub route_words : ℕ → ℕ → List (List ℕ)
route_words from to = codes "route" ∷ decimal from ∷ decimal to ∷ []

-- the words of a line
abbrev pub line_words : ScriptLine → List (List ℕ)
line_words (Edit session change) = edit_words session change
line_words (Route from to) = route_words from to

-- a script, line by line
abbrev pub Script : Type 0
Script = List ScriptLine

-- the text is this line
abbrev pub IsLine : List ℕ → ScriptLine → Type 0
IsLine text line = words_of text ≡ line_words line

-- the text is written so
abbrev pub IsWritten : List ℕ → List ScriptLine → Type 0
IsWritten text script = map words_of (lines_of text) ≡ map line_words script

-- a change has from 1 to so many ops, whose numbers fit their types
abbrev pub IsChange : List Op → Type 0
IsChange ops = (1 ≤ length ops) × (length ops ≤ most_ops) × All Fits ops

-- the words are a change of a session that has an editor
abbrev pub IsEdit : ℕ → ℕ × List Op → List (List ℕ) → Type 0
IsEdit editors edit words = (words ≡ edit_words edit.0 edit.1) × (edit.0 < editors) × IsChange edit.1

-- the session has an editor
abbrev pub IsOfSession : ℕ → ScriptLine → Type 0
IsOfSession editors (Edit session change) = session < editors
IsOfSession editors (Route from to) = Unit {0}

-- each session has an editor
abbrev pub AreOfSessions : ℕ → List ScriptLine → Type 0
AreOfSessions editors script = All (IsOfSession editors) script

-- the session has an editor, there are ops enough and not too many, and the numbers fit their types
abbrev pub MayStand : ℕ → ScriptLine → Type 0
MayStand editors (Edit session change) = (session < editors) × IsChange change
MayStand editors (Route from to) = (from < 2 ^ 16) × (to < 2 ^ 16)

-- each line of the script is such
abbrev pub AreFit : ℕ → Script → Type 0
AreFit editors script = All (MayStand editors) script
