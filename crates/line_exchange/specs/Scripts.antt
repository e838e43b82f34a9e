-- What the lines of a script ask for, and what is told of a service's answers to them.
use Rattle.std.specs.Prelude.{◌≡◌, ℕ, Bool, true, false, List, Option, Some, None, map, slice_get}
use Rattle.value_syntax.specs.declared.line.ScriptLine.{ScriptLine}
use Rattle.value_syntax.specs.declared.line.ScriptLine.TheVariants.{Edit, Route}
use Rattle.live_lines.specs.declared.asked.Asked.{Asked}
use Rattle.live_lines.specs.declared.asked.Asked.TheVariants as asks
use Rattle.live_lines.specs.declared.answer.Answer.{Answer}
use Rattle.live_lines.specs.declared.answer.Answer.TheVariants.{Settled, Way}

-- what a line asks for: a change under the session's next ticket, or a route
abbrev pub line_asked : ScriptLine → Asked
line_asked (Edit session change) = asks.Edit session None change
line_asked (Route from to) = asks.Route from to

-- the line at a place asks for this
pub record IsLineAsked (script : List ScriptLine) (place : ℕ) (asked : Asked) : Type 0 where
  pub line : ScriptLine
  pub at : slice_get script place ≡ Some line
  pub asks : asked ≡ line_asked line

-- the line is a change of a session
abbrev pub is_edit : ScriptLine → Bool
is_edit (Edit session change) = true
is_edit (Route from to) = false

-- the answer is a verdict on a change, or a packet's way; none where it is neither, as no answer to a script's line is
abbrev pub is_verdict : Answer → Option Bool
is_verdict (Settled mark) = Some true
is_verdict (Way way) = Some false
is_verdict other = None

-- verdicts just where the script's lines are edits, and ways of packets where they are routes
abbrev pub AreOfScript : List ScriptLine → List Answer → Type 0
AreOfScript script answers = map is_verdict answers ≡ map (λ line. Some (is_edit line)) script
