-- What the lines of a service are.
use Rattle.std.specs.Prelude.{ℕ, List, Option}
use Rattle.value_syntax.specs.declared.line.ScriptLine.{ScriptLine}

-- those of an input of these bytes, where they are known, or those of a script
pub data Input : Type 0 where
  Bytes : Option (List ℕ) → Input
  Script : List ScriptLine → Input
