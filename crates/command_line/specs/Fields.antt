-- The program's commands, and the fields of each.
use Rattle.std.specs.Prelude.{ℕ, List, [], ◌∷◌, Option, Some, None, codes, find}
use Rattle.std.specs.Str.{bytes_eq}
use Rattle.clap.specs.Walk.{Text}

-- what a command is told: under which name, and from which number to which
pub data Field : Type 0 where
  -- a text
  Word : Text → Field
  -- a number
  Number : Text → ℕ → ℕ → Field
  -- `--ID N`: a number, and the last one here without it
  Usual : Text → ℕ → ℕ → ℕ → Field
  -- `--ID N`: a number, or none
  Optional : Text → ℕ → ℕ → Field
  -- `--ID`: whether it is given
  Flag : Text → Field
  -- `--live --rounds R`: the rounds of a live service, or none of another
  Live : Field
  -- `[--ID NODE]..`: nodes, or none
  Nodes : Text → Field
  -- `FROM TO [FROM TO]..`: one pair of nodes or more
  Pairs : Field
  -- `--words W`: landmark words
  Landmarks : Field
  -- `OP..`: the ops of a change
  Ops : Field

-- each command's name and its fields
abbrev pub table : List (Text × List Field)
table =
    (codes "format", Word (codes "device") ∷ Number (codes "nodes") 0 65535 ∷ Flag (codes "new") ∷ [])
    ∷ (codes "show", Word (codes "device") ∷ [])
    ∷ (codes "edit", Word (codes "device") ∷ Ops ∷ Usual (codes "session") 0 63 0 ∷ Optional (codes "ticket") 1 9223372036854775807 ∷ [])
    ∷ (codes "resume", Word (codes "device") ∷ Number (codes "session") 0 63 ∷ [])
    ∷ (codes "route", Word (codes "device") ∷ Pairs ∷ Landmarks ∷ [])
    ∷ (codes "check", Word (codes "device") ∷ Landmarks ∷ [])
    ∷ (codes "tables", Word (codes "device") ∷ Word (codes "folder") ∷ Landmarks ∷ Nodes (codes "node") ∷ [])
    ∷ (codes "migrate", Word (codes "device") ∷ Word (codes "new") ∷ [])
    ∷ (codes "copy", Word (codes "device") ∷ Word (codes "new") ∷ [])
    ∷ (codes "serve", Word (codes "device") ∷ Landmarks ∷ Usual (codes "editors") 1 64 2 ∷ Usual (codes "forwarders") 1 64 2 ∷ Usual (codes "queue") 1 64 64 ∷ Live ∷ [])
    ∷ []

abbrev pub fields_in : Option (Text × List Field) → List Field
fields_in None = []
fields_in (Some row) = row.1

-- the fields of the command of this name
abbrev pub fields_named : Text → List Field
fields_named name = fields_in (find (λ row. bytes_eq row.0 name) table)
