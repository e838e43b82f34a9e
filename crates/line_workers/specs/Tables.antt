-- What the thread that puts tables answers, and what it puts.
use Rattle.std.specs.Prelude.{◌≡◌, ◌⊎◌, ◌++◌, ◌∷◌, [], ◌<◌, ℕ, List, Option, Some, None, length}
use Rattle.graph_edits.specs.Edges.{below}
use Rattle.schemes.specs.declared.parts.Parts.{Parts}
use Rattle.router_table.specs.Order.{IsTable}
use Rattle.router_table.specs.Table.{table_at}
use Rattle.generations.specs.Beginnings.{Beginning, GoesOn, board_after}
use Rattle.generations.specs.Boards.{latest_of, scheme_of}
use Rattle.forwarders.specs.declared.refused.Refused.TheVariants as refused
use Rattle.forwarders.specs.Answers.{Shelf}
use Rattle.forwarders.specs.Arrivals.{IsPublished}
use Rattle.service_actors.specs.declared.stop_cause.StopCause.{StopCause}
use Rattle.service_actors.specs.declared.stop_cause.StopCause.TheVariants as cause
use Rattle.table_files.specs.declared.totals.Totals.{Totals}
use Rattle.table_files.specs.Files.{HasPut, Put, put_of}
use Rattle.table_files.specs.Tables.{IsTotalOf, file_of, files_of}
use Rattle.live_lines.specs.declared.answer.Answer.{Answer}
use Rattle.live_lines.specs.declared.answer.Answer.TheVariants as answers
use Rattle.line_workers.specs.declared.tabling.Newest.{Newest}
use Rattle.line_workers.specs.declared.tabling.Looked.{Looked}
use Rattle.line_workers.specs.declared.tabling.Looked.TheVariants.{File, Gone, Shut, Halted}
use Rattle.line_workers.specs.declared.tabling.Step.{Step}
use Rattle.line_workers.specs.declared.tabling.Step.TheVariants as step

-- ---- generations

-- the newest generation of a shelf, whose scheme has so many nodes
pub record IsNewestOn (shelf : Shelf) (newest : Newest) : Type 0 where
  pub scheme : Parts
  pub latest : latest_of shelf ≡ Some newest.generation
  pub shown : scheme_of newest.generation shelf ≡ Some scheme
  pub size : scheme.nodes ≡ newest.nodes

-- the board showed it as the newest one, after a beginning of its list between these two
pub record IsNewestSince (from to : Beginning) (newest : Newest) : Type 0 where
  pub seen : Beginning
  pub since : GoesOn from seen
  pub until : GoesOn seen to
  pub is : IsNewestOn (board_after seen).shelf newest

-- the list has this generation, whose scheme has so many nodes
pub record HasGeneration (known : Beginning) (newest : Newest) : Type 0 where
  pub scheme : Parts
  pub published : IsPublished known newest.generation scheme
  pub size : scheme.nodes ≡ newest.nodes

-- the list has a generation of this number, whose scheme has this node
pub record HasNode (known : Beginning) (generation node : ℕ) : Type 0 where
  pub scheme : Parts
  pub published : IsPublished known generation scheme
  pub there : node < scheme.nodes

-- ---- one file

-- what makes all stop that is met at a node's table
abbrev pub IsHalt : Parts → ℕ → StopCause → Type 0
IsHalt p node cause.Memory = Unit {0}
IsHalt p node cause.Internal = ¬ IsTable (table_at p node)
IsHalt p node other = ⊥

-- what comes of a look for the file of a node's table in a scheme
abbrev pub IsLookedIn : Parts → List ℕ → ℕ → Looked → Type 0
IsLookedIn p folder node (File file) = put_of file ≡ file_of p folder node
IsLookedIn p folder node (Halted why) = IsHalt p node why
IsLookedIn p folder node looked = ⊥

-- in the scheme that was found, if one was
abbrev pub IsLookedOn : Option Parts → List ℕ → ℕ → Looked → Type 0
IsLookedOn None folder node looked = looked ≡ Gone
IsLookedOn (Some p) folder node looked = IsLookedIn p folder node looked

-- the same by the one scheme that the list has for a generation; or the generation is gone, once so much was seen
abbrev pub IsLookedBy : Beginning → Beginning → ℕ → List ℕ → ℕ → Looked → Type 0
IsLookedBy known seen generation folder node (File file) = (p : Parts) → IsPublished known generation p → put_of file ≡ file_of p folder node
IsLookedBy known seen generation folder node (Halted why) = (p : Parts) → IsPublished known generation p → IsHalt p node why
IsLookedBy known seen generation folder node Gone = scheme_of generation (board_after seen).shelf ≡ None
IsLookedBy known seen generation folder node Shut = Unit {0}

-- what comes of putting the file of a node's table, by the one scheme that the list has for a generation
abbrev pub IsPutStep : Beginning → Beginning → ℕ → List ℕ → ℕ → List Put → List Put → Step → Type 0
IsPutStep known seen generation folder node old new (step.Put len) =
    (p : Parts) → IsPublished known generation p → (new ≡ old ++ file_of p folder node ∷ []) × (len ≡ length (file_of p folder node).bytes)
IsPutStep known seen generation folder node old new (step.Ended (answers.NotCarried refused.GenerationGone)) = (new ≡ old) × (scheme_of generation (board_after seen).shelf ≡ None)
IsPutStep known seen generation folder node old new (step.Ended answers.TablesFailed) = new ≡ old
IsPutStep known seen generation folder node old new (step.Ended answer) = ⊥
IsPutStep known seen generation folder node old new step.Stopped = new ≡ old

-- ---- all files

-- the files of the first nodes' tables were put, so many, by the one scheme that the list has for a generation
pub record HasPutFirst (known : Beginning) (newest : Newest) (count : ℕ) (folder : List ℕ) (old new : List Put) (told : Totals) : Type 0 where
  pub scheme : Parts
  pub published : IsPublished known newest.generation scheme
  pub size : scheme.nodes ≡ newest.nodes
  pub files : HasPut old new (files_of scheme folder (below count))
  pub totals : IsTotalOf told (files_of scheme folder (below count))

-- some were put
abbrev pub HasPutSome : Beginning → Newest → List ℕ → List Put → List Put → Type 0
HasPutSome known newest folder old new = (count : ℕ) × (totals : Totals) × (count < newest.nodes) × HasPutFirst known newest count folder old new totals

-- What was put where this is answered, or all stop: the files of all nodes' tables, whose totals are told; or the first of them, and the
-- next one couldn't be written, or the generation is gone from the shelf.
abbrev pub IsTabled : Beginning → Newest → List ℕ → List Put → List Put → Option Answer → Type 0
IsTabled known newest folder old new None = HasPutSome known newest folder old new
IsTabled known newest folder old new (Some (answers.Tables generation tables bytes greatest)) =
    (generation ≡ newest.generation) × HasPutFirst known newest newest.nodes folder old new (record { tables = tables; bytes = bytes; greatest = greatest })
IsTabled known newest folder old new (Some answers.TablesFailed) = HasPutSome known newest folder old new
IsTabled known newest folder old new (Some (answers.NotCarried refused.GenerationGone)) = HasPutSome known newest folder old new × (scheme_of newest.generation (board_after known).shelf ≡ None)
IsTabled known newest folder old new (Some answer) = ⊥

-- The same of the generation that was the newest meanwhile. Or all stopped before it was known, and nothing was put.
abbrev pub IsTablesAnswer : Beginning → Beginning → List ℕ → List Put → List Put → Option Answer → Type 0
IsTablesAnswer from to folder old new answer =
    ((newest : Newest) × IsNewestSince from to newest × IsTabled to newest folder old new answer) ⊎ ((answer ≡ None) × HasPut old new [])
