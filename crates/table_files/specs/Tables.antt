-- What is put and printed of the tables of a scheme's nodes, and why that ends.
use Rattle.std.specs.Prelude.{◌≡◌, ◌⊎◌, ℕ, ◌<◌, List, [], ◌∷◌, Result, All, length, map, take, sum_by, fold, max}
use Rattle.std.specs.Io.KnownBytes.{Appends}
use Rattle.graph_edits.specs.Edges.{below}
use Rattle.schemes.specs.declared.parts.Parts.{Parts}
use Rattle.router_table.specs.Order.{IsTable}
use Rattle.router_table.specs.Spelling.{table_text}
use Rattle.router_table.specs.Table.{table_at}
use Rattle.command_output.specs.declared.ended.Ended.{Ended}
use Rattle.command_output.specs.declared.ended.Ended.TheVariants.{Done, Refused}
use Rattle.command_output.specs.declared.fault.Fault.{Fault}
use Rattle.command_output.specs.declared.fault.Fault.TheVariants as told
use Rattle.command_output.specs.Lines.{line}
use Rattle.command_output.specs.Printing.{Ends, Known}
use Rattle.command_output.specs.RouteLines.{absent_text, tables_text}
use Rattle.table_files.specs.declared.totals.Totals.{Totals}
use Rattle.table_files.specs.Files.{Put, table_path}

-- ---- files

-- the file of a node's table, of a scheme: the one spelling of the table that the scheme has of the node
abbrev pub file_of : Parts → List ℕ → ℕ → Put
file_of p folder node = record { path = table_path folder node; bytes = table_text (table_at p node) }

-- the files of nodes, in their order
abbrev pub files_of : Parts → List ℕ → List ℕ → List Put
files_of p folder nodes = map (file_of p folder) nodes

-- the nodes whose tables are asked for: those that are named, in their order, or all of n in ascending order where none is
abbrev pub asked_nodes : List ℕ → ℕ → List ℕ
asked_nodes [] n = below n
asked_nodes (node ∷ named) n = node ∷ named

-- the nodes are among the first n
abbrev pub AreThere : ℕ → List ℕ → Type 0
AreThere n nodes = All (λ node. node < n) nodes

-- the tables that a scheme has of nodes are in order
abbrev pub AreInOrder : Parts → List ℕ → Type 0
AreInOrder p nodes = All (λ node. IsTable (table_at p node)) nodes

-- ---- the line

-- how many bytes files have in all, and the greatest of them
abbrev pub bytes_in : List Put → ℕ
bytes_in puts = sum_by (λ put. length put.bytes) puts

abbrev pub greatest_in : List Put → ℕ
greatest_in puts = fold (λ most put. max most (length put.bytes)) 0 puts

-- the totals of files
pub record IsTotalOf (totals : Totals) (puts : List Put) : Type 0 where
  pub tables : totals.tables ≡ length puts
  pub bytes : totals.bytes ≡ bytes_in puts
  pub greatest : totals.greatest ≡ greatest_in puts

-- the text of files that were put
abbrev pub put_text : ℕ → List Put → List ℕ
put_text generation puts = tables_text generation (length puts) (bytes_in puts) (greatest_in puts)

-- ---- the answer, of a scheme

-- The tables of these nodes were put, each is in order, and their line was printed.
pub record HasPutAll (p : Parts) (generation : ℕ) (folder nodes : List ℕ) (put : List Put → Type 0) (ended : Ended) (old new : Known) : Type 0 where
  pub there : AreThere p.nodes nodes
  pub ends : ended ≡ Done
  pub order : AreInOrder p nodes
  pub files : put (files_of p folder nodes)
  pub printed : Appends old new (line (put_text generation (files_of p folder nodes)))

-- A node isn't there: nothing was put, and that was printed.
pub record LacksNode (p : Parts) (nodes : List ℕ) (put : List Put → Type 0) (ended : Ended) (old new : Known) : Type 0 where
  pub lacks : ¬ AreThere p.nodes nodes
  pub ends : ended ≡ Refused
  pub nothing : put []
  pub printed : Appends old new (line absent_text)

-- one of the two, of the nodes that are asked for
abbrev pub AnswersTables : Parts → ℕ → List ℕ → List ℕ → (List Put → Type 0) → Ended → Known → Known → Type 0
AnswersTables p generation folder named put ended old new =
    HasPutAll p generation folder (asked_nodes named p.nodes) put ended old new ⊎ LacksNode p named put ended old new

-- ---- why it ends, of a scheme

-- the faults of the file of a node's table: two parts disagree only where the table isn't in order
abbrev pub MayMiss : Parts → ℕ → Fault → Type 0
MayMiss p node told.Memory = Unit {0}
MayMiss p node told.Internal = ¬ IsTable (table_at p node)
MayMiss p node fault = ⊥

-- the faults that may come while tables are put, and the output's
abbrev pub IsPuttingFault : Fault → Type 0
IsPuttingFault told.TableFile = Unit {0}
IsPuttingFault told.Memory = Unit {0}
IsPuttingFault told.Internal = Unit {0}
IsPuttingFault told.Output = Unit {0}
IsPuttingFault fault = ⊥

-- The first so many of these nodes' tables were put, and then this fault came: two parts disagree only where a table isn't in order, and
-- the output failed only once all were put.
pub record HasPutSome (p : Parts) (folder nodes : List ℕ) (put : List Put → Type 0) (fault : Fault) : Type 0 where
  pub named : IsPuttingFault fault
  pub count : ℕ
  pub files : put (files_of p folder (take count nodes))
  pub internal : fault ≡ told.Internal → ¬ AreInOrder p nodes
  pub output : fault ≡ told.Output → count ≡ length nodes

-- A node isn't there, and that couldn't be printed.
abbrev pub LacksAndFails : Parts → List ℕ → (List Put → Type 0) → Fault → Type 0
LacksAndFails p named put fault = ¬ AreThere p.nodes named × put [] × (fault ≡ told.Output)

-- one of the two, of the nodes that are asked for
abbrev pub EndsPutting : Parts → List ℕ → List ℕ → (List Put → Type 0) → Fault → Type 0
EndsPutting p folder named put fault = HasPutSome p folder (asked_nodes named p.nodes) put fault ⊎ LacksAndFails p named put fault

-- ---- a command that puts tables, of a scheme

-- so ends one that puts the tables of these nodes
abbrev pub EndsPutAll : {W : Type 0} → Parts → List ℕ → List ℕ → (List Put → Type 0)
    → (W → Known) → W → W → Result Ended Fault → Type 0
EndsPutAll p folder nodes put contents old new result =
    Ends (λ ended before after. HasPutAll p p.generation folder nodes put ended before after)
    (λ fault. HasPutSome p folder nodes put fault) contents old new result

-- and one that puts those of the nodes that are asked for
abbrev pub EndsPutAsked : {W : Type 0} → Parts → List ℕ → List ℕ → (List Put → Type 0)
    → (W → Known) → W → W → Result Ended Fault → Type 0
EndsPutAsked p folder named put contents old new result =
    Ends (λ ended before after. AnswersTables p p.generation folder named put ended before after)
    (λ fault. EndsPutting p folder named put fault) contents old new result
