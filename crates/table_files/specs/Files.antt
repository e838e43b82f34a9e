-- Files of routers' tables, where they stand, and what was put.
use Rattle.std.specs.Prelude.{◌≡◌, ℕ, List, [], ◌∷◌, ◌++◌, codes, decimal}
use Rattle.std.specs.String.{string_bytes}
use Rattle.command_output.specs.declared.fault.Fault.{Fault}
use Rattle.command_output.specs.declared.fault.Fault.TheVariants as told
use Rattle.table_files.specs.declared.place.TableFile.{TableFile}

-- a file that was put: its path and its bytes
pub record Put : Type 0 where
  pub path : List ℕ
  pub bytes : List ℕ

-- the file, once it is put
abbrev pub put_of : TableFile → Put
put_of file = record { path = string_bytes file.path; bytes = file.bytes.items }

-- these files were put, in this order, and nothing else
abbrev pub HasPut : List Put → List Put → List Put → Type 0
HasPut old new puts = new ≡ old ++ puts

-- the same of a place of files, by what was put there before and what is put there now
abbrev pub PutBy : {T : Type 0} → (T → List Put) → T → T → List Put → Type 0
PutBy puts old new files = HasPut (puts old) (puts new) files

-- the faults of a file that is to be put
abbrev pub IsPutFault : Fault → Type 0
IsPutFault told.TableFile = Unit {0}
IsPutFault told.Memory = Unit {0}
IsPutFault fault = ⊥

-- the name of the file of a node's table
abbrev pub table_name : ℕ → List ℕ
table_name node = decimal node ++ codes ".table"

-- its path in a folder; a folder of no name is the one where the program runs
abbrev pub table_path : List ℕ → ℕ → List ℕ
table_path [] node = table_name node
table_path (c ∷ folder) node = (c ∷ folder) ++ (47 ∷ table_name node)

-- the path by which a file is written first
abbrev pub beside_path : List ℕ → List ℕ
beside_path path = path ++ codes ".new"
