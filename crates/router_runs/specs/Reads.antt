-- What is read of a file.
use Rattle.std.specs.Prelude.{ℕ, List, Result, Ok, Err}
use Rattle.std.specs.declared.vec.Vec.{Vec}
use Rattle.router_runs.specs.declared.source.Unread.{Unread}

-- its bytes, or why they aren't read
abbrev pub FileRead : Type 0
FileRead = Result (List ℕ) Unread

-- the bytes of a vector
abbrev pub read_of : {A : Type 0} → Result (Vec ℕ A) Unread → FileRead
read_of (Ok bytes) = Ok bytes.items
read_of (Err unread) = Err unread
