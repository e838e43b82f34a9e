-- What a writer has posted, and what it keeps.
use Rattle.std.specs.Prelude.{List, ◌++◌, ◌∷◌, []}
use Rattle.generations.specs.declared.posting.Notice.{Notice}
use Rattle.generations.specs.Beginnings.{Opening}

-- what contracts see of a writer: its board, what it has posted, and what it keeps
pub record Posts : Type 0 where
  pub opening : Opening
  pub posted : List Notice
  -- at most one notice, which no reader sees
  pub kept : List Notice

-- the same with one notice more
abbrev pub with_posted : Posts → Notice → Posts
with_posted w p = record { opening = w.opening; posted = w.posted ++ p ∷ []; kept = [] }

-- the same with one notice kept
abbrev pub with_kept : Posts → Notice → Posts
with_kept w p = record { opening = w.opening; posted = w.posted; kept = p ∷ [] }

-- the same with what was kept posted
abbrev pub all_posted : Posts → Posts
all_posted w = record { opening = w.opening; posted = w.posted ++ w.kept; kept = [] }
