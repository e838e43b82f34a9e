-- A beginning of the one list of notices of a board.
use Rattle.std.specs.Prelude.{ℕ, ◌≡◌, ◌++◌, ◌∷◌, [], List}
use mathlib.Core.List.{IsPrefix}
use Rattle.logbook.specs.Pages.{Book}
use Rattle.generations.specs.declared.posting.Notice.{Notice}
use Rattle.generations.specs.Boards.{BoardState, board_of}

-- which board it is: its book, where each session's tickets begin, and the count behind which those of its marks begin
pub record Opening : Type 0 where
  pub book : Book
  pub starts : List ℕ
  pub count : ℕ

-- a beginning of the list of that board
pub record Beginning : Type 0 where
  pub opening : Opening
  pub log : List Notice

-- what the board holds after it
abbrev pub board_after : Beginning → BoardState
board_after b = board_of b.opening.starts b.opening.count b.log

-- b goes on from a, on the same board
abbrev pub GoesOn : Beginning → Beginning → Type 0
GoesOn a b = (b.opening ≡ a.opening) × IsPrefix a.log b.log

-- b is a and one notice more
abbrev pub Extends : Beginning → Notice → Beginning → Type 0
Extends a p b = (b.opening ≡ a.opening) × (b.log ≡ a.log ++ p ∷ [])
