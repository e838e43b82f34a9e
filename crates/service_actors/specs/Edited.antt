-- What an editor does with a change.
use Rattle.std.specs.Prelude.{◌≡◌, ◌++◌, ◌∷◌, [], ℕ, List}
use Rattle.std.specs.List.{Contains}
use Rattle.graph_edits.specs.declared.edits.Op.{Op}
use Rattle.generations.specs.declared.posting.Mark.{Mark}
use Rattle.generations.specs.Notices.{marks_in}
use Rattle.generations.specs.Beginnings.{Beginning, GoesOn}
use Rattle.intake.specs.Editors.{Editing}
use Rattle.intake.specs.Turns.{last_or_start}

-- the mark is one of this session's, and stands in what is known of the board's list
abbrev pub IsTold : ℕ → Beginning → Mark → Type 0
IsTold session known mark = (mark.session ≡ session) × Contains (marks_in known.log) mark

-- the mark is that of the last change that was submitted, and stands in what is known of the board's list
abbrev pub IsLastMark : Editing → Beginning → Mark → Type 0
IsLastMark e known mark = IsTold e.session known mark × (mark.ticket ≡ last_or_start e.start e.put)

-- it is the same editor, which may know more
pub record IsSameEditor (old new : Editing) : Type 0 where
  pub queue : new.queue ≡ old.queue
  pub session : new.session ≡ old.session
  pub start : new.start ≡ old.start
  pub known : GoesOn old.known new.known

-- one change was submitted, and has this mark
pub record IsEdited (old : Editing) (change : List Op) (new : Editing) (mark : Mark) : Type 0 where
  pub put : new.put ≡ old.put ++ record { session = old.session; ticket = mark.ticket; change = change } ∷ []
  pub told : IsTold old.session new.known mark
