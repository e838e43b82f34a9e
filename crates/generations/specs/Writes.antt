-- What holds of a writer's fields.
use Rattle.std.specs.Prelude.{◌≡◌, [], List, length, drop, Option, Some, None}
use Rattle.left_right.specs.Sides.{view}
use Rattle.left_right.specs.declared.writer.Writer.{Writer}
use Rattle.generations.specs.Beginnings.{Beginning, board_after}
use Rattle.generations.specs.declared.replica.Replica.{Replica}
use Rattle.generations.specs.declared.replica.Update.{Update}
use Rattle.generations.specs.declared.writer.Publisher.{Publisher}
use Rattle.generations.specs.declared.writer.Waiting.{Waiting}
use Rattle.generations.specs.declared.writer.Waiting.TheVariants.{Nothing}
use Rattle.generations.specs.declared.writer.BoardWriter.TheInside.{Inside}
use Rattle.generations.specs.Posts.{Posts}
use Rattle.generations.specs.Waits.{IsWaiting}

-- what was posted, and what comes behind it in all
abbrev pub posts_of : Beginning → Beginning → Posts
posts_of posted all = record { opening = posted.opening; posted = posted.log; kept = drop (length posted.log) all.log }

-- the replica that is shown, and what the writer knows, are what was posted
pub record IsPublished (shown : Replica) (known : Option Beginning) (posted : Beginning) : Type 0 where
  pub history : shown.history ≡ posted
  pub board : shown.board ≡ board_after posted
  pub knows : known ≡ Some posted

-- the writing end is as it was
pub record IsSameWriter {T O V P A S : Type 0} {G : _} (old new : Writer T O V P A S G) : Type 0 where
  -- it knows what it knew
  pub knows : view new.desk.place ≡ view old.desk.place
  -- it shows the copy that it showed
  pub shown : new.desk.shown ≡ old.desk.shown
  -- it has the updates that it had
  pub log : new.log ≡ old.log
  -- of which the spare copy still lacks as many
  pub behind : new.behind ≡ old.behind

-- the publisher shows what was posted
abbrev pub Shows : {R : Type 0} → Publisher R → Beginning → Type 0
Shows p posted = IsPublished p.writer.desk.shown.value (view p.writer.desk.place) posted

-- the updates that it doesn't show yet
abbrev pub pending_of : {R : Type 0} → Publisher R → List Update
pending_of p = drop p.writer.behind p.writer.log.items

-- it shows what was posted, and has what waits
abbrev pub HasWaiting : {R : Type 0} → Publisher R → Beginning → Beginning → Waiting → Type 0
HasWaiting p posted all waiting = Shows p posted × IsWaiting posted all (pending_of p) waiting

-- it shows all; or the last posting waits
abbrev pub HasHandedIn : {R : Type 0} → Publisher R → Beginning → Beginning → Waiting → Type 0
HasHandedIn p posted all Nothing = Shows p all × (pending_of p ≡ [])
HasHandedIn p posted all waiting = HasWaiting p posted all waiting

-- the publisher is there, and has what waits
abbrev pub HasPublisher : {R : Type 0} → Beginning → Beginning → Waiting → Option (Publisher R) → Type 0
HasPublisher posted all waiting None = ⊥
HasPublisher posted all waiting (Some p) = HasWaiting p posted all waiting

-- what a writer's parts keep between two calls
abbrev pub IsWriter : {R : Type 0} → Inside R → Type 0
IsWriter w = (w.head.word.book ≡ w.posted.opening.book) × HasPublisher w.posted w.all w.waiting w.publisher
