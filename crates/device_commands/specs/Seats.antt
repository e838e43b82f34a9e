-- An editor and a committer at their seats, and what the editor finds behind one round.
use Rattle.std.specs.Prelude.{◌≡◌, ◌+◌, ◌++◌, ◌∷◌, [], ℕ, List, Option, MatchOption, false}
use Rattle.graph_edits.specs.declared.edits.Op.{Op}
use Rattle.checkpoint.specs.StoreWords.{is_down}
use Rattle.generations.specs.Boards.{board_of}
use Rattle.generations.specs.Knowledges.{all_seen}
use Rattle.generations.specs.Posts.{Posts}
use Rattle.generations.specs.declared.posting.Mark.{Mark}
use Rattle.generations.specs.declared.posting.Verdict.{Verdict}
use Rattle.intake.specs.Editors.{Editing, IsSameEditor, editor_at}
use Rattle.intake.specs.Ends.{Taking}
use Rattle.intake.specs.declared.outcome.Standing.TheVariants.{Settled}
use Rattle.intake.specs.Outcomes.{standing_on}
use Rattle.intake.specs.Turns.{last_asked, request_of}
use Rattle.intake.specs.declared.outcome.SubmitRefused.{SubmitRefused}
use Rattle.committer.specs.declared.committer.Committer.{Committer}
use Rattle.committer.specs.declared.refused.RoundRefused.{RoundRefused}
use Rattle.committer.specs.declared.refused.RoundRefused.TheVariants as why
use Rattle.committer.specs.CommitterWords.{got_of, held_of, posts_of, queue_of, store_of, taker_of}
use Rattle.committer.specs.Outboxes.{Outgoing}
use Rattle.command_output.specs.declared.fault.Fault.{Fault}
use Rattle.command_output.specs.declared.fault.Fault.TheVariants.{Device, Memory, Worn}

-- The writer of a new board, the end that takes of a new queue, and the editor of one session at both. No other session has an editor.
pub record AreSeats (session : ℕ) (begins : List ℕ) (count : ℕ) (writer : Posts) (taker : Taking) (editor : Editing) : Type 0 where
  pub opening : (writer.opening.starts ≡ begins) × (writer.opening.count ≡ count)
  pub posts : (writer.posted ≡ []) × (writer.kept ≡ [])
  pub starts : taker.starts ≡ begins
  pub got : taker.got ≡ []
  pub alone : (taker.first ≡ session) × (taker.made ≡ session + 1)
  pub editor_is : editor ≡ editor_at taker.queue begins session (all_seen (record { opening = writer.opening; log = [] }))

-- An editor submitted a change, or that was refused.
pub record HasSubmitted (old : Editing) (ticket : ℕ) (change : List Op) (new : Editing) (refused : Option SubmitRefused) : Type 0 where
  pub same : IsSameEditor old new
  pub known : new.known.opening ≡ old.known.opening
  pub put : MatchOption refused (new.put ≡ old.put ++ request_of old.session ticket change ∷ []) (λ _. new.put ≡ old.put)

-- A committer at its beginning, and the one editor at its queue and its board.
pub record IsSeatOf {D R : Type 0} {V : _} (c : Committer D R V) (editor : Editing) : Type 0 where
  pub up : is_down (store_of c) ≡ false
  pub held : held_of c ≡ []
  pub got : got_of c ≡ []
  pub posted : (posts_of c).posted ≡ []
  pub due : (posts_of c).due ≡ []
  pub alone : ((taker_of c).first ≡ editor.session) × ((taker_of c).made ≡ editor.session + 1)
  pub queue : editor.queue ≡ queue_of c
  pub board : editor.known.opening ≡ (posts_of c).opening

-- a board with what is posted, and nothing else, tells an editor this verdict on its last ticket
abbrev pub IsToldBy : Outgoing → Editing → Verdict → Type 0
IsToldBy posts e verdict = (mark : Mark) × (standing_on (board_of posts.opening.starts posts.opening.count posts.posted) e.session (last_asked e.put) ≡ Settled mark) × (verdict ≡ mark.verdict)

-- what is told where a round is refused
abbrev pub round_fault : RoundRefused → Fault
round_fault why.Device = Device
round_fault why.Down = Device
round_fault why.Memory = Memory
round_fault why.Board = Memory
round_fault why.Worn = Worn
