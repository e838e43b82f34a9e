-- The lines of a report.
use Rattle.std.specs.Prelude.{ℕ, ◌==◌, Bool, true, false, not, List, [], ◌∷◌, ◌++◌, Option, None, Some, codes, cond, decimal, drop, length, take}
use Rattle.std.specs.List.{enumerate_from, filter, flat_map}
use Rattle.std.specs.FinMap.{len}
use Rattle.command_output.specs.Lines.{accepted_text, line, refused_text}
use Rattle.event_model.specs.declared.reply.Reply.{Reply}
use Rattle.event_model.specs.declared.reply.Reply.TheVariants as replies
use Rattle.forwarders.specs.declared.refused.Refused.TheVariants as routes
use Rattle.group_commit.specs.declared.refused.DeskRefused.TheVariants as desks
use Rattle.intake.specs.declared.outcome.Outcome.TheVariants as outcomes
use Rattle.intake.specs.declared.outcome.SubmitRefused.TheVariants as submits
use Rattle.layout_reader.specs.declared.refusals.OpenRefused.{OpenRefused}
use Rattle.layout_reader.specs.declared.refusals.OpenRefused.TheVariants as opens
use Rattle.life_chain.specs.declared.report.LifeReport.{LifeReport}
use Rattle.life_chain.specs.declared.report.LivesReport.{LivesReport}

-- a reply
abbrev pub words_of : Reply → List ℕ
words_of (replies.Submitted ticket) = codes "submitted ticket=" ++ decimal ticket
-- why a change isn't let in
words_of (replies.NotSubmitted submits.BoardShut) = codes "refused board shut"
words_of (replies.NotSubmitted submits.Busy) = codes "refused busy"
words_of (replies.NotSubmitted submits.AlreadyIn) = codes "refused already in"
words_of (replies.NotSubmitted submits.OldTicket) = codes "refused old ticket"
words_of (replies.NotSubmitted submits.Worn) = codes "refused worn"
words_of (replies.NotSubmitted submits.QueueFull) = codes "refused queue full"
-- what became of a session's last change
words_of (replies.Looked outcomes.Nothing) = codes "looked nothing"
words_of (replies.Looked (outcomes.Accepted ticket count)) = codes "looked " ++ accepted_text count
words_of (replies.Looked (outcomes.Refused ticket op code)) = codes "looked " ++ refused_text op code
words_of (replies.Looked outcomes.Down) = codes "looked down"
words_of (replies.Looked outcomes.Waiting) = codes "looked pending"
words_of (replies.Taken session ticket) = codes "taken session=" ++ (decimal session ++ (codes " ticket=" ++ decimal ticket))
words_of (replies.Committed accepted) = codes "committed accepted=" ++ decimal accepted
-- why a group isn't committed
words_of (replies.NotCommitted desks.Device) = codes "not committed device"
words_of (replies.NotCommitted desks.Down) = codes "not committed down"
words_of (replies.NotCommitted desks.Memory) = codes "not committed memory"
words_of (replies.NotCommitted desks.Worn) = codes "not committed worn"
words_of replies.Posted = codes "posted"
words_of (replies.Rebuilt generation) = codes "rebuilt generation=" ++ decimal generation
words_of replies.NotRebuilt = codes "not rebuilt"
words_of (replies.Launched packet) = codes "launched packet=" ++ decimal packet
-- why a packet isn't sent, or stays where it is
words_of (replies.NotRouted routes.BoardShut) = codes "board shut"
words_of (replies.NotRouted routes.GenerationGone) = codes "generation gone"
words_of (replies.NotRouted routes.NoNode) = codes "no node"
words_of (replies.NotRouted routes.Unreachable) = codes "unreachable"
words_of (replies.NotRouted routes.Stray) = codes "stray packet"
words_of (replies.NotRouted routes.Spent) = codes "no hop left"
words_of (replies.Forwarded port next) = codes "forwarded port=" ++ (decimal port ++ (codes " next=" ++ decimal next))
words_of replies.Delivered = codes "delivered"
words_of replies.Idle = codes "idle"
words_of replies.NoActor = codes "no actor"
words_of replies.Memory = codes "out of memory"

-- why a life couldn't open
abbrev pub not_opened_text : OpenRefused → List ℕ
not_opened_text opens.NotFormatted = codes "not opened not formatted"
not_opened_text opens.BadVersion = codes "not opened layout not known"
not_opened_text opens.Damaged = codes "not opened damaged"
not_opened_text opens.Device = codes "not opened device"
not_opened_text opens.Memory = codes "not opened memory"

-- the sessions that have a last ticket, each with it
abbrev pub held_tickets : List ℕ → List (ℕ × ℕ)
held_tickets tickets = filter (λ held. not (held.1 == 0)) (enumerate_from 0 tickets)

-- a session and its last ticket, behind a blank
abbrev pub held_text : ℕ × ℕ → List ℕ
held_text held = 32 ∷ (decimal held.0 ++ 58 ∷ decimal held.1)

-- so many changes and edges were found, and so many sessions with a last ticket, these
abbrev pub found_line : ℕ → ℕ → ℕ → List (ℕ × ℕ) → List ℕ
found_line count edges tickets held =
    codes "opened count=" ++ (decimal count
    ++ (codes " edges=" ++ (decimal edges
    ++ (codes " tickets=" ++ (decimal tickets ++ (flat_map held_text held ++ 10 ∷ []))))))

-- what a life opened to
abbrev pub opened_line : LifeReport → List ℕ
opened_line life = found_line life.count (len life.graph.edges) (length (held_tickets life.tickets)) (held_tickets life.tickets)

abbrev pub reply_line : Reply → List ℕ
reply_line reply = line (words_of reply)

-- so many requests were taken, and so many of them settled, and there were so many postings
abbrev pub crashed_line : ℕ → ℕ → ℕ → List ℕ
crashed_line taken done posted = codes "crash taken=" ++ (decimal taken ++ (codes " settled=" ++ (decimal done ++ (codes " postings=" ++ (decimal posted ++ 10 ∷ [])))))

-- what stood when the device of a life crashed
abbrev pub crash_line : LifeReport → List ℕ
crash_line life = crashed_line life.stored.taken life.stored.done (length life.stored.postings.items)

-- what a life was answered: its rebuild, the reply to each event, and its crash
abbrev pub answered_lines : LifeReport → List ℕ
answered_lines life = reply_line life.rebuilt ++ (flat_map reply_line life.replies.items ++ crash_line life)

-- what a life opened to, and, where all is told of it, what it was answered
abbrev pub life_lines : Bool → LifeReport → List ℕ
life_lines is_whole life = opened_line life ++ cond is_whole (answered_lines life) []

abbrev pub not_opened : Option OpenRefused → List ℕ
not_opened None = []
not_opened (Some refused) = line (not_opened_text refused)

-- all lines of the first `whole` lives, of those behind them what they opened to, and why the last couldn't open
abbrev pub report_text : ℕ → LivesReport → List ℕ
report_text whole report =
    flat_map (life_lines true) (take whole report.lives.items)
    ++ (flat_map (life_lines false) (drop whole report.lives.items)
    ++ not_opened report.refused)
