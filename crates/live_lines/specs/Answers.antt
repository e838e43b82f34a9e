-- What a live service answers to a line, and the text of an answer.
use Rattle.std.specs.Prelude.{◌≡◌, ◌≢◌, ℕ, Option, Some, None, List, [], ◌∷◌, ◌++◌, codes, decimal}
use Rattle.command_output.specs.Lines.{accepted_text, refused_text as refused_change, ticket_text}
use Rattle.command_output.specs.RouteLines.{absent_text, route_text, tables_text, unreachable_text}
use Rattle.generations.specs.declared.posting.Verdict.{Verdict}
use Rattle.generations.specs.declared.posting.Verdict.TheVariants.{Accepted, Refused}
use Rattle.forwarders.specs.declared.refused.Refused as forwarder
use Rattle.forwarders.specs.declared.refused.Refused.TheVariants as refused
use Rattle.packet_ways.specs.declared.carried.Carried.{Carried}
use Rattle.packet_ways.specs.declared.carried.Carried.TheVariants.{Along, Unreachable}
use Rattle.packet_ways.specs.declared.carried.Carried.TheVariants as ways
use Rattle.packet_bytes.specs.Texts.{address_line, move_text, packet_line, unread_text}
use Rattle.new_devices.specs.Events.{backup_refused_text as no_backup_text}
use Rattle.live_lines.specs.Metrics.{metrics_text}
use Rattle.live_lines.specs.declared.asked.Asked.{Asked}
use Rattle.live_lines.specs.declared.asked.Asked.TheVariants as asks
use Rattle.live_lines.specs.declared.answer.Answer.{Answer}
use Rattle.live_lines.specs.declared.answer.Answer.TheVariants.{Settled, AlreadyIn, RefusedBefore, OldTicket, Resumed, Way, NoNode, Told, Sent, Moved, NotCarried, Unread, State, Waited, Tables, TablesFailed, BackedUp, NoBackup, Metrics, NoSession, NotOps, NotUnderstood}

-- ---- which answers are of a line

-- an answer's ticket is the one that was named, where one was
abbrev pub IsOfTicket : Option ℕ → ℕ → Type 0
IsOfTicket None ticket = Unit {0}
IsOfTicket (Some named) ticket = ticket ≡ named

-- the nodes begin with the one and end with the other
pub record Join (from to : ℕ) (nodes : List ℕ) : Type 0 where
  pub starts : (rest : List ℕ) × (nodes ≡ from ∷ rest)
  pub ends : (before : List ℕ) × (nodes ≡ before ++ to ∷ [])

-- a way from a node to a node, where there is one
abbrev pub Leads : ℕ → ℕ → Carried → Type 0
Leads from to (Along generation nodes length) = Join from to nodes.items
Leads from to other = Unit {0}

-- the generation of the packet, the address or the tables is on no shelf any more
abbrev pub generation_gone : Answer
generation_gone = NotCarried refused.GenerationGone

-- the answer is one to what is asked for; a line that names no ticket gets a new one, so only a verdict is of it
abbrev pub FitsAsked : Asked → Answer → Type 0
FitsAsked (asks.Edit session ticket change) (Settled mark) = (mark.session ≡ session) × IsOfTicket ticket mark.ticket
FitsAsked (asks.Edit session ticket change) (AlreadyIn s t) = (s ≡ session) × (ticket ≡ Some t)
FitsAsked (asks.Edit session ticket change) (RefusedBefore s t op code) = (s ≡ session) × (ticket ≡ Some t)
FitsAsked (asks.Edit session ticket change) (OldTicket s t) = (s ≡ session) × (ticket ≡ Some t)
FitsAsked (asks.Resume session) (Resumed s t) = s ≡ session
FitsAsked (asks.Route from to) (Way way) = Leads from to way
FitsAsked (asks.Address node) (Told address) = address.node ≡ node
FitsAsked (asks.Address node) NoNode = Unit {0}
FitsAsked (asks.Launch from to) (Sent packet) = Unit {0}
FitsAsked (asks.Launch from to) (NotCarried why) = why ≢ refused.BoardShut
FitsAsked (asks.Hop at packet) (Moved moved) = Unit {0}
FitsAsked (asks.Hop at packet) (NotCarried why) = why ≢ refused.BoardShut
FitsAsked asks.State (State count generation queue) = Unit {0}
FitsAsked asks.Wait (Waited generation) = Unit {0}
FitsAsked (asks.Tables folder) (Tables generation tables bytes greatest) = Unit {0}
FitsAsked (asks.Tables folder) (NotCarried why) = why ≡ refused.GenerationGone
FitsAsked (asks.Tables folder) TablesFailed = Unit {0}
FitsAsked (asks.Backup file) (BackedUp count) = Unit {0}
FitsAsked (asks.Backup file) (NoBackup why) = Unit {0}
FitsAsked asks.Metrics (Metrics metrics) = Unit {0}
FitsAsked (asks.Unread why) (Unread told) = told ≡ why
FitsAsked asks.NoSession NoSession = Unit {0}
FitsAsked asks.NotOps NotOps = Unit {0}
FitsAsked asks.NotUnderstood NotUnderstood = Unit {0}
FitsAsked asked answer = ⊥

-- ---- texts

-- what became of an edit
abbrev pub verdict_text : Verdict → List ℕ
verdict_text (Accepted count) = accepted_text count
verdict_text (Refused op code) = refused_change op code

-- a session and a ticket before what is said of them
abbrev pub of_edit : ℕ → ℕ → List ℕ → List ℕ
of_edit session ticket said = decimal session ++ (32 ∷ (decimal ticket ++ (32 ∷ said)))

-- which way a packet goes
abbrev pub way_text : Carried → List ℕ
way_text (Along generation nodes length) = route_text generation nodes.items length
way_text (Unreachable generation) = unreachable_text generation
way_text ways.NoNode = absent_text

-- why a packet isn't carried; no answer tells that the board is shut
abbrev pub not_carried_text : forwarder.Refused → List ℕ
not_carried_text refused.BoardShut = codes "board shut"
not_carried_text refused.GenerationGone = codes "generation gone"
not_carried_text refused.NoNode = codes "no node"
not_carried_text refused.Unreachable = codes "unreachable"
not_carried_text refused.Stray = codes "stray"
not_carried_text refused.Spent = codes "spent"

-- how much the service has done, and how much waits
abbrev pub state_text : ℕ → ℕ → ℕ → List ℕ
state_text count generation queue = codes "count=" ++ (decimal count ++ (codes " generation=" ++ (decimal generation ++ (codes " queue=" ++ decimal queue))))

-- the line of an answer
abbrev pub answer_text : Answer → List ℕ
answer_text (Settled mark) = of_edit mark.session mark.ticket (verdict_text mark.verdict)
answer_text (AlreadyIn session ticket) = of_edit session ticket (codes "already in")
answer_text (RefusedBefore session ticket op code) = of_edit session ticket (refused_change op code)
answer_text (OldTicket session ticket) = of_edit session ticket (codes "old ticket")
answer_text (Resumed session ticket) = ticket_text session ticket
answer_text (Way way) = way_text way
answer_text NoNode = absent_text
answer_text (Told a) = address_line a
answer_text (Sent k) = packet_line k
answer_text (Moved m) = move_text m
answer_text (NotCarried why) = not_carried_text why
answer_text (Unread e) = unread_text e
answer_text (State count generation queue) = state_text count generation queue
answer_text (Waited generation) = codes "generation=" ++ decimal generation
answer_text (Tables generation tables bytes greatest) = tables_text generation tables bytes greatest
answer_text TablesFailed = codes "table file cannot be written"
answer_text (BackedUp count) = codes "count=" ++ decimal count
answer_text (NoBackup why) = no_backup_text why
answer_text (Metrics metrics) = metrics_text metrics.value
answer_text NoSession = codes "no session"
answer_text NotOps = codes "op not understood"
answer_text NotUnderstood = codes "not understood"

-- the line of an answer to a script: it tells no session and no ticket
abbrev pub script_text : Answer → List ℕ
script_text (Settled mark) = verdict_text mark.verdict
script_text answer = answer_text answer
