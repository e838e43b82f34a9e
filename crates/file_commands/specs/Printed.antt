-- What a command prints.
use Rattle.std.specs.Prelude.{◌≡◌, ℕ, List, Option, IsTrue}
use Rattle.std.specs.FinMap.{len}
use Rattle.std.specs.Io.KnownBytes.{Appends}
use Rattle.disk_trait.specs.declared.disk.Disk.{Ghosts}
use Rattle.disk_trait.specs.Disk.{DiskView}
use Rattle.graph_edits.specs.Edges.{Network}
use Rattle.graph_edits.specs.declared.edits.Op.{Op}
use Rattle.layout_2.specs.State.{State, first_state}
use Rattle.layout_2.specs.Standing.{KeepsThrough}
use Rattle.requests.specs.Tickets.{last_of}
use Rattle.generations.specs.declared.posting.Verdict.{Verdict}
use Rattle.generations.specs.declared.posting.Verdict.TheVariants.{Accepted, Refused}
use Rattle.migrate.specs.Moved.{HasMoved}
use Rattle.migrate.specs.declared.moving.Moved.{Moved}
use Rattle.schemes.specs.declared.parts.Parts.{Parts}
use Rattle.scheme_builds.specs.declared.queries.Checked.{Checked}
use Rattle.scheme_builds.specs.declared.queries.Route.{Route as Found}
use Rattle.command_output.specs.Printing.{Known}
use Rattle.command_output.specs.declared.ended.Ended.{Ended}
use Rattle.command_output.specs.declared.ended.Ended.TheVariants.{Done, Refused as EndedRefused}
use Rattle.command_output.specs.Lines.{accepted_text, formatted_text, line, listing_text, migrated_text, refused_text, ticket_text}
use Rattle.command_line.specs.declared.task.Task.{Task}
use Rattle.command_line.specs.declared.task.Task.TheVariants.{Format, Show, Edit, Resume, Route, Check, Migrate, Copy, Serve, Tables}
use Rattle.device_commands.specs.Answer.{IsNew, state_after, verdict_of}
use Rattle.file_commands.specs.Copies.{HasCopied, IsTotalOf, copied_text}
use Rattle.device_commands.specs.Openings.{OfContent}
use Rattle.file_commands.specs.declared.copying.Copied.{Copied}
use Rattle.file_commands.specs.declared.devices.Access.TheVariants.{ToRead}
use Rattle.value_syntax.specs.declared.words.LandmarkWords.{LandmarkWords}
use Rattle.file_commands.specs.declared.on_device.Transfer.{Transfer}
use Rattle.file_commands.specs.declared.on_device.Transfer.TheVariants as how
use Rattle.file_commands.specs.Devices.{Doing, IsAnswerOf, OfOpened, OfTwo}
use Rattle.file_commands.specs.Endings.{IsOnlyRead, Leaves, LeavesTwo, access_of, device_of}
use Rattle.table_files.specs.Files.{Put}
use Rattle.table_files.specs.Tables.{AnswersTables}
use Rattle.file_commands.specs.SchemeAnswers.{AreRoutesOf, IsCheckOf, IsSchemeBy, checks_text, ended_after, ended_at, routes_text}

-- how a command ends that answers this verdict
abbrev pub ended_by : Verdict → Ended
ended_by (Accepted count) = Done
ended_by (Refused op code) = EndedRefused

-- what became of a change
abbrev pub verdict_text : Verdict → List ℕ
verdict_text (Accepted count) = accepted_text count
verdict_text (Refused op code) = refused_text op code

-- ---- what a command on a device has printed that ends so, and what it leaves of the device

-- `format`: how many nodes, and a device that was formatted for them
abbrev pub PrintsFormatted : ℕ → DiskView → DiskView → Ended → Known → Known → Type 0
PrintsFormatted nodes disk left ended old new =
    (ended ≡ Done) × Appends old new (line (formatted_text nodes)) × (IsTrue disk.keeps_model → KeepsThrough left (first_state nodes))

-- `show`: the listing of the device's state
abbrev pub PrintsListing : DiskView → DiskView → Ended → Known → Known → Type 0
PrintsListing disk left ended old new = IsAnswerOf disk (λ state. (ended ≡ Done) × Appends old new (listing_text state.count state.graph))

-- `edit`: what becomes of the change in that state, to which its ticket is new, and a device that stands for the state behind it
abbrev pub PrintsVerdict : ℕ → Option ℕ → List Op → DiskView → DiskView → Ended → Known → Known → Type 0
PrintsVerdict session ticket change disk left ended old new =
    IsAnswerOf disk (λ state. IsNew state session ticket × (ended ≡ ended_by (verdict_of state change)) × Appends old new (line (verdict_text (verdict_of state change))))
    × OfContent disk (λ state. KeepsThrough left (state_after state session ticket change))

-- `resume`: the last ticket of a session in that state
abbrev pub PrintsTicket : ℕ → DiskView → DiskView → Ended → Known → Known → Type 0
PrintsTicket session disk left ended old new =
    IsAnswerOf disk (λ state. (ended ≡ Done) × Appends old new (line (ticket_text session (last_of state.tickets session))))

-- `route`: for each pair of nodes what becomes of a packet in that state's graph
abbrev pub PrintsRoutes : List (ℕ × ℕ) → LandmarkWords → DiskView → DiskView → Ended → Known → Known → Type 0
PrintsRoutes pairs words disk left ended old new =
    IsAnswerOf disk (λ state. (routes : List Found) × AreRoutesOf state.graph words pairs routes × (ended ≡ ended_after routes) × Appends old new (routes_text state.count routes))

-- `check`: what the checks say of a scheme of that graph
abbrev pub PrintsCheck : LandmarkWords → DiskView → DiskView → Ended → Known → Known → Type 0
PrintsCheck words disk left ended old new =
    IsAnswerOf disk (λ state. (checked : Checked) × IsCheckOf state.graph state.count words checked × (ended ≡ ended_at checked.fault)
    × Appends old new (line (checks_text state.count checked.landmarks checked.fault)))

-- `migrate`: how much the old device held, and a new one that holds the same
abbrev pub PrintsMoved : DiskView → DiskView → DiskView → Ended → Known → Known → Type 0
PrintsMoved from to left ended old new = (ended ≡ Done) × (moved : Moved) × ((graph : Network) × (moved.edges ≡ len graph.edges)) × Appends old new (line (migrated_text moved.count moved.edges))
    × (IsTrue from.keeps_model → IsTrue to.keeps_model → HasMoved moved from.content left)

-- `copy`: how much the old device holds, and a new one that holds the same, its tickets too
abbrev pub PrintsCopied : DiskView → DiskView → DiskView → Ended → Known → Known → Type 0
PrintsCopied from to left ended old new = (ended ≡ Done) × (copied : Copied) × ((state : State) × IsTotalOf state copied) × Appends old new (line (copied_text copied.count copied.edges))
    × (IsTrue from.keeps_model → IsTrue to.keeps_model → HasCopied copied from.content left)

-- what a task of two devices has printed, which are open, and what it leaves of the new one
abbrev pub PrintsTransfer : Transfer → DiskView → DiskView → DiskView → Ended → Known → Known → Type 0
PrintsTransfer how.Migration from to left ended old new = PrintsMoved from to left ended old new
PrintsTransfer how.Copy from to left ended old new = PrintsCopied from to left ended old new

-- and so of two that were opened, and closed
abbrev pub PrintsTwo : {D : Type 0} → Ghosts D → Doing D → Transfer → List ℕ → List ℕ → Ended → Known → Known → Type 0
PrintsTwo model done transfer from_path to_path ended old new =
    OfTwo model done from_path to_path (λ from from_left to to_left. LeavesTwo transfer from from_left to to_left × PrintsTransfer transfer from to to_left ended old new)

-- `tables`: the files of the tables that a scheme of that graph has of nodes, and their line, or that a node isn't there
abbrev pub PrintsTables : LandmarkWords → List ℕ → List ℕ → (List Put → Type 0) → DiskView → DiskView → Ended → Known → Known → Type 0
PrintsTables words folder named put disk left ended old new =
    IsAnswerOf disk (λ state. (p : Parts) × IsSchemeBy state.graph state.count words p × AnswersTables p state.count folder named put ended old new)

-- what a task on one device has printed that puts no files, and what it leaves of that device, which is open
abbrev pub PrintsAlone : Task → DiskView → DiskView → Ended → Known → Known → Type 0
PrintsAlone (Format device nodes is_new) disk left ended old new = PrintsFormatted nodes disk left ended old new
PrintsAlone (Show device) disk left ended old new = PrintsListing disk left ended old new
PrintsAlone (Edit device session ticket change) disk left ended old new = PrintsVerdict session ticket change disk left ended old new
PrintsAlone (Resume device session) disk left ended old new = PrintsTicket session disk left ended old new
PrintsAlone (Route device pairs words) disk left ended old new = PrintsRoutes pairs.items words disk left ended old new
PrintsAlone (Check device words) disk left ended old new = PrintsCheck words disk left ended old new
PrintsAlone task disk left ended old new = ⊥

-- and any task on one device
abbrev pub PrintsOpened : (List Put → Type 0) → Task → DiskView → DiskView → Ended → Known → Known → Type 0
PrintsOpened put (Tables device folder nodes words) disk left ended old new = PrintsTables words folder.now nodes.items put disk left ended old new
PrintsOpened put task disk left ended old new = PrintsAlone task disk left ended old new

-- A task that is no service has printed its answer and nothing else: of the device that it opened, and closed. The files of `tables` are
-- those that were put.
abbrev pub PrintedAtRest : {D : Type 0} → Ghosts D → Doing D → (List Put → Type 0) → Task → Ended → Known → Known → Type 0
PrintedAtRest model done put (Migrate device made) ended old new = PrintsTwo model done how.Migration device.now made.now ended old new
PrintedAtRest model done put (Copy device made) ended old new = PrintsTwo model done how.Copy device.now made.now ended old new
PrintedAtRest model done put (Serve device editors forwarders places live words) ended old new = ⊥
PrintedAtRest model done put task ended old new = OfOpened model done (device_of task) (access_of task) (λ disk left. Leaves task disk left × PrintsOpened put task disk left ended old new)

-- so of one that puts no files
abbrev pub PrintedAlone : {D : Type 0} → Ghosts D → Doing D → Task → Ended → Known → Known → Type 0
PrintedAlone model done (Migrate device made) ended old new = PrintsTwo model done how.Migration device.now made.now ended old new
PrintedAlone model done (Copy device made) ended old new = PrintsTwo model done how.Copy device.now made.now ended old new
PrintedAlone model done (Serve device editors forwarders places live words) ended old new = Unit {0}
PrintedAlone model done (Tables device folder nodes words) ended old new = Unit {0}
PrintedAlone model done task ended old new = OfOpened model done (device_of task) (access_of task) (λ disk left. Leaves task disk left × PrintsAlone task disk left ended old new)

-- and of `tables`
abbrev pub PrintedTables : {D : Type 0} → Ghosts D → Doing D → (List Put → Type 0) → Task → Ended → Known → Known → Type 0
PrintedTables model done put (Tables device folder nodes words) ended old new =
    OfOpened model done device.now ToRead (λ disk left. IsOnlyRead disk left × PrintsTables words folder.now nodes.items put disk left ended old new)
PrintedTables model done put task ended old new = Unit {0}
