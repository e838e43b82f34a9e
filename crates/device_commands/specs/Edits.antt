-- What a change answers, and what it leaves.
use Rattle.std.specs.Prelude.{◌≡◌, ◌≢◌, ◌⊎◌, ◌<◌, ℕ, List, Option, Result, Ok, Err, IfErr, IfOk, IsErrOf, IsTrue, OnOk, false}
use Rattle.disk_trait.specs.Disk.{DiskView, IsSameDevice, LeavesOnly, OnlyRead}
use Rattle.graph_edits.specs.declared.edits.Op.{Op}
use Rattle.requests.specs.Tickets.{worn_limit}
use Rattle.layout_2.specs.State.{State}
use Rattle.layout_2.specs.Standing.{KeepsThrough, StandsFor}
use Rattle.checkpoint.specs.declared.store.Store.{Store}
use Rattle.checkpoint.specs.StoreWords.{state_of, view_of, is_down}
use Rattle.generations.specs.declared.posting.Verdict.{Verdict}
use Rattle.generations.specs.declared.posting.Verdict.TheVariants.{Accepted}
use Rattle.command_output.specs.declared.fault.Fault.{Fault}
use Rattle.command_output.specs.declared.fault.Fault.TheVariants.{AlreadyIn, Device, NoThread, Worn}
use Rattle.device_commands.specs.Answer.{IsNew, IsTaken, last_ticket, state_after, ticket_of, verdict_of}
use Rattle.device_commands.specs.Openings.{IsEditFault, IsUnwrittenFault, OfContent, TellsOf}

-- numbers have run out for a change that is new: its ticket is past the limit, or the graph takes it
abbrev pub IsPastLimits : State → ℕ → Option ℕ → List Op → Type 0
IsPastLimits state session named change =
    IsNew state session named × ((worn_limit < ticket_of (last_ticket state session) named) ⊎ IsTaken state change)

-- ---- on a store

-- What becomes of a store by one change, which brings it to the state `next` where it is answered.
pub record IsSettledTo {D : Type 0} {V : _} (next : State) (change : List Op) (old new : Store D V) (result : Result Verdict Fault) : Type 0 where
  pub verdict : IfOk result (λ verdict. verdict ≡ verdict_of (state_of old) change)
  pub state : OnOk result (state_of new ≡ next)
  pub up : OnOk result (is_down new ≡ false)
  -- nothing is written where the graph refuses the change, or a limit is reached
  pub refused : ¬ (IsTaken (state_of old) change) → new ≡ old
  pub worn_leaves : IsErrOf result Worn → new ≡ old
  -- nor where no thread is to be had
  pub threadless : IsErrOf result NoThread → new ≡ old
  pub device : IsErrOf result Device → (view_of old).failures < (view_of new).failures
  -- unless the device failed it goes on, in the one state or the other
  pub decided : ¬ (IsErrOf result Device) → (is_down new ≡ false) × ((state_of new ≡ state_of old) ⊎ (state_of new ≡ next))
  pub ran : IsSameDevice (view_of old) (view_of new)
  -- a crash at any moment leaves the state before the change or the one after it
  pub any_moment : IsTrue (view_of old).keeps_model → LeavesOnly (view_of old) (view_of new) (λ image. StandsFor (state_of old) image ⊎ StandsFor next image)

-- What is answered of a change where no verdict was told but a fault: unless the device failed, it is in where its ticket is the session's
-- last one.
abbrev pub IsFound : State → ℕ → ℕ → Fault → Result Verdict Fault → Type 0
IsFound state session ticket fault result =
    ((fault ≡ Device) × (result ≡ Err fault))
    ⊎ ((fault ≢ Device) × (((last_ticket state session ≡ ticket) × (result ≡ Ok (Accepted state.count))) ⊎ ((last_ticket state session ≢ ticket) × (result ≡ Err fault))))

-- ---- on a device

-- What an edit answers of the state for which a device stands that keeps the model, and what it leaves.
pub record EditsState (session : ℕ) (named : Option ℕ) (change : List Op) (disk back : DiskView) (result : Result Verdict Fault) (state : State) : Type 0 where
  pub verdict : IfOk result (λ verdict. verdict ≡ verdict_of state change)
  pub new : OnOk result (IsNew state session named)
  pub left : OnOk result (KeepsThrough back (state_after state session named change))
  -- a ticket that was taken changes nothing
  pub already_in : IsErrOf result AlreadyIn → ¬ (IsNew state session named)
  pub worn : IsErrOf result Worn → IsPastLimits state session named change
  -- a change that the graph refuses writes nothing
  pub refused : ¬ (IsTaken state change) → OnlyRead disk back
  -- a fault changes nothing, unless the device failed, whatever a crash leaves from then on
  pub kept : KeepsThrough disk state → IfErr result (λ fault. fault ≢ Device → KeepsThrough back state)
  -- a crash at any moment leaves the state before the change or the one after it
  pub any_moment : KeepsThrough disk state → LeavesOnly disk back (λ image. StandsFor state image ⊎ StandsFor (state_after state session named change) image)

-- What an edit answers of any device, and what it leaves.
pub record EditsDevice (session : ℕ) (named : Option ℕ) (change : List Op) (disk left : DiskView) (result : Result Verdict Fault) : Type 0 where
  -- the verdict is that of a state to which the ticket is new, also where the device doesn't keep the model
  pub of_one : IfOk result (λ verdict. (state : State) × IsNew state session named × (verdict ≡ verdict_of state change))
  pub of_content : OfContent disk (λ state. EditsState session named change disk left result state)
  pub unwritten : IsTrue disk.keeps_model → IfErr result (λ fault. IsUnwrittenFault fault → OnlyRead disk left)
  pub tells : IsTrue disk.keeps_model → IfErr result (λ fault. TellsOf fault disk.content)
  pub device : IsErrOf result Device → disk.failures < left.failures
  pub faults : IfErr result IsEditFault
  pub ran : IsSameDevice disk left
