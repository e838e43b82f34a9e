-- What the figures of a device say of what stands on it.
use Rattle.std.specs.Prelude.{◌≡◌, ◌+◌, ℕ, ◌==◌, List, filter, length, not}
use Rattle.std.specs.List.{enumerate_from}
use Rattle.std.specs.FinMap.{len}
use Rattle.journal.specs.Records.{records}
use Rattle.journal.specs.RequestForm.{request_form}
use Rattle.layout_2.specs.Layout.{journal_room}
use Rattle.layout_2.specs.Records.{entries_of}
use Rattle.layout_2.specs.State.{State}
use Rattle.layout_2.specs.Standing.{StandsFor}
use Rattle.device_info.specs.declared.figures.DeviceInfo.{DeviceInfo}

-- the sessions that have a last ticket, each with it
abbrev pub held_tickets : List ℕ → List (ℕ × ℕ)
held_tickets tickets = filter (λ held. not (held.1 == 0)) (enumerate_from 0 tickets)

-- the figures are those of the state for which the image stands, and of the slot, the checkpoint and the records by which it does
pub record IsInfoOf (info : DeviceInfo) (image : List ℕ) : Type 0 where
  pub state : State
  pub stands : StandsFor state image
  pub nodes : info.nodes ≡ state.graph.nodes
  pub edges : info.edges ≡ len state.graph.edges
  pub count : info.count ≡ state.count
  pub held : info.held.items ≡ held_tickets state.tickets
  pub slot : info.slot ≡ stands.slot
  pub epoch : info.epoch ≡ stands.epoch
  pub journal : info.since_checkpoint ≡ length (entries_of stands.groups)
  -- the records, the gate behind them and what is left make up the journal's area
  pub room : length (records request_form stands.groups) + 1 + info.journal_room_left ≡ journal_room
