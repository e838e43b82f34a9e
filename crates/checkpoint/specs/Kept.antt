-- What a store knows of its disk.
use Rattle.std.specs.Prelude.{◌≡◌, ◌<◌, ◌≤◌, ℕ, List, Some}
use Rattle.std.proofs.Props.{props}
use Rattle.disk_trait.specs.Disk.{DiskView, MayLeave}
use Rattle.requests.proofs.TicketLemmas.{rises_prop}
use Rattle.layout_2.specs.Records.{Entry, entries_of}
use Rattle.layout_2.specs.InUse.{IsInUse}
use Rattle.layout_2.specs.Layout.{worn_limit}
use Rattle.layout_2.specs.Standing.{StandsFor}
use Rattle.layout_2.specs.State.{State, after, AreInTurn}

-- each image that a crash now may leave stands for the state, by this slot
pub record IsKept (disk : DiskView) (slot epoch other_gate : ℕ) (base state : State) (groups : List (List Entry)) : Type 0 where
  pub each : (image : List ℕ) → MayLeave disk image → IsInUse slot epoch other_gate base groups image
  -- the requests of its records lead to the state, each in turn
  pub folds : after base (entries_of groups) ≡ Some state
  pub in_turn : AreInTurn base.tickets (entries_of groups)

-- so each of them stands for the state
pub kept_stands : (disk : DiskView) (slot epoch other_gate : ℕ) (base state : State) (groups : List (List Entry)) → slot < 2 → state.count ≤ worn_limit → IsKept disk slot epoch other_gate base state groups
    → (image : List ℕ) → MayLeave disk image → StandsFor state image
kept_stands disk slot epoch other_gate base state groups is fits kept image left = record {
  slot = slot;
  epoch = epoch;
  base = base;
  groups = groups;
  is_slot = is;
  by = (kept.each image left).stands;
  folds = kept.folds;
  in_turn = kept.in_turn;
  count_fits = fits;
}

pub ruleset kept_props = (props, rises_prop)
