-- A node's record, apart from the entry that holds it.
use Rattle.std.proofs.Common.{◌≡◌, ℕ, true, refl, ap}
use Rattle.std.specs.Prelude.{Option, Some, None, is_some, option_map}
use Rattle.heavy_labels.specs.declared.tree_record.Record.{Record}
use Rattle.heavy_labels.specs.Numbering.{step}
use Rattle.heavy_labels.specs.Stepped.{record_of}
use Rattle.schemes.specs.Entry.{Entry}
use Rattle.schemes.specs.declared.packet.Packet.{Packet}
use Rattle.schemes.specs.Tables.{Tables}
use Rattle.schemes.specs.Service.{move_at, move_by}
use Rattle.schemes.proofs.Basics.Options.{same_value}

-- where a record is there, so is its entry
pub record_there : (o : Option Entry) (r : Record) → option_map (λ e. e.tree_record) o ≡ Some r → is_some o ≡ true
record_there None r is = cc
record_there (Some e) r is = refl

-- the move by an entry is that by its record
pub move_by_record : (t : Tables) (x : ℕ) (k : Packet) (o : Option Entry) (r : Record) → option_map (λ e. e.tree_record) o ≡ Some r
    → move_at t x k o ≡ move_by t x k (step (record_of r) k.label)
move_by_record t x k None r is = cc
move_by_record t x k (Some e) r is = ap (λ (z : Record). move_by t x k (step (record_of z) k.label)) (same_value refl is)
