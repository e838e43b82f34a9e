use Rattle.std.proofs.Common.{◌≡◌, ◌+◌, ◌*◌, ◌≤◌, length, take}
use Rattle.std.specs.List.{flat_map}
use Rattle.journal.specs.Layout.{count_size, most_entry}
use Rattle.journal.proofs.group.payload_len.Given as goal

abbrev pub invariant-loop-entry : goal.invariant-loop-entry
invariant-loop-entry g l = record {
  len : l.len ≡ count_size + length (flat_map g.E.Entry.form.text (take l.entry-index l.entries));
  most : l.len ≤ count_size + most_entry * l.entry-index;
}
