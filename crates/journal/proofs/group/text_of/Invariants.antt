use Rattle.std.proofs.Common.{◌≡◌, ◌++◌, length, take}
use Rattle.std.specs.Int.{w16, w32, to_be_bytes}
use Rattle.std.specs.List.{flat_map, AllByRecursion}
use Rattle.journal.specs.Spelling.{payload_of}
use Rattle.journal.proofs.group.text_of.Given as goal

abbrev pub invariant-loop-entry : goal.invariant-loop-entry
invariant-loop-entry g l = record {
  text : l.text.items ≡ to_be_bytes w32 (length (payload_of g.E.Entry.form l.entries)) ++ to_be_bytes w16 (length l.entries) ++ flat_map g.E.Entry.form.text (take l.entry-index l.entries);
  each : AllByRecursion g.E.Entry.form.IsEntry (take l.entry-index l.entries);
}
