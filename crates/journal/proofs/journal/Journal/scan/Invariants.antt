use Rattle.std.proofs.Common.{◌≡◌, ◌≤◌, ◌<◌, ℕ, length, map, IsTrue}
use Rattle.disk_trait.specs.Disk.{IsSameDevice}
use Rattle.journal.specs.Records.{records, entries_of}
use Rattle.journal.specs.declared.journal.TheConstants.{WINDOW}
use Rattle.journal.specs.Windows.{HasFound}
use Rattle.journal.proofs.journal.Journal.scan.Given as goal

abbrev pub invariant-loop : goal.invariant-loop
invariant-loop g l = record {
  counter : l.counter ≤ l.at;
  inside : l.at < l.area.room;
  at_is : length (records g.E.Entry.form (map (λ group. group.items) l.scanned.items)) ≡ l.at;
  entries : l.entries.items ≡ entries_of (map (λ group. group.items) l.scanned.items);
  wide : (n : ℕ) → n ≤ WINDOW → n ≤ l.area.room → n ≤ length l.window.bytes.items;
  ran : IsSameDevice (g.D.Disk.view l.fn.disk) (g.D.Disk.view l.disk);
  no_failure : (g.D.Disk.view l.disk).failures ≡ (g.D.Disk.view l.fn.disk).failures;
  found : IsTrue (g.D.Disk.view l.fn.disk).keeps_model → HasFound g.E.Entry.form l.area (map (λ group. group.items) l.scanned.items) (g.D.Disk.view l.fn.disk) (g.D.Disk.view l.disk) l.window;
}
