use Rattle.certificate.proofs.Words.{◌≡◌, length, AreEntries}
use Rattle.certificate.proofs.swift.put_entries.Given as goal

abbrev pub invariant-loop-x : goal.invariant-loop-x
invariant-loop-x l = record { room : length l.entries ≡ length l.initial.entries; kept : AreEntries l.scheme l.initial.entries → AreEntries l.scheme l.entries }

abbrev pub invariant-loop-listed : goal.invariant-loop-listed
invariant-loop-listed l = record { room : length l.entries ≡ length l.initial.entries; kept : AreEntries l.scheme l.initial.entries → AreEntries l.scheme l.entries }
