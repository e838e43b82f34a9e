use Rattle.certificate.proofs.Words.{◌≡◌, ◌<◌, ℕ, length, slice_index, entries_at, AreNext, AreBelow}
use Rattle.certificate.proofs.swift.put_places.Given as goal

abbrev pub invariant-loop-x : goal.invariant-loop-x
invariant-loop-x l = record {
  room : length l.places ≡ length l.initial.places;
  nexts : length l.nexts ≡ length l.initial.nexts;
  next : AreNext l.scheme l.root l.initial.nexts → AreNext l.scheme l.root l.nexts;
  below : (y : ℕ) → y < l.x → AreBelow l.root (slice_index l.places y) (entries_at l.scheme y);
}
