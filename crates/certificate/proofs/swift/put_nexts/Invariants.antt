use Rattle.certificate.proofs.Words.{◌≡◌, ◌+◌, length, AreNext}
use Rattle.certificate.proofs.swift.put_nexts.Given as goal

abbrev pub invariant-loop-x : goal.invariant-loop-x
invariant-loop-x l = record { room : length l.nexts ≡ length l.initial.nexts; next : AreNext l.scheme (l.root + 1) l.initial.nexts → AreNext l.scheme (l.root + 1) l.nexts }

abbrev pub invariant-loop-listed : goal.invariant-loop-listed
invariant-loop-listed l = record { room : length l.nexts ≡ length l.initial.nexts; next : AreNext l.scheme (l.root + 1) l.initial.nexts → AreNext l.scheme (l.root + 1) l.nexts }
