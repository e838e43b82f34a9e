use Rattle.certificate.proofs.Words.{ArePast}
use Rattle.certificate.proofs.swift.are_past.Given as goal

abbrev pub invariant-loop-x : goal.invariant-loop-x
invariant-loop-x l = ArePast l.scheme l.x l.root l.places
