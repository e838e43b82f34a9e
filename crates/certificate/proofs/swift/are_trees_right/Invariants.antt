use Rattle.certificate.proofs.Words.{AreRightTo, IsRootRight, AreEntries, AreNext, HoldBetween}
use Rattle.certificate.proofs.swift.are_trees_right.Given as goal

abbrev pub invariant-loop-root : goal.invariant-loop-root
invariant-loop-root l = record {
  right : AreRightTo l.graph l.scheme l.first l.places;
  next : AreNext l.scheme l.root l.nexts;
  entries : AreEntries l.scheme l.entries;
  roots : HoldBetween (IsRootRight l.graph l.scheme) l.first l.root;
}
