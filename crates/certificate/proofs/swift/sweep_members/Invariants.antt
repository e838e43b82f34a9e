use Rattle.certificate.proofs.Words.{◌<◌, ℕ, get_or, IsSome, Listed, directory_at, tables, GoOn}
use Rattle.certificate.proofs.swift.sweep_members.Given as goal

abbrev pub invariant-loop-listed : goal.invariant-loop-listed
invariant-loop-listed l = record {
  on : GoOn l.graph l.scheme l.initial.places l.places;
  there : (k : ℕ) (d : Listed) → k < l.listed-index → IsSome ((tables l.scheme).entry (get_or (directory_at l.scheme l.root) k d).node l.root);
}
