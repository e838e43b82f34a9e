use Rattle.certificate.proofs.Words.{◌≡◌, ◌↔◌, HoldsFirst, lights_up, tables, parent_of, record_at, distance_of}
use Rattle.certificate.proofs.labels.are_lights.Given as goal

abbrev pub invariant-loop-here : goal.invariant-loop-here
invariant-loop-here l = record {
  parent : l.here.0 ≡ parent_of ((tables l.scheme).entry l.at l.root);
  depth : l.here.1 ≡ (record_at (tables l.scheme) l.root l.at).light_depth;
  distance : l.here.2 ≡ distance_of ((tables l.scheme).entry l.at l.root);
  climbed : HoldsFirst l.graph l.scheme → (l.lights ≡ lights_up l.graph (tables l.scheme) l.root l.v) ↔ (l.left ≡ lights_up l.graph (tables l.scheme) l.root l.at);
}

abbrev pub decreases-loop-here : goal.decreases-loop-here
decreases-loop-here l = l.here.2
