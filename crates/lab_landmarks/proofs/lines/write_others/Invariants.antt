use Rattle.std.proofs.Common.{◌≡◌, ◌∷◌, ◌++◌, take, decimal, flat_map, string_bytes}
use Rattle.lab_landmarks.proofs.lines.write_others.Given as goal

abbrev pub invariant-loop-node : goal.invariant-loop-node
invariant-loop-node l = string_bytes l.line ≡ string_bytes l.fn.line ++ flat_map (λ node. 44 ∷ decimal node) (take l.node-index l.nodes)
