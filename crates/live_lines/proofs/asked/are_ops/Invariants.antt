use Rattle.std.proofs.Common.{List, All, Bor, ℕ, take}
use Rattle.live_lines.specs.Lines.{IsOp}
use Rattle.live_lines.proofs.asked.are_ops.Given as goal

abbrev pub invariant-loop-word : goal.invariant-loop-word
invariant-loop-word l = All (λ (x : Bor (List ℕ)). IsOp x.now) (take l.word-index l.words)
