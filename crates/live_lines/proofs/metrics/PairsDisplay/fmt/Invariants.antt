use Rattle.std.proofs.Common.{ℕ, List, take}
use Rattle.std.specs.Fmt.{HasWritten, IsPlainFormatter}
use Rattle.std.specs.List.{flat_map}
use denote.Ref.{Bor}
use Rattle.live_lines.specs.Metrics.{named, pair_text}
use Rattle.live_lines.proofs.metrics.PairsDisplay.fmt.Given as goal

abbrev pub invariant-loop-name : goal.invariant-loop-name
invariant-loop-name g l = IsPlainFormatter l.fn.f → HasWritten g.W.Write.write_str_gives l.fn.f (flat_map (λ (pair : Bor (List ℕ) × ℕ). pair_text (named pair)) (take l.name-index l.self.pairs.now)) l.f
