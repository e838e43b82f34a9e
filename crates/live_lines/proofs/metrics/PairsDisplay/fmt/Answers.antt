use Rattle.std.proofs.Common.{◌≡◌, ℕ, List, take, ap, subst, ◌∙◌, arith}
use Rattle.std.specs.Fmt.{HasWritten}
use Rattle.std.specs.List.{flat_map}
use Rattle.std.proofs.lemmas.List.{take_all}
use denote.Ref.{Bor}
use Rattle.live_lines.specs.Metrics.{named, pair_text}
use Rattle.live_lines.proofs.Figures.{named_texts}
use Rattle.live_lines.proofs.metrics.PairsDisplay.fmt.Goals as goal

pub returns-clause-writes : goal.returns-clause-writes
returns-clause-writes g c plain ok =
    let pairs = c.args.self.now.pairs.now in
    let all : take c.loop-name.name-index pairs ≡ pairs = take_all c.loop-name.name-index pairs (omega arith) in
    subst (λ (text : List ℕ). HasWritten g.W.Write.write_str_gives c.args.f.now text c.loop-name.f)
    (ap (λ (some : List (Bor (List ℕ) × ℕ)). flat_map (λ (pair : Bor (List ℕ) × ℕ). pair_text (named pair)) some) all ∙ named_texts pairs) (c.loop-name.invariant plain)
