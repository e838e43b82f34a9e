use Rattle.std.proofs.Common.{◌≢◌, ◌++◌, subst}
use Rattle.std.proofs.KnownBytes.{Consumes-trans}
use Rattle.std.proofs.lemmas.List.Elements.{All-append}
use Rattle.input_lines.specs.Lines.{line_feed}
use Rattle.input_lines.specs.Reading.{SkipsPart}
use Rattle.input_lines.proofs.ReadLemmas.{rest_drops}
use Rattle.input_lines.proofs.line.skip_longer.Goals as goal

pub returns-then-branch-clause-rest : goal.returns-then-branch-clause-rest
returns-then-branch-clause-rest g c =
    let done = c.loop.invariant in
    rest_drops _ _ _ done.0 done.2 done.1 (subst (SkipsPart _ _) c.if-branch.true c.in_ok-skip_part.ensures.ok)

pub loop-preserved : goal.loop-preserved
loop-preserved g c =
    let done = c.loop.invariant in
    let part = subst (SkipsPart _ _) c.if-branch.false c.in_ok-skip_part.ensures.ok in
    (done.0 ++ part.0, All-append (λ byte. byte ≢ line_feed) done.0 part.0 done.1 part.1, Consumes-trans _ _ _ done.0 part.0 done.2 part.2)
