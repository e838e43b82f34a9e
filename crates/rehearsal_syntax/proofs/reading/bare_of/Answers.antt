use Rattle.std.proofs.Common.{arith, ◌≡◌, ◌==◌, sym, length}
use Rattle.std.specs.List.{position_or_len}
use Rattle.std.proofs.lemmas.List.{take_all}
use Rattle.std.proofs.lemmas.Option.{MatchOption-at_none, MatchOption-at_some}
use Rattle.std.proofs.lemmas.Str.Pattern.{split_once_first}
use Rattle.rehearsal_syntax.proofs.reading.bare_of.Goals as goal

pub returns-in-Some : goal.returns-in-Some
returns-in-Some c = (MatchOption-at_some _ _ _ c.in-Some.is (split_once_first 35 c.args.text.now c.split_once.result c.split_once.ensures.cases (omega arith))).1

pub returns-in-None : goal.returns-in-None
returns-in-None c =
    let all : position_or_len (λ b. b == 35) c.args.text.now ≡ length c.args.text.now = MatchOption-at_none _ _ c.in-None.is (split_once_first 35 c.args.text.now c.split_once.result c.split_once.ensures.cases (omega arith)) in
    sym (take_all _ c.args.text.now (omega arith))
