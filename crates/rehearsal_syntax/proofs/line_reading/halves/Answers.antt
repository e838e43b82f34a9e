use Rattle.std.proofs.Common.{arith, decimal}
use Rattle.std.proofs.lemmas.Option.{MatchOption-at_none, MatchOption-at_some}
use Rattle.std.proofs.lemmas.Str.Pattern.{split_after, split_parts}
use Rattle.value_syntax.proofs.Texts.{no_colon}
use Rattle.rehearsal_syntax.proofs.line_reading.halves.Goals as goal

pub returns-in-Some : goal.returns-in-Some
returns-in-Some c =
    let parts = MatchOption-at_some _ _ _ c.in-Some.is (split_parts 58 c.args.text.now c.split_once.result c.split_once.ensures.cases (omega arith)) in
    record {
      found = parts.0;
      only = λ n rest small is. MatchOption-at_some _ _ _ c.in-Some.is (split_after 58 c.args.text.now (decimal n) rest c.split_once.result c.split_once.ensures.cases (omega arith) is (no_colon n small));
    }

pub returns-in-None : goal.returns-in-None
returns-in-None c = record {
  found = tt;
  only = λ n rest small is. absurd (MatchOption-at_none _ _ c.in-None.is (split_after 58 c.args.text.now (decimal n) rest c.split_once.result c.split_once.ensures.cases (omega arith) is (no_colon n small)));
}
