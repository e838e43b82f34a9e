use Rattle.std.proofs.Common.{arith}
use Rattle.layout_reader.proofs.HeadLemmas.{newest_first, newest_second, none_newest}
use Rattle.layout_reader.proofs.heads.choose.Goals as goal

pub returns-then-is_newest-clause-choice : goal.returns-then-is_newest-clause-choice
returns-then-is_newest-clause-choice c room image heads =
    let a = c.args.first in let b = c.args.second in
    let is = c.is_newest.ensures.0 c.if-is_newest.true in
    record {
      head = heads.0;
      newest = newest_first room a.gate a.epoch a.count a.nodes a.edges b.gate b.epoch b.count b.nodes b.edges image (omega arith) (omega arith) heads.0 heads.1 is.0 is.1;
    }

pub returns-then-is_newest-2-clause-choice : goal.returns-then-is_newest-2-clause-choice
returns-then-is_newest-2-clause-choice c room image heads =
    let a = c.args.first in let b = c.args.second in
    let is = c.is_newest-2.ensures.0 c.if-is_newest-2.true in
    record {
      head = heads.1;
      newest = newest_second room a.gate a.epoch a.count a.nodes a.edges b.gate b.epoch b.count b.nodes b.edges image (omega arith) (omega arith) heads.0 heads.1 is.0 is.1;
    }

pub returns-clause-choice : goal.returns-clause-choice
returns-clause-choice c room image heads =
    let a = c.args.first in let b = c.args.second in
    none_newest room a.gate a.epoch a.count a.nodes a.edges b.gate b.epoch b.count b.nodes b.edges image (omega arith) (omega arith) heads.0 heads.1
    (λ is. let yes = c.is_newest.ensures.1 is in let no = c.if-is_newest.false in cc) (λ is. let yes = c.is_newest-2.ensures.1 is in let no = c.if-is_newest-2.false in cc)
