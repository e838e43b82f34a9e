use Rattle.std.proofs.Common.{arith}
use Rattle.journal.proofs.Lists.{length_more}
use Rattle.journal.proofs.group.payload_len.Goals as goal

pub loop-entry-preserved : goal.loop-entry-preserved
loop-entry-preserved g c =
    let form = g.E.Entry.form in
    record {
      len = omega (arith, length_more form g.met.E.Entry.is_form c.args.entries.now c.loop-entry.entry-index c.entry-item.result c.loop-entry-test.true c.entry-item.is, c.text_len-len.ensures.len, c.loop-entry.invariant.len);
      most = omega (arith, c.loop-entry.invariant.most, c.text_len-len.ensures.most);
    }
