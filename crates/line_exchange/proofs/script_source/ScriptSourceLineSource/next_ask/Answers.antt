use Rattle.std.proofs.Common.{List, subst}
use Rattle.std.specs.Vec.Iter.{into_iter_items}
use Rattle.value_syntax.specs.declared.line.ScriptLine.{ScriptLine}
use Rattle.line_exchange.specs.Reads.{AreGivenOf}
use Rattle.line_exchange.proofs.ReadLines.{line_asks}
use Rattle.line_exchange.proofs.script_source.ScriptSourceLineSource.next_ask.Goals as goal

pub invariant_of-result : goal.invariant_of-result
invariant_of-result g c = record {
  is_line = line_asks g.J.Stream.input g.J.Stream.editors c.args.place c.in-Some.line (into_iter_items c.next.new.self) c.asked_by.result
      (subst (λ (l : List ScriptLine). AreGivenOf g.J.Stream.input c.args.place l) c.in-Some.ensures.items c.requires) c.asked_by.ensures;
}
