use Rattle.std.proofs.Common.{rules, ◌≢◌, ℕ, List, IfSome, subst}
use Rattle.input_lines.specs.Reading.{IsLineAt, IsNext}
use Rattle.input_lines.specs.declared.line.NextLine.TheVariants.{End}
use Rattle.line_exchange.specs.Streams.{IsAskedAt, IsAskedBy}
use Rattle.line_exchange.proofs.ReadLines.{asks_at, read_on, read_whole}
use Rattle.line_exchange.proofs.input_source.read_ask.Goals as goal

pub invariant_of-result : goal.invariant_of-result
invariant_of-result g c =
    let old = g.S.Read.remaining c.args.input.now in
    let is : IfSome old (λ ys. IsNext ys c.in-Ok.next c.deref.result.now) = subst (λ (l : List ℕ). IfSome old (λ ys. IsNext ys c.in-Ok.next l)) (search rules) c.in-Ok.ensures.next in
    let asks : (xs : List ℕ) (n : ℕ) → IsLineAt xs n c.in-Ok.next c.deref.result.now → IsAskedBy xs c.args.editors n c.in-Ok-Some.asked =
    subst (λ o. IfSome o (λ asked. (xs : List ℕ) (n : ℕ) → IsLineAt xs n c.in-Ok.next c.deref.result.now → IsAskedBy xs c.args.editors n asked)) c.in-Ok-Some.field-0-is c.in-Ok-Some.ensures.asked in
    record {
      is_line = subst (λ (e : ℕ). ∥ IsAskedAt g.J.Stream.input e c.args.place c.in-Ok-Some.asked ∥₁) c.requires.editors
          (asks_at g.J.Stream.input c.args.editors c.args.place old c.in-Ok.next c.deref.result.now c.in-Ok-Some.asked c.requires.read is asks);
    }

pub returns-in-Ok-Some-clause-read : goal.returns-in-Ok-Some-clause-read
returns-in-Ok-Some-clause-read g c =
    let some : c.in-Ok.next ≢ End = subst (λ o. IfSome o (λ asked. c.in-Ok.next ≢ End)) c.in-Ok-Some.field-0-is c.in-Ok-Some.ensures.some in
    read_on g.J.Stream.input c.args.place (g.S.Read.remaining c.args.input.now) (g.S.Read.remaining c.next_line.new.reader) c.in-Ok.next c.next_line.new.line.items c.requires.read c.in-Ok.ensures.next
    c.in-Ok.ensures.rest some

pub returns-in-Ok-None-clause-read : goal.returns-in-Ok-None-clause-read
returns-in-Ok-None-clause-read g c =
    read_whole g.J.Stream.input c.args.place (g.S.Read.remaining c.args.input.now) c.in-Ok.next c.next_line.new.line.items c.requires.read c.in-Ok.ensures.next (search rules)
