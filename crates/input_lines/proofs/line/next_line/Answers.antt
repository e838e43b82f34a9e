use Rattle.std.proofs.Common.{subst}
use Rattle.std.proofs.lemmas.Result.{on_err_weaker, on_ok_weaker}
use Rattle.input_lines.specs.Reading.{TakesPart}
use Rattle.input_lines.proofs.ReadLemmas.{end_drops, fed_drops, fed_next, further_more, grown_read, grown_unfed, kept_drops, kept_further, longer_given, longer_next, rest_drops}
use Rattle.input_lines.proofs.line.next_line.Goals as goal

pub returns-in-Fed-clause-next : goal.returns-in-Fed-clause-next
returns-in-Fed-clause-next g c =
    let is = c.loop.invariant in
    let grows = subst (TakesPart _ _ _ _) c.in-Fed.is c.in_ok-append_part.ensures.ok in
    fed_next _ _ c.append_part.new.line.items (grown_unfed _ _ _ _ _ is.unfed grows) c.append_part.ensures.bounded (grown_read _ _ _ _ _ _ is.read grows)

pub returns-in-Fed-clause-rest : goal.returns-in-Fed-clause-rest
returns-in-Fed-clause-rest g c =
    let is = c.loop.invariant in
    let grows = subst (TakesPart _ _ _ _) c.in-Fed.is c.in_ok-append_part.ensures.ok in
    fed_drops _ _ c.append_part.new.line.items (grown_unfed _ _ _ _ _ is.unfed grows) (grown_read _ _ _ _ _ _ is.read grows)

pub returns-in-TooLong-clause-next : goal.returns-in-TooLong-clause-next
returns-in-TooLong-clause-next g c =
    let is = c.loop.invariant in
    let stays = subst (TakesPart _ _ _ _) c.in-TooLong.is c.in_ok-append_part.ensures.ok in
    longer_given c.skip_longer.result _ _ c.skip_longer.ensures.longer (longer_next _ _ c.loop.line.items is.read is.unfed stays.2)

pub returns-in-TooLong-clause-rest : goal.returns-in-TooLong-clause-rest
returns-in-TooLong-clause-rest g c =
    let is = c.loop.invariant in
    let stays = subst (TakesPart _ _ _ _) c.in-TooLong.is c.in_ok-append_part.ensures.ok in
    on_ok_weaker c.skip_longer.result (λ drops. rest_drops _ _ _ c.loop.line.items is.read is.unfed (kept_drops _ _ _ stays.1 drops)) c.skip_longer.ensures.rest

pub returns-in-TooLong-clause-further : goal.returns-in-TooLong-clause-further
returns-in-TooLong-clause-further g c =
    let is = c.loop.invariant in
    let stays = subst (TakesPart _ _ _ _) c.in-TooLong.is c.in_ok-append_part.ensures.ok in
    on_err_weaker c.skip_longer.result (λ further. further_more _ _ _ c.loop.line.items is.read (kept_further _ _ _ stays.1 further)) c.skip_longer.ensures.further

pub returns-in-AtEnd-clause-rest : goal.returns-in-AtEnd-clause-rest
returns-in-AtEnd-clause-rest g c =
    let is = c.loop.invariant in
    let ends = subst (TakesPart _ _ _ _) c.in-AtEnd.is c.in_ok-append_part.ensures.ok in
    end_drops _ _ _ c.loop.line.items is.read is.unfed ends.2 ends.1
