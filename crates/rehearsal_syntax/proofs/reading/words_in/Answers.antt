use Rattle.std.proofs.Common.{rules, tests, arith, ◌∙◌}
use Rattle.std.proofs.lemmas.Iterator.Consumers.{map_from_collect, YieldsList-at, YieldsList-from_filter}
use Rattle.std.proofs.lemmas.Iterator.Splits.{YieldsList-from_str_split}
use Rattle.rehearsal_syntax.specs.Said.{isnt_empty}
use Rattle.rehearsal_syntax.proofs.reading.words_in.Goals as goal

pub returns : goal.returns
returns c =
    map_from_collect _ c.collect.ensures.ran
    (YieldsList-from_filter _ isnt_empty (YieldsList-at c.filter.ensures.source (YieldsList-from_str_split 32 _ (omega arith) (c.split-parts.ensures.text ∙ c.bare_of.ensures) c.split-parts.ensures.has_more c.split-parts.ensures.pattern)) c.filter.ensures.closure (λ x r q k. search (rules, tests)))
