use Rattle.std.proofs.Common.{ap, subst, List}
use mathlib.Core.List.{IsPrefix}
use Rattle.generations.specs.declared.posting.Entry.{Entry}
use Rattle.generations.specs.Entries.{notices}
use Rattle.generations.proofs.Prefixes.{covered}
use Rattle.generations.proofs.Appending.{notices_on}
use Rattle.generations.proofs.history.History.covers.Goals as goal

pub returns : goal.returns
returns c =
    let mine = c.self.inside.seen.log in
    let theirs = c.other.inside.seen.log in
    let both = c.learn.new.self.log in
    let this : IsPrefix mine both = subst (λ (l : List Entry). IsPrefix l both) (ap (λ s. s.log) c.again-both.ensures) c.learn.ensures.2 in
    rw (c.self.invariant.counted, c.other.invariant.counted, ← c.self.view_is, ← c.other.view_is) (covered (notices mine) (notices theirs) (notices both) (notices_on mine both this) (notices_on theirs both c.learn.ensures.3))
