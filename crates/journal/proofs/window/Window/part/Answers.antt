use Rattle.std.proofs.Common.{◌≡◌, ◌+◌, ◌-◌, arith, ap, ◌∙◌, take, drop, List, ℕ}
use Rattle.journal.proofs.Scans.{part_is}
use Rattle.journal.proofs.window.Window.part.Goals as goal

pub returns-clause-bytes : goal.returns-clause-bytes
returns-clause-bytes c = λ content holds.
    let w = c.args.self.now in
    let k : c.args.at - w.from + c.args.n - (c.args.at - w.from) ≡ c.args.n = omega arith in
    ap (λ j. take j (drop (c.args.at - w.from) c.deref.result.now)) k ∙ ap (λ (l : List ℕ). take c.args.n (drop (c.args.at - w.from) l)) c.deref.ensures.value
    ∙ part_is w.bytes.items content w.from w.len c.args.at c.args.n holds c.requires.low c.requires.high
