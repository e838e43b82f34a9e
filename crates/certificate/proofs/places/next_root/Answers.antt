use Rattle.certificate.proofs.Words.{arith, Entry, key_there}
use Rattle.certificate.proofs.LookUps.{nowhere}
use Rattle.certificate.proofs.places.next_root.Goals as goal

pub returns-then-at-there : goal.returns-then-at-there
returns-then-at-there c q le lt =
    let below = c.are_below.ensures c.if-not-are_below.false in
    let key = key_there (λ (z : Entry). z.root) c.args.there.now c.args.at c.index-there-at.result c.root.result c.if-at-there.true c.index-there-at.is c.root.ensures in
    nowhere q c.args.at c.args.there.now c.requires (λ k l. let b = below k l in omega (arith, b, le)) (λ _. omega (arith, key, lt))

pub returns-else-at-there : goal.returns-else-at-there
returns-else-at-there c q le lt =
    let below = c.are_below.ensures c.if-not-are_below.false in
    nowhere q c.args.at c.args.there.now c.requires (λ k l. let b = below k l in omega (arith, b, le)) (λ l. absurd (omega (arith, l, c.if-at-there.false)))
