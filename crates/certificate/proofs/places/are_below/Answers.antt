use Rattle.certificate.proofs.Words.{◌-◌, ◌<◌, arith, Entry, key_there}
use Rattle.std.proofs.lemmas.Bool.Decides.{nat_tests}
use Rattle.certificate.proofs.LookUps.{below_place}
use Rattle.certificate.proofs.places.are_below.Goals as goal

pub returns : goal.returns
returns c t k l =
    let key = key_there (λ (z : Entry). z.root) c.args.there.now (c.args.at - 1) c.index-there-at.result c.root.result (omega (arith, c.if-at-eq0.false, c.if-at-there.false)) c.index-there-at.is c.root.ensures in
    below_place c.args.there.now c.args.root (c.args.at - 1) c.requires (omega (arith, c.if-at-eq0.false, c.if-at-there.false)) (let lt : c.root.result < c.args.root = grind (arith, nat_tests, t) in omega (arith, key, lt)) k (omega (arith, l))
