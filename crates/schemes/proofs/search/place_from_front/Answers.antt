use Rattle.std.proofs.Common.{arith, sym, map, ◌∙◌}
use Rattle.schemes.proofs.Basics.Searches.{index_at, index_none, key_there, keys_length, past_more}
use Rattle.schemes.proofs.search.place_from_front.Goals as goal

pub returns-then-key-number : goal.returns-then-key-number
returns-then-key-number g c =
    let numbers = map g.T.Keyed.key c.args.items.now in
    let n = keys_length g.T.Keyed.key c.args.items.now in
    let at = key_there g.T.Keyed.key c.args.items.now c.loop-place.place c.index-items-place.result c.key.result c.loop-place-test.true c.index-items-place.is c.key.ensures in
    sym (index_at numbers c.args.number c.loop-place.place (omega (arith, n, c.loop-place-test.true)) (at ∙ c.if-key-number.true) c.loop-place.invariant)

pub loop-place-preserved : goal.loop-place-preserved
loop-place-preserved g c =
    let at = key_there g.T.Keyed.key c.args.items.now c.loop-place.place c.index-items-place.result c.key.result c.loop-place-test.true c.index-items-place.is c.key.ensures in
    past_more (map g.T.Keyed.key c.args.items.now) c.args.number c.loop-place.place c.key.result c.loop-place.invariant at c.if-key-number.false

pub returns : goal.returns
returns g c =
    let n = keys_length g.T.Keyed.key c.args.items.now in
    sym (index_none (map g.T.Keyed.key c.args.items.now) c.args.number (λ i l. c.loop-place.invariant i (omega (arith, l, n, c.loop-place-test.false))))
