use Rattle.std.proofs.Common.{◌-◌, arith, map, ◌∙◌}
use Rattle.schemes.proofs.Basics.Searches.{key_there, keys_length, narrowed_up, narrowed_down, narrowed_away, narrowed_few, halved_few}
use Rattle.schemes.proofs.search.halve_between.Goals as goal

pub overflow_add-probes : goal.overflow_add-probes
overflow_add-probes g c =
    let v = c.loop-low.invariant in
    let k = narrowed_few (map g.T.Keyed.key c.args.items.now) c.args.number (c.args.to - c.args.from) c.loop-low.low c.loop-low.high c.loop-low.probes v c.loop-low-test.true 64 v.fits in
    omega (arith, k)

pub returns-then-there-number-clause-place : goal.returns-then-there-number-clause-place
returns-then-there-number-clause-place g c =
    let v = c.loop-low.invariant in
    let n = keys_length g.T.Keyed.key c.args.items.now in
    let at = key_there g.T.Keyed.key c.args.items.now _ c.index-items-middle.result c.key-there.result (omega (arith, n, v.between.within, c.loop-low-test.true)) c.index-items-middle.is c.key-there.ensures in
    (omega (arith, v.between.within, c.loop-low-test.true), at ∙ c.if-there-number.true)

pub loop-low-preserved-then-there-number-2 : goal.loop-low-preserved-then-there-number-2
loop-low-preserved-then-there-number-2 g c =
    let v = c.loop-low.invariant in
    let n = keys_length g.T.Keyed.key c.args.items.now in
    let at = key_there g.T.Keyed.key c.args.items.now _ c.index-items-middle.result c.key-there.result (omega (arith, n, v.between.within, c.loop-low-test.true)) c.index-items-middle.is c.key-there.ensures in
    narrowed_up (map g.T.Keyed.key c.args.items.now) c.args.number (c.args.to - c.args.from) c.loop-low.low c.loop-low.high c.loop-low.probes c.requires.ascending v c.loop-low-test.true
    c.key-there.result at c.if-there-number-2.true

pub loop-low-preserved : goal.loop-low-preserved
loop-low-preserved g c =
    let v = c.loop-low.invariant in
    let n = keys_length g.T.Keyed.key c.args.items.now in
    let at = key_there g.T.Keyed.key c.args.items.now _ c.index-items-middle.result c.key-there.result (omega (arith, n, v.between.within, c.loop-low-test.true)) c.index-items-middle.is c.key-there.ensures in
    narrowed_down (map g.T.Keyed.key c.args.items.now) c.args.number (c.args.to - c.args.from) c.loop-low.low c.loop-low.high c.loop-low.probes c.requires.ascending v c.loop-low-test.true
    c.key-there.result at c.if-there-number.false c.if-there-number-2.false

pub returns-clause-place : goal.returns-clause-place
returns-clause-place g c =
    narrowed_away (map g.T.Keyed.key c.args.items.now) c.args.number c.loop-low.low c.loop-low.high c.loop-low.invariant.between c.loop-low-test.false

pub returns-then-there-number-clause-bounded : goal.returns-then-there-number-clause-bounded
returns-then-there-number-clause-bounded g c =
    let v = c.loop-low.invariant in
    narrowed_few (map g.T.Keyed.key c.args.items.now) c.args.number (c.args.to - c.args.from) c.loop-low.low c.loop-low.high c.loop-low.probes v c.loop-low-test.true 64 v.fits

pub returns-clause-bounded : goal.returns-clause-bounded
returns-clause-bounded g c =
    let v = c.loop-low.invariant in
    halved_few (c.args.to - c.args.from) c.loop-low.probes (c.loop-low.high - c.loop-low.low) v.halved 64 v.fits
