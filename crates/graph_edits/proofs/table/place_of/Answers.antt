use Rattle.std.proofs.Common.{◌≡◌, ◌+◌, ◌-◌, ◌/◌, ◌<◌, length, arith, sym, ap, ◌∙◌, Bool, true, false, Ordering}
use Rattle.std.specs.Ordering.{is_lt}
use Rattle.graph_edits.proofs.Entries.{place-le, search_past, search_within}
use Rattle.graph_edits.proofs.table.place_of.Goals as goal

-- what the test says of the order
tested : (r s : Ordering) (b v : Bool) → s ≡ r → b ≡ is_lt s → b ≡ v → is_lt r ≡ v
tested r s b v e f g = ap is_lt (sym e) ∙ sym f ∙ g

pub loop-low-init : goal.loop-low-init
loop-low-init g c = let le = place-le g.K.Ord.cmp c.args.key c.args.entries.now in record { before = omega arith; after = le; within = omega arith }

pub loop-low-preserved-then-is_lt : goal.loop-low-preserved-then-is_lt
loop-low-preserved-then-is_lt g c =
    let middle : c.loop-low.low + (c.loop-low.high - c.loop-low.low) / 2 < length c.args.entries.now = omega arith in
    record {
      before = search_past g.K.Ord.cmp g.met.K.Ord.total c.args.key c.args.entries.now _ c.index-entries-middle.result c.requires middle (tested _ c.cmp.result c.is_lt.result true c.cmp.ensures c.is_lt.ensures c.if-is_lt.true);
      after = c.loop-low.invariant.after;
      within = c.loop-low.invariant.within;
    }

pub loop-low-preserved : goal.loop-low-preserved
loop-low-preserved g c =
    let middle : c.loop-low.low + (c.loop-low.high - c.loop-low.low) / 2 < length c.args.entries.now = omega arith in
    record {
      before = c.loop-low.invariant.before;
      after = search_within g.K.Ord.cmp g.met.K.Ord.total c.args.key c.args.entries.now _ c.index-entries-middle.result middle (tested _ c.cmp.result c.is_lt.result false c.cmp.ensures c.is_lt.ensures c.if-is_lt.false);
      within = omega arith;
    }

pub loop-low-2-preserved : goal.loop-low-2-preserved
loop-low-2-preserved g c =
    let here : c.loop-low-2.low < length c.args.entries.now = omega arith in
    record {
      before = search_past g.K.Ord.cmp g.met.K.Ord.total c.args.key c.args.entries.now _ c.index-entries-low.result c.requires here (tested _ c.cmp-in-loop-low-2.result c.is_lt-in-loop-low-2.result true c.cmp-in-loop-low-2.ensures c.is_lt-in-loop-low-2.ensures c.if-is_lt-2.true);
      after = c.loop-low-2.invariant.after;
      within = c.loop-low-2.invariant.within;
    }

pub returns-else-is_lt-2-clause-place : goal.returns-else-is_lt-2-clause-place
returns-else-is_lt-2-clause-place g c =
    let here : c.loop-low-2.low < length c.args.entries.now = omega arith in
    let up = search_within g.K.Ord.cmp g.met.K.Ord.total c.args.key c.args.entries.now _ c.index-entries-low.result here (tested _ c.cmp-in-loop-low-2.result c.is_lt-in-loop-low-2.result false c.cmp-in-loop-low-2.ensures c.is_lt-in-loop-low-2.ensures c.if-is_lt-2.false) in
    let low = c.loop-low-2.invariant.before in
    omega (arith, up, low)
