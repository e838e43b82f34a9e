use Rattle.std.proofs.Common.{◌≡◌, ap, rules, arith, ◌+◌, length}
use Rattle.layout_2.specs.Loading.{state_of, stands_for}
use Rattle.layout_2.specs.Records.{Area, entries_of}
use Rattle.layout_2.proofs.Folds.{after_count}
use Rattle.device_info.proofs.figures.info_of.Goals as goal

pub returns-clause-figures : goal.returns-clause-figures
returns-clause-figures g c model =
    let l = c.in_ok-loaded.loaded in
    let found = c.in_ok-loaded.ensures.ok in
    let more : l.count ≡ l.base_count + length (entries_of l.journal.groups) = after_count _ _ _ found.parts.folds in
    let room = ap (λ (a : Area). a.room) found.parts.area in
    record {
      state = state_of l;
      stands = stands_for l (g.D.Disk.view c.args.disk.now).content found.parts (found.of_model model).in_use.stands;
      nodes = c.nodes.ensures.nodes;
      edges = c.edges.ensures;
      count = search rules;
      held = c.in-Ok.ensures;
      slot = search rules;
      epoch = search rules;
      journal = omega (arith, more, c.saturating_sub.ensures);
      room = omega (arith, room, c.room_left.ensures);
    }
