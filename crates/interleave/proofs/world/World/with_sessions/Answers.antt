use Rattle.std.proofs.Common.{◌≡◌, [], length, Bool, sym, ap, ◌∙◌, subst}
use Rattle.checkpoint.specs.StoreWords.{state_of, view_of, disk_of, is_down, stands_now}
use Rattle.layout_2.specs.State.{State}
use Rattle.group_commit.specs.DeskWords.{store_of}
use Rattle.event_laws.specs.History.{Lists, lists_begun as opened}
use Rattle.event_laws.specs.Runs.{IsRun}
use Rattle.event_model.specs.Machines.{Machine}
use Rattle.event_laws.specs.OneLife.{history_of}
use Rattle.event_laws.specs.Listed.{IsListed}
use Rattle.event_laws.specs.Ways.{AreOnWay}
use Rattle.interleave.specs.WorldWords.{lists_of, world_view}
use Rattle.interleave.proofs.world.World.with_sessions.Goals as goal

pub returns : goal.returns
returns g c =
    let store = store_of c.args.desk in
    let s : State = state_of store in
    let w = c.fresh.result in
    let fresh = c.fresh.ensures.fresh in
    record {
      fresh = fresh;
      listed = subst (λ (m : Machine). IsListed s m) (sym fresh.machine)
          (c.lists_law.ensures.begins s c.args.capacity (length c.args.sessions.items) (is_down store) c.fresh.ensures.wide c.requires.sessions.1);
      on_way = subst (λ (m : Machine). AreOnWay m) (sym fresh.machine) (c.ways_law.ensures.begun c.args.capacity (length c.args.sessions.items) s (is_down store));
      run = λ model up.
          let base : IsRun s (view_of store) (opened s) [] = c.history_law.ensures.begins s (disk_of store) (stands_now store model up) in
          let lists : lists_of w ≡ opened s = ap history_of fresh.machine ∙ ap (λ (d : Bool). record (opened s) { down = d }) up in
          subst (λ (l : Lists). IsRun s (world_view w) l []) (sym lists) (subst (λ d. IsRun s (view_of (store_of d)) (opened s) []) (sym fresh.given) base);
    }
