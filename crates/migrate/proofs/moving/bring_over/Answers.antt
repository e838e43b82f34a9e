use Rattle.std.proofs.Common.{ℕ, List, inl, inr, ⊎_elim}
use Rattle.disk_trait.specs.Disk.{DiskView, LeavesOnly, weaker}
use Rattle.graph_edits.specs.Edges.{Network}
use Rattle.checkpoint.specs.Whole.{without_tickets, StandsForNoneOr}
use Rattle.migrate.specs.Moved.{Held, HoldsNoneOrAllOf}
use Rattle.migrate.proofs.moving.bring_over.Goals as goal

-- what leaves nothing or this state leaves nothing or all that the old content stands for
none_or_all : (old : List ℕ) (before after : DiskView) (count : ℕ) (graph : Network) → Held count graph old → LeavesOnly before after (StandsForNoneOr (without_tickets count graph)) → LeavesOnly before after (HoldsNoneOrAllOf old)
none_or_all old before after count graph held run =
    weaker before after (StandsForNoneOr (without_tickets count graph)) (HoldsNoneOrAllOf old) run (λ image is. ⊎_elim inl (λ all. inr (count, graph, held, all)) is)

pub returns-in-Ok-clause-ok : goal.returns-in-Ok-clause-ok
returns-in-Ok-clause-ok g c old_model new_model =
    let written = c.in-Ok.ensures.ok.of_model new_model in
    record {
      graph = c.in_ok-count.graph;
      edges = c.edges-edges.ensures;
      held = c.in_ok-count.ensures.ok old_model;
      holds = written.stands;
      left = written.left;
      fresh = written.fresh;
      fresh_left = written.fresh_left;
    }

pub returns-in-Ok-clause-any_moment : goal.returns-in-Ok-clause-any_moment
returns-in-Ok-clause-any_moment g c old_model new_model foreign =
    none_or_all (g.O.Disk.view c.args.old.now).content (g.N.Disk.view c.args.new.now) (g.N.Disk.view c.write_state.new.disk) c.in_ok-count.count c.in_ok-count.graph (c.in_ok-count.ensures.ok old_model) (c.write_state.ensures.any_moment new_model foreign)

pub returns-clause-any_moment : goal.returns-clause-any_moment
returns-clause-any_moment g c old_model new_model foreign =
    none_or_all (g.O.Disk.view c.args.old.now).content (g.N.Disk.view c.args.new.now) (g.N.Disk.view c.write_state.new.disk) c.in_ok-count.count c.in_ok-count.graph (c.in_ok-count.ensures.ok old_model) (c.write_state.ensures.any_moment new_model foreign)
