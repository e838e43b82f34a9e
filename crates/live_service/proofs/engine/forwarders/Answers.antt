use Rattle.std.specs.Prelude.{◌≡◌}
use Rattle.std.proofs.lemmas.List.Elements.{All-pop}
use Rattle.generations.specs.Knowledges.{Knowledge}
use Rattle.live_service.proofs.engine.forwarders.Goals as goal

pub loop-readers-preserved : goal.loop-readers-preserved
loop-readers-preserved g c =
    (All-pop (λ (r : Knowledge). r.all.opening ≡ g.B.BoardName.opening) c.loop-readers.readers.items c.pop.new.self.items c.pop.result c.pop.ensures.items c.loop-readers.invariant).0
