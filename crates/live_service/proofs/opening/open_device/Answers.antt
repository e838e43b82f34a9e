use Rattle.std.proofs.Common.{rules, ◌≡◌, sym, subst, IsTrue}
use Rattle.disk_trait.specs.Disk.{IsSameDevice, OnlyRead}
use Rattle.checkpoint.specs.StoreWords.{state_of}
use Rattle.layout_2.specs.State.{State}
use Rattle.value_syntax.specs.Words.{IsWithin}
use Rattle.live_service.proofs.Telling.{not_opened}
use Rattle.live_service.proofs.opening.open_device.Goals as goal

pub returns-in-Err-clause-refused : goal.returns-in-Err-clause-refused
returns-in-Err-clause-refused g c = not_opened c.args.words.now _ _ c.in-Err.fault c.in-Err.ensures.refused

pub returns-then-not-is_within-clause-refused : goal.returns-then-not-is_within-clause-refused
returns-then-not-is_within-clause-refused g c =
    let opened = c.in-Ok.ensures.opened in
    let outside : IsTrue c.is_within.result → ⊥ = search rules in
    let beyond : ¬ (IsWithin c.args.words.now (state_of c.in-Ok.store).graph.nodes) = λ within. outside (c.is_within.ensures.1 (subst (λ n. IsWithin c.args.words.now n) (sym c.nodes.ensures) within)) in
    record {
      named = tt;
      tells = λ model. tt;
      words = λ model state stands _.
          let same : state_of c.in-Ok.store ≡ state = c.standing_law.ensures (state_of c.in-Ok.store) state _ (opened.of_model model).stands stands in
          subst (λ (s : State). ¬ (IsWithin c.args.words.now s.graph.nodes)) same beyond;
      of_one = λ _. (state_of c.in-Ok.store, beyond);
      device = λ is. absurd cc;
      reads = λ model. subst (λ d. OnlyRead (g.D.Disk.view c.args.disk) (g.D.Disk.view d)) (sym c.into_disk.ensures) (opened.of_model model).reads;
      ran = subst (λ d. IsSameDevice (g.D.Disk.view c.args.disk) (g.D.Disk.view d)) (sym c.into_disk.ensures) opened.ran;
    }

pub returns-in-Err-of-clause-refused : goal.returns-in-Err-of-clause-refused
returns-in-Err-of-clause-refused g c =
    let opened = c.in-Ok.ensures.opened in
    record {
      named = tt;
      tells = λ model. tt;
      words = λ model state stands is. absurd cc;
      of_one = λ is. absurd cc;
      device = λ is. absurd cc;
      reads = λ model. subst (λ d. OnlyRead (g.D.Disk.view c.args.disk) (g.D.Disk.view d)) (sym c.into_disk-in-Err-of.ensures) (opened.of_model model).reads;
      ran = subst (λ d. IsSameDevice (g.D.Disk.view c.args.disk) (g.D.Disk.view d)) (sym c.into_disk-in-Err-of.ensures) opened.ran;
    }
