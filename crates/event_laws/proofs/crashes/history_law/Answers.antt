use Rattle.event_laws.proofs.RunLemmas.{Laws, after_first, begins, goes_on, moments_rise, stays_run, now_counts}
use Rattle.event_laws.proofs.crashes.history_law.Goals as goal

pub returns : goal.returns
returns g c =
    let laws : Laws = record { in_parts = c.settling_law.ensures.in_parts; lead = c.settling_law.ensures.lead; count_rises = c.settling_law.ensures.count_rises } in
    record {
      begins = λ first disk. begins first (g.D.Disk.view disk);
      goes_on = λ first old new. goes_on laws first (g.D.Disk.view old) (g.D.Disk.view new);
      moments_rise = λ old new. moments_rise laws (g.D.Disk.view old) (g.D.Disk.view new);
      stays_run = λ first old new. stays_run first (g.D.Disk.view old) (g.D.Disk.view new);
      now_counts = λ first disk. now_counts first (g.D.Disk.view disk);
      after_first = after_first laws;
    }
