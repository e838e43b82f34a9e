use Rattle.std.proofs.Common.{Some, rules, inl, inr}
use Rattle.command_output.specs.declared.fault.Fault.TheVariants.{Memory}
use Rattle.live_service.proofs.Ended.{finished_so, memory_ended}
use Rattle.live_service.proofs.serving.unstarted.Goals as goal

pub returns : goal.returns
returns g c =
    let fault = finished_so Memory c.finish-console.result.1 c.finish-console.ensures.fault in
    record {
      engine_end = memory_ended c.args.opened.store c.finish-console.result.1 c.into_disk.result c.args.opened.up (search rules) fault;
      console = inr (record { given = Some Memory; finishing = c.finish-console.ensures.finishes; lacks = inl fault });
    }
