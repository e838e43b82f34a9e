use Rattle.std.proofs.Common.{Some, inl, inr, subst}
use Rattle.checkpoint.specs.declared.store.Store.{Store}
use Rattle.command_output.specs.declared.fault.Fault.TheVariants.{NoThread}
use Rattle.live_service.specs.ServedList.{EndsServed}
use Rattle.live_service.proofs.Ended.{finished_so, thread_ended}
use Rattle.live_service.proofs.OneListed.{same_board, served_on}
use Rattle.live_service.proofs.running.fn.run_threads.scope.Goals as goal

pub returns : goal.returns
returns g c =
    let store = c.captures.parts.opened.store in
    let printed = c.print-console.result.1 in
    let engine = c.join-ended.result.0 in
    let back = c.join-ended.result.1 in
    let ends : EndsServed g.B.BoardName.opening g.J.Stream store engine (g.A.Device.Disk.view back) =
    subst (λ (s : Store g.row.A-Device.Denot g.A.Device.Disk). EndsServed g.B.BoardName.opening g.J.Stream s engine (g.A.Device.Disk.view back)) c.in-Ok.ensures.made c.join-ended.ensures in
    record {
      engine_end = (engine, record { disk = ends.disk; fault = c.conclude-console.ensures.fault });
      console = inl (record {
        mid = c.print-console.result.0;
        printed = printed;
        given = c.conclude-console.result.1;
        printing = c.print-console.ensures.prints;
        finishing = c.conclude-console.ensures.finishes;
        print_end = c.conclude-console.ensures.printed;
        one_list = λ is. served_on g.B.BoardName.opening g.J.Stream store engine printed.tally back (c.conclude-console.ensures.on is) ends;
      });
    }

pub returns-in-Err : goal.returns-in-Err
returns-in-Err g c =
    let fault = finished_so NoThread c.finish-console.result.1 c.finish-console.ensures.fault in
    record {
      engine_end = thread_ended c.captures.parts.opened.store c.finish-console.result.1 c.in-Err.disk c.in-Err.ensures.unmade fault;
      console = inr (record { given = Some NoThread; finishing = c.finish-console.ensures.finishes; lacks = inr fault });
    }

pub conclude-console-requires : goal.conclude-console-requires
conclude-console-requires g c = same_board c.join-ended.result.0 c.print-console.result.1.tally g.B.BoardName.opening g.J.Stream.book c.print-console.ensures.opening c.print-console.ensures.book c.join-ended.ensures.named
