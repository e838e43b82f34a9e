use Rattle.device_commands.specs.Openings.{IsOpenFault}
use Rattle.file_commands.specs.Endings.{IsReadingEnd}
use Rattle.file_commands.proofs.OnDevices.{reading_end, ticket_printed, told_of}
use Rattle.file_commands.proofs.on_device.resume_on.Goals as goal

pub returns : goal.returns
returns g c =
    let by = c.resume-answer.ensures in
    let disk = g.D.Disk.view c.args.disk in
    let left = g.D.Disk.view c.resume-answer.result.1 in
    record {
      ran = by.reading.ran;
      leaves = by.reading.reads;
      ends = record {
        printed = ticket_printed c.print_ticket.result c.resume-answer.result.0 c.args.session disk left (g.O.Write.contents c.args.out.now) (g.O.Write.contents c.print_ticket.new.out)
            by.of_one by.of_content c.print_ticket.ensures.printed;
        fault = told_of c.print_ticket.result c.resume-answer.result.0 (λ fault. IsReadingEnd IsOpenFault disk left fault) c.print_ticket.ensures.fault
            (reading_end c.resume-answer.result.0 IsOpenFault disk left by.faults by.reading);
        untouched = c.print_ticket.ensures.untouched;
      };
    }
