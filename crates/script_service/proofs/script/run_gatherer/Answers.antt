use Rattle.std.proofs.Common.{⊎_elim, ◌∙◌, ap, subst, sym}
use Rattle.std.specs.Prelude.{◌≡◌, ◌≢◌, IfSome}
use Rattle.std.specs.String.{string_bytes}
use Rattle.command_output.specs.declared.fault.Fault.TheVariants.{Output}
use Rattle.line_exchange.specs.Ends.{fault_of}
use Rattle.line_exchange.specs.Gathers.{BreaksOff, PrintsAtEnd}
use Rattle.live_service.specs.ServedList.{builds_of}
use Rattle.live_service.proofs.Ended.{broken_if, ran_broken, ran_of}
use Rattle.script_service.proofs.GatheredLines.{script_broken, script_gathered, script_served}
use denote.Param.Send.{sendable}
use Rattle.std.proofs.Crossing.{crosses}
use Rattle.device_files.proofs.Sending.{file_send}
use Rattle.new_devices.proofs.Sending.{none_send}
use Rattle.script_service.proofs.script.run_gatherer.Goals as goal

pub serve_opened-gatherer-requires-send-A-Devices : goal.serve_opened-gatherer-requires-send-A-Devices
serve_opened-gatherer-requires-send-A-Devices g c κs within = search (crosses, sendable, none_send) depth 60

pub serve_opened-gatherer-requires-send-A-Devices-Device : goal.serve_opened-gatherer-requires-send-A-Devices-Device
serve_opened-gatherer-requires-send-A-Devices-Device g c κs within = search (crosses, sendable, file_send) depth 60

pub serve_opened-gatherer-requires-clause-builds : goal.serve_opened-gatherer-requires-clause-builds
serve_opened-gatherer-requires-clause-builds g c κs within = c.requires.builds ∙ sym (ap builds_of c.requires.script)

pub returns-clause-same_out : goal.returns-clause-same_out
returns-clause-same_out g c = ⊎_elim (λ ran. ran.finishing.0 ∙ ran.printing.0) (λ none. none.finishing.0) c.serve_opened-gatherer.ensures.console

pub returns-clause-served : goal.returns-clause-served
returns-clause-served g c =
    let run = c.serve_opened-gatherer.ensures in
    let input = g.J.Stream.input in
    let editors = g.J.Stream.editors in
    let ended = c.serve_opened-gatherer.result.1 in
    let outlet = g.O.AnswerWriter in
    let script = c.args.script.items in
    let old = c.args.gatherer.out.now in
    let now = c.serve_opened-gatherer.result.0.out.now in
    record {
      printed = λ is.
          let ran = ran_of run is in
          let text = string_bytes ran.mid.text in
          script_served outlet input script editors ran.printed ran.given ended text old now c.requires.script ran.printing.3 (subst (λ o. PrintsAtEnd outlet text o now ran.given ended) ran.printing.1 ran.finishing.1) ran.print_end is;
      broken = broken_if (fault_of ended) (BreaksOff outlet script old now) (λ is.
          let ran = ran_broken run is in
          let text = string_bytes ran.mid.text in
          script_broken outlet input script editors ran.printed ran.given ended text old now c.requires.script ran.printing.2 ran.printing.3 (subst (λ o. PrintsAtEnd outlet text o now ran.given ended) ran.printing.1 ran.finishing.1) ran.print_end is);
      untouched = ⊎_elim (λ ran. subst (λ o. IfSome (fault_of ended) (λ fault. fault ≢ Output → now ≡ o)) ran.printing.1 ran.finishing.2) (λ none. none.finishing.2) run.console;
      engine_end = run.engine_end;
      one_list = λ is.
          let ran = ran_of run is in
          let text = string_bytes ran.mid.text in
          script_gathered outlet g.J.Stream c.args.opened.store ran.printed ran.given ended text old now c.serve_opened-gatherer.result.2 ran.printing.3
          (subst (λ o. PrintsAtEnd outlet text o now ran.given ended) ran.printing.1 ran.finishing.1) ran.print_end ran.one_list is;
    }
