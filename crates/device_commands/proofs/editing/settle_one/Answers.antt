use Rattle.std.proofs.Common.{◌≡◌, ◌<◌, ◌≢◌, ◌∙◌, rules, ap, length, subst, IfErr, ⊎_elim}
use Rattle.requests.specs.Tickets.{sessions}
use Rattle.command_output.specs.declared.fault.Fault.TheVariants.{Device}
use Rattle.checkpoint.specs.StoreWords.{state_of}
use Rattle.device_commands.specs.Answer.{last_ticket, state_under, ticket_of}
use Rattle.device_commands.specs.Edits.{IsSettledTo}
use Rattle.device_commands.proofs.OneRequest.{untouched}
use Rattle.device_commands.proofs.Found.{found_settled}
use Rattle.device_commands.proofs.editing.settle_one.Goals as goal

pub returns-in-Err-clause-settled : goal.returns-in-Err-clause-settled
returns-in-Err-clause-settled g c = untouched c.args.store _ _ c.in-Err.fault c.requires.up (λ same. ⊎_elim (λ is. absurd cc) (λ is. absurd cc) c.in-Err.ensures.faults)

-- of a change whose ticket is new: what became of it, and what a fault leaves
became : (g : _) (c : goal.After-found g) → IsSettledTo (state_under (state_of c.args.store) c.args.session c.in-Ok.ticket c.args.change) c.args.change c.args.store c.settled-answer.result.1 c.found.result
    × IfErr c.found.result (λ fault. fault ≢ Device → state_of c.settled-answer.result.1 ≡ state_of c.args.store)
became g c =
    let wide : length (state_of c.args.store).tickets ≡ sessions = search rules in
    let less : last_ticket (state_of c.args.store) c.args.session < c.in-Ok.ticket = subst (λ last. last < c.in-Ok.ticket) c.resume.ensures c.in-Ok.ensures.new in
    found_settled c.args.store c.settled-answer.result.1 c.args.session c.in-Ok.ticket c.args.change wide c.requires.there less c.settled-answer.result.0 c.found.result c.found.ensures.told c.found.ensures.untold c.settled-answer.ensures.settled

pub returns-in-Ok-clause-settled : goal.returns-in-Ok-clause-settled
returns-in-Ok-clause-settled g c =
    let state = state_of c.args.store in
    let same : c.in-Ok.ticket ≡ ticket_of (last_ticket state c.args.session) c.args.named = c.in-Ok.ensures.ticket ∙ ap (λ last. ticket_of last c.args.named) c.resume.ensures in
    subst (λ t. IsSettledTo (state_under state c.args.session t c.args.change) c.args.change c.args.store c.settled-answer.result.1 c.found.result) same (became g c).0

pub returns-in-Ok-clause-kept : goal.returns-in-Ok-clause-kept
returns-in-Ok-clause-kept g c = (became g c).1
