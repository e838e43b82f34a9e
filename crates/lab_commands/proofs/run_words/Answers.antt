use Rattle.std.proofs.Common.{rules, inr, sym, ◌≡◌, ◌∙◌}
use Rattle.lab_commands.proofs.run_words.Goals as goal

pub returns-in-Ok-clause-printed : goal.returns-in-Ok-clause-printed
returns-in-Ok-clause-printed g c = λ zero.
    let unprinted : c.parsed.new.out ≡ c.args.out.now = search rules in
    let did = c.run_found.ensures.printed zero in
    inr (did.0, did.1, sym c.in-Ok.ensures.found ∙ did.2, rw unprinted at did.3)
