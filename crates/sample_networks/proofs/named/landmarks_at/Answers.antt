use Rattle.std.proofs.Common.{◌∙◌, ◌<◌, ◌≤◌, ◌^◌, arith}
use Rattle.sample_networks.proofs.NamedLemmas.{as_many, named_are}
use Rattle.sample_networks.proofs.named.landmarks_at.Goals as goal

pub choose-requires-clause-words : goal.choose-requires-clause-words
choose-requires-clause-words c = as_many c.args.nodes c.args.at.now c.deref.result.now (c.deref.ensures.value ∙ c.in_ok-words.ensures)

pub choose-requires-in-Err-clause-words : goal.choose-requires-in-Err-clause-words
choose-requires-in-Err-clause-words c = as_many c.args.nodes c.args.at.now c.deref-in-Err.result.now (c.deref-in-Err.ensures.value ∙ c.in_ok-words.ensures)

pub returns-in-Ok : goal.returns-in-Ok
returns-in-Ok c =
    let some : 1 ≤ c.args.nodes = omega arith in
    let few : c.args.nodes < 2 ^ 16 = omega arith in
    record { ok = named_are c.args.nodes c.args.at.now c.deref.result.now c.in-Ok.landmarks some few (c.deref.ensures.value ∙ c.in_ok-words.ensures) c.in-Ok.ensures }

pub returns : goal.returns
returns c =
    let some : 1 ≤ c.args.nodes = omega arith in
    let few : c.args.nodes < 2 ^ 16 = omega arith in
    record { ok = named_are c.args.nodes c.args.at.now c.deref-in-Err.result.now c.in_ok-choose-in-Err.field-0 some few (c.deref-in-Err.ensures.value ∙ c.in_ok-words.ensures) c.in_ok-choose-in-Err.ensures }
