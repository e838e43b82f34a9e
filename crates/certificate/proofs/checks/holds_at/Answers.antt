use Rattle.certificate.proofs.Words.{arith, subst, k7, rule_of, HoldsBefore}
use Rattle.certificate.proofs.Rules.{first_of}
use Rattle.certificate.proofs.checks.holds_at.Goals as goal

pub has_labels_at-requires : goal.has_labels_at-requires
has_labels_at-requires c =
    first_of c.args.graph.now c.args.scheme.now c.requires.sound k7 (omega arith) (subst (λ f. HoldsBefore c.args.graph.now c.args.scheme.now (rule_of f)) c.in-Labels.is c.requires.before)
