use Rattle.certificate.proofs.records.is_swept_alone.Goals as goal

pub is_swept-requires-clause-ahead : goal.is_swept-requires-clause-ahead
is_swept-requires-clause-ahead c = c.nothing.ensures c.args.scheme.now c.args.entry.now.root
