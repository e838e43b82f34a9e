use Rattle.std.specs.Arc.{arc_value}
use Rattle.test_committer.proofs.Posting.{next_lawful, next_row}
use Rattle.test_committer.proofs.forged.networks.post_scheme.Goals as goal

pub post-requires-clause-lawful : goal.post-requires-clause-lawful
post-requires-clause-lawful g c = next_lawful c.args.writer.now c.args.posted (arc_value c.args.scheme) c.requires.row c.kept-kept.ensures.lawful

pub returns : goal.returns
returns g c = record { row = next_row c.args.writer.now c.post.new.writer c.args.posted (arc_value c.args.scheme) c.requires.row c.post.ensures }
