use Rattle.std.proofs.Common.{rules}
use Rattle.committer.specs.CommitterWords.{got_of}
use Rattle.live_service.proofs.Noting.{joined_more}
use Rattle.live_service.proofs.engine.joined_next.Goals as goal

pub returns-clause-more : goal.returns-clause-more
returns-clause-more g c got same are =
    joined_more g.J.Stream.book g.J.Stream.input g.J.Stream.editors got (got_of c.args.committer.now) c.in-Some.editor.editor c.in-Some.noted c.args.ended _ same are (search rules) (search rules) (search rules) (search rules) (search rules)
    (search rules) (search rules) (search rules) (search rules)
