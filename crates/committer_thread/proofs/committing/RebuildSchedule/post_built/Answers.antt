use Rattle.std.proofs.Common.{rules, ◌≡◌, Some, refl}
use Rattle.committer_thread.proofs.OnWay.{goes_listed, goes_posted, goes_way}
use Rattle.committer_thread.proofs.committing.RebuildSchedule.post_built.Goals as goal

pub post-requires-clause-way : goal.post-requires-clause-way
post-requires-clause-way g c κs within =
    let some : c.args.self.now.building ≡ Some c.in-Some.build = search rules in
    goes_way c.requires.goes.0 c.args.committer.now c.args.self.now c.in-Some.build c.requires.goes.1 some

pub returns-in_err-number-clause-listed : goal.returns-in_err-number-clause-listed
returns-in_err-number-clause-listed g c first goes = goes_listed first c.args.committer.now c.post.new.committer c.args.self.now goes c.post.ensures.listed

pub returns-clause-listed : goal.returns-clause-listed
returns-clause-listed g c first goes = goes_listed first c.args.committer.now c.post.new.committer c.args.self.now goes c.post.ensures.listed

pub returns-clause-goes : goal.returns-clause-goes
returns-clause-goes g c first goes =
    let some : c.args.self.now.building ≡ Some c.in-Some.build = search rules in
    goes_posted first c.args.committer.now c.post.new.committer c.args.self.now _ c.in-Some.build c.in_ok-number.number goes some c.post.ensures.only.stays c.post.ensures.listed c.in_ok-number.ensures.number c.in_ok-number.ensures.shown refl c.take.ensures.after
