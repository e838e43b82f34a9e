use Rattle.std.proofs.Common.{◌≡◌, ◌∙◌, subst, sym}
use Rattle.std.specs.Prelude.{OnOk}
use Rattle.committer.specs.Listed.{StaysListedSo}
use Rattle.committer_thread.specs.Kept.{IsOnCourse, PostsAlong}
use Rattle.committer_thread.specs.Pace.{IsBegun}
use Rattle.request_lists.specs.declared.builds.Builds.{Builds}
use Rattle.request_lists.specs.declared.builds.Builds.TheVariants.{InTurn, Beside}
use Rattle.live_service.specs.ServedList.{builds_of}
use Rattle.live_service.proofs.engine.commit_lines.Goals as goal

pub commit_all-requires-clause-shown : goal.commit_all-requires-clause-shown
commit_all-requires-clause-shown g c κs within =
    let here : builds_of g.J.Stream.input ≡ InTurn = sym c.requires.builds ∙ c.in-InTurn.is in
    let begun : IsBegun InTurn c.args.committer.now = subst (λ (b : Builds). IsBegun b c.args.committer.now) here c.requires.begun in
    begun

pub commit_beside-requires-clause-bare : goal.commit_beside-requires-clause-bare
commit_beside-requires-clause-bare g c κs within =
    let here : builds_of g.J.Stream.input ≡ Beside = sym c.requires.builds ∙ c.in-Beside.is in
    let begun : IsBegun Beside c.args.committer.now = subst (λ (b : Builds). IsBegun b c.args.committer.now) here c.requires.begun in
    begun

pub returns-in-InTurn-clause-listed : goal.returns-in-InTurn-clause-listed
returns-in-InTurn-clause-listed g c = subst (λ b. StaysListedSo b c.args.committer.now c.commit_all.new.committer) (sym c.in-InTurn.is ∙ c.requires.builds) c.commit_all.ensures.listed

pub returns-in-InTurn-clause-posted : goal.returns-in-InTurn-clause-posted
returns-in-InTurn-clause-posted g c = subst (λ b. PostsAlong b c.args.committer.now c.commit_all.new.committer) (sym c.in-InTurn.is ∙ c.requires.builds) c.commit_all.ensures.posted

pub returns-in-InTurn-clause-all : goal.returns-in-InTurn-clause-all
returns-in-InTurn-clause-all g c = subst (λ b. OnOk c.commit_all.result (IsOnCourse b c.args.committer.now c.commit_all.new.committer)) (sym c.in-InTurn.is ∙ c.requires.builds) c.commit_all.ensures.all

pub returns-clause-listed : goal.returns-clause-listed
returns-clause-listed g c = subst (λ b. StaysListedSo b c.args.committer.now c.commit_beside.new.committer) (sym c.in-Beside.is ∙ c.requires.builds) c.commit_beside.ensures.listed

pub returns-clause-posted : goal.returns-clause-posted
returns-clause-posted g c = subst (λ b. PostsAlong b c.args.committer.now c.commit_beside.new.committer) (sym c.in-Beside.is ∙ c.requires.builds) c.commit_beside.ensures.posted

pub returns-clause-all : goal.returns-clause-all
returns-clause-all g c = subst (λ b. OnOk c.commit_beside.result (IsOnCourse b c.args.committer.now c.commit_beside.new.committer)) (sym c.in-Beside.is ∙ c.requires.builds) c.commit_beside.ensures.all
