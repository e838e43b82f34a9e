use Rattle.std.proofs.Common.{◌≡◌, ◌++◌, List, subst}
use mathlib.Core.List.{IsPrefix}
use Rattle.requests.specs.declared.request.Request.{Request}
use Rattle.generations.specs.Beginnings.{Beginning}
use Rattle.intake.specs.Editors.{Editing}
use Rattle.intake.specs.Turns.{of}
use Rattle.committer.specs.CommitterWords.{got_of}
use Rattle.live_service.proofs.AllTaken.{all_taken, match_true}
use Rattle.live_service.proofs.engine.has_left_none.Goals as goal

pub returns-clause-taken : goal.returns-clause-taken
returns-clause-taken g c is =
    let whole = c.end-watcher.ensures.whole in
    let e = c.args.editor.editor in
    let given = c.into_editor.result in
    let got = got_of c.args.committer.now in
    let log = c.args.board.now.log in
    let put : given.put ≡ of given.session (got ++ whole.0) = subst (λ (l : List Request). given.put ≡ of given.session (l ++ whole.0)) c.end-watcher.ensures.same.1.0 whole.1 in
    let known : IsPrefix c.known-known.result.log log = match_true c.covers.result _ _ c.covers.ensures is in
    all_taken e c.args.editor.told c.requires.posted.1 got whole.0 log (subst (λ (x : Editing). x.put ≡ of x.session (got ++ whole.0)) c.into_editor.ensures.same put) c.args.editor.at_rest c.requires.posted.2
    (subst (λ (k : Beginning). IsPrefix k.log log) c.known-known.ensures.same known)
