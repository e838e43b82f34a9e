use Rattle.std.proofs.Common.{◌≡◌, ap, sym, ◌∙◌, subst}
use Rattle.generations.specs.declared.replica.Replica.{Replica}
use Rattle.generations.specs.Beginnings.{GoesOn, board_after}
use Rattle.generations.proofs.Sharing.{sees, goes_self, none_folded}
use Rattle.generations.proofs.seats.board.Goals as goal

pub publish_as-writer-requires : goal.publish_as-writer-requires
publish_as-writer-requires g c next is =
    let o = c.in_ok-writer.ensures in
    let now = c.in_ok-writer.writer.desk.shown.value in
    let same : next ≡ now = rw o.1 at is in
    let h : now.history ≡ c.open-head.result.1 = ap (λ (x : Replica). x.history) o.0 ∙ c.again.ensures in
    let folded : now.board ≡ board_after now.history = ap (λ (x : Replica). x.board) o.0 ∙ (c.new.ensures ∙ (none_folded c.open-head.result.1 _ _ c.open-head.ensures.log c.open-head.ensures.starts c.open-head.ensures.count ∙ sym (ap board_after h))) in
    let P : Replica → Type 0 = λ y. y.board ≡ board_after y.history in
    let Q : Replica → Type 0 = λ y. GoesOn now.history y.history in
    sees _ _ now next (subst P (sym same) folded) (subst Q (sym same) (goes_self now.history))
