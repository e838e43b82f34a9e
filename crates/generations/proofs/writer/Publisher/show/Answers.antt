use Rattle.std.proofs.Common.{◌≡◌, ◌∷◌, [], drop}
use Rattle.generations.specs.Boards.{after}
use Rattle.generations.specs.Notices.{notice_of}
use Rattle.generations.proofs.Sharing.{sees, next_goes}
use Rattle.generations.proofs.writer.Publisher.show.Goals as goal

pub publish_as-writer-requires : goal.publish_as-writer-requires
publish_as-writer-requires g c next is =
    let w = c.args.self.writer in
    let e = c.requires.pending.0 in
    let last = c.requires.pending.1 in
    let one : drop w.behind w.log.items ≡ e ∷ [] = c.requires.pending.2 in
    let y : next ≡ record { board = after w.desk.shown.value.board (notice_of e.posting); history = e.history } = rw one at is in
    let n = next_goes w.desk.shown.value c.args.posted.now c.args.all.now e c.requires.shown.history c.requires.shown.board last.0 last.1 next y in
    sees _ _ w.desk.shown.value next n.0 n.1
