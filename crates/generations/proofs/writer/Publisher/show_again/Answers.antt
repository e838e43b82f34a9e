use Rattle.std.proofs.Common.{◌≡◌}
use Rattle.generations.proofs.Sharing.{looks_again}
use Rattle.generations.proofs.writer.Publisher.show_again.Goals as goal

pub publish_as-writer-requires : goal.publish_as-writer-requires
publish_as-writer-requires g c next is =
    let x = c.args.self.writer.desk.shown.value in
    let same : next ≡ x = rw c.requires.pending at is in
    looks_again _ _ x next same
