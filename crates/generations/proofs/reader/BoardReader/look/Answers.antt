use Rattle.generations.proofs.Sharing.{looks}
use Rattle.generations.proofs.reader.BoardReader.look.Goals as goal

pub enter_as-requires : goal.enter_as-requires
enter_as-requires c x = looks _ _ x
