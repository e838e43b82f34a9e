use Rattle.std.proofs.Common.{◌≡◌, take, map}
use Rattle.generations.specs.Notices.{notice_of}
use Rattle.generations.specs.Boards.{board_of}
use Rattle.interleave.proofs.stored.board_after.Given as goal

abbrev pub invariant-loop-posting : goal.invariant-loop-posting
invariant-loop-posting l = l.board ≡ board_of l.starts l.start (map notice_of (take l.posting-index l.postings))
