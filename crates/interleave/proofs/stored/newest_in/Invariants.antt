use Rattle.std.proofs.Common.{◌≡◌, take, map}
use Rattle.generations.specs.Notices.{notice_of}
use Rattle.event_model.specs.Answers.{newest_number}
use Rattle.interleave.proofs.stored.newest_in.Given as goal

abbrev pub invariant-loop-posting : goal.invariant-loop-posting
invariant-loop-posting l = l.newest ≡ newest_number (map notice_of (take l.posting-index l.postings))
