-- What a refused post leaves.
use Rattle.std.specs.Prelude.{◌≡◌}
use Rattle.generations.specs.declared.posting.Posting.{Posting}
use Rattle.generations.specs.declared.writer.PostRefused.{PostRefused}
use Rattle.generations.specs.declared.writer.PostRefused.TheVariants.{Back, Kept}
use Rattle.generations.specs.Notices.{notice_of}
use Rattle.generations.specs.Posts.{Posts, with_kept}

-- back, and nothing changed; or kept behind what was posted
abbrev pub IsRefused : Posting → Posts → Posts → PostRefused → Type 0
IsRefused p old new (Back q) = (q ≡ p) × (new ≡ old)
IsRefused p old new Kept = new ≡ with_kept old (notice_of p)
