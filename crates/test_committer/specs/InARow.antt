-- Generations posted one after another.
use Rattle.std.specs.Prelude.{◌≡◌, ℕ, ◌≤◌, ◌<◌, ◌++◌, ◌∷◌, [], false, length, slice_index}
use Rattle.generations.specs.declared.posting.Notice.{Notice}
use Rattle.generations.specs.Lawful.{IsLawful}
use Rattle.generations.specs.Notices.{numbers_in, says_down}
use Rattle.generations.specs.Posts.{Posts}

-- all is posted, of generations none is above n, and the device didn't fail
pub record IsInARow (w : Posts) (n : ℕ) : Type 0 where
  pub kept : w.kept ≡ []
  pub up : says_down w.posted ≡ false
  pub numbers : (k : ℕ) → k < length (numbers_in w.posted) → slice_index (numbers_in w.posted) k ≤ n

-- this may be posted behind what was
abbrev pub MayFollow : Posts → Notice → Type 0
MayFollow w notice = IsLawful w.opening.starts w.opening.count (w.posted ++ notice ∷ [])
