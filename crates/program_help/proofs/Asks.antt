-- What two words ask for.
use Rattle.std.proofs.Common.{◌≡◌, ◌≤◌, ◌<◌, ℕ, List, [], ◌∷◌, Some, None, codes, length, refl, arith}
use Rattle.std.specs.Prelude.{slice_index_or}
use Rattle.std.specs.Borrow.{Bor}
use Rattle.program_help.specs.Asking.{IsAskedIn, texts_of}
use Rattle.program_help.specs.declared.asking.Asked.TheVariants.{Of}

pub help_of : (words : List (Bor (List ℕ))) (d : Bor (List ℕ)) → 2 ≤ length words → length words < 3 → (slice_index_or words 0 d).now ≡ codes "help" → IsAskedIn (texts_of words) (Some (Of (slice_index_or words 1 d)))
help_of [] d least most is = absurd (omega arith)
help_of (a ∷ []) d least most is = absurd (omega arith)
help_of (a ∷ b ∷ []) d least most is = (is, refl)
help_of (a ∷ b ∷ c ∷ words) d least most is = absurd (omega arith)
