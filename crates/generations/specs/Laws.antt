-- What the list of a board is good for.
use Rattle.std.specs.Prelude.{◌≡◌, ℕ, ◌+◌, List, [], ◌∷◌, ◌++◌, length, map, fold, false}
use Rattle.std.specs.List.Sorted.{IsStrictlyIncreasing}
use mathlib.Core.List.{IsPrefix}
use Rattle.requests.specs.Tickets.{Rises}
use Rattle.generations.specs.declared.posting.Notice.{Notice}
use Rattle.generations.specs.Notices.{told_to, counts_of, marks_of, marks_in, generation_of, numbers_in, says_down}
use Rattle.generations.specs.Boards.{accepting, board_of}
use Rattle.generations.specs.Lawful.{AreCounted, IsLawful}

-- the empty list is lawful
abbrev pub NoneIsLawful : Type 0
NoneIsLawful = (starts : List ℕ) (start : ℕ) → IsLawful starts start []

-- a beginning of a lawful list is lawful
abbrev pub BeginningIsLawful : Type 0
BeginningIsLawful = (starts : List ℕ) (start : ℕ) (first log : List Notice) → IsPrefix first log → IsLawful starts start log → IsLawful starts start first

-- one notice more is lawful where its marks and its number go on lawfully behind no failure
abbrev pub NextIsLawful : Type 0
NextIsLawful = (starts : List ℕ) (start : ℕ) (log : List Notice) (p : Notice) → IsLawful starts start log → says_down log ≡ false
    → Rises starts (map told_to (marks_in log ++ marks_of p)) → AreCounted start (counts_of (marks_in log ++ marks_of p)) → IsStrictlyIncreasing (numbers_in log ++ map (λ g. g.0) (generation_of p))
    → IsLawful starts start (log ++ p ∷ [])

-- a board's last accepted tickets are what its marks told, one after another
abbrev pub AcceptedAsTold : Type 0
AcceptedAsTold = (starts : List ℕ) (start : ℕ) (log : List Notice) → (board_of starts start log).accepted ≡ fold accepting starts (marks_in log)

-- and so is its count: of a lawful list it is the start and as many as there are Accepted marks
abbrev pub CountAsTold : Type 0
CountAsTold = (starts : List ℕ) (start : ℕ) (log : List Notice) → IsLawful starts start log → (board_of starts start log).count ≡ start + length (counts_of (marks_in log))
