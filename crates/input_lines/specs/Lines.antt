-- The lines of bytes.
use Rattle.std.specs.Prelude.{ℕ, zero, suc, ◌==◌, if◌then◌else◌, Option, List, [], ◌∷◌, slice_get}
use Rattle.std.specs.Io.BufRead.{drop_through}

-- the byte that ends a line
abbrev pub line_feed : ℕ
line_feed = 10

-- how many bytes a line has at most that is looked at
abbrev pub longest_line : ℕ
longest_line = 65536

-- the bytes before the first line feed, or all where there is none
abbrev pub first_line : List ℕ → List ℕ
first_line [] = []
first_line (x ∷ xs) = if x == line_feed then [] else x ∷ first_line xs

-- the bytes behind the first line feed, or none where there is none
abbrev pub after_line : List ℕ → List ℕ
after_line xs = drop_through line_feed xs

-- the bytes behind the first k lines
abbrev pub after_lines : ℕ → List ℕ → List ℕ
after_lines zero xs = xs
after_lines (suc k) xs = after_line (after_lines k xs)

-- a byte goes before the first of lines, or is a line where there is none
abbrev pub in_front : ℕ → List (List ℕ) → List (List ℕ)
in_front x [] = (x ∷ []) ∷ []
in_front x (line ∷ lines) = (x ∷ line) ∷ lines

-- the lines without their line feeds; what stands behind the last line feed is a line too where it isn't empty
abbrev pub lines_in : List ℕ → List (List ℕ)
lines_in [] = []
lines_in (x ∷ xs) = if x == line_feed then [] ∷ lines_in xs else in_front x (lines_in xs)

-- the line at a place, the first at 0, if there is one
abbrev pub line_at : List ℕ → ℕ → Option (List ℕ)
line_at xs k = slice_get (lines_in xs) k
