-- The lines of a scheme's tables.
use Rattle.std.specs.Prelude.{ℕ, ◌+◌, ◌*◌, ◌/◌, ◌%◌, ◌==◌, cond, List, ◌++◌, Option, Some, None, codes, count_by, decimal, length, max, sum, fold}
use Rattle.schemes.specs.declared.parts.Parts.{Parts}
use Rattle.lab_landmarks.specs.Sizes.{directory_lengths, entry_counts, kept, table_lengths}

-- the whole number nearest to a part over a whole, the greater one of two
abbrev pub nearest : ℕ → ℕ → ℕ
nearest part whole = (part + whole / 2) / whole

-- the mean of numbers in thousandths, none of none
abbrev pub mean_of : List ℕ → Option ℕ
mean_of numbers = cond (length numbers == 0) None (Some (kept (nearest (1000 * kept (sum numbers)) (length numbers))))

-- so many thousandths, with three digits behind the point; or `none`
abbrev pub mean_text : Option ℕ → List ℕ
mean_text None = codes "none"
mean_text (Some all) = decimal (all / 1000) ++ (codes "." ++ (decimal (all / 100 % 10) ++ (decimal (all / 10 % 10) ++ decimal (all % 10))))

-- `NAME_PART=VALUE unit=UNIT`, where the part goes on so
abbrev pub line_text : List ℕ → List ℕ → List ℕ → List ℕ → List ℕ → List ℕ
line_text name part what value unit = name ++ (codes "_" ++ (part ++ (what ++ (value ++ (codes " unit=" ++ (unit ++ codes "\n"))))))

-- the lines of the mean and of the greatest of numbers
abbrev pub part_text : List ℕ → List ℕ → List ℕ → List ℕ → List ℕ
part_text name part numbers unit =
    line_text name part (codes "_mean=") (mean_text (mean_of numbers)) unit ++ line_text name part (codes "_greatest=") (decimal (fold max 0 numbers)) unit

-- the line of how many landmarks there are
abbrev pub landmarks_text : List ℕ → Parts → List ℕ
landmarks_text name p = name ++ (codes "_landmarks=" ++ (decimal (count_by (λ flag. flag) p.landmarks.items) ++ codes " unit=nodes\n"))

-- the landmarks, and the mean and the greatest of entries, of directories and of bytes, each under a name that begins so
abbrev pub tables_text : List ℕ → Parts → List ℕ
tables_text name p = landmarks_text name p ++ (part_text name (codes "entries") (entry_counts p) (codes "entries")
    ++ (part_text name (codes "directory") (directory_lengths p) (codes "members") ++ part_text name (codes "table") (table_lengths p) (codes "bytes")))
