-- Files that are put.
use Rattle.std.specs.Prelude.{ℕ, List, ◌++◌, codes}

-- the path of what is written first
abbrev pub beside_path : List ℕ → List ℕ
beside_path path = path ++ codes ".new"
