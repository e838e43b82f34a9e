-- The editors of a board's readers are of that board.
use Rattle.std.proofs.Common.{◌≡◌, ℕ, ◌+◌, zero, suc, List, [], ◌∷◌, arith}
use Rattle.std.specs.List.{All}
use Rattle.atomic_table.specs.Seated.{TableId}
use Rattle.generations.specs.Beginnings.{Opening}
use Rattle.generations.specs.Knowledges.{Knowledge}
use Rattle.intake.specs.Editors.{Editing, editors_from}

pub editors_at : (q : TableId) (starts : List ℕ) (n : ℕ) (rs : List Knowledge) (o : Opening) → All (λ (r : Knowledge). r.all.opening ≡ o) rs → All (λ (e : Editing). e.known.opening ≡ o) (editors_from q starts n rs)
editors_at q starts n [] o h k d within = absurd (omega (arith, within))
editors_at q starts n (r ∷ rs) o h zero d within = h 0 r (omega arith)
editors_at q starts n (r ∷ rs) o h (suc k) d within = editors_at q starts (n + 1) rs o (λ j e w. h (suc j) e (omega (arith, w))) k d (omega (arith, within))
