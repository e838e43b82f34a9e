-- The shelf as it is seen: what is put behind the others.
use Rattle.std.proofs.Common.{◌≡◌, ◌-◌, ℕ, List, [], ◌∷◌, ◌++◌, Option, Some, map, drop, length, ap, sym, ◌∙◌}
use Rattle.std.proofs.lemmas.List.{map-append, drop-map, length-map}
use Rattle.std.specs.Arc.{arc_value}
use Rattle.schemes.specs.declared.parts.Parts.{Parts}
use Rattle.generations.specs.declared.fold.Shelved.{Shelved}
use Rattle.generations.specs.Shelves.{plain, newest, most_shelved}

pub shelved : (xs : List (Option Shelved)) (g : Shelved) (s : Parts) → arc_value g.scheme ≡ s → map plain (newest (xs ++ Some g ∷ [])) ≡ newest (map plain xs ++ Some (g.number, s) ∷ [])
shelved xs g s is =
    let ys : List (Option Shelved) = xs ++ Some g ∷ [] in
    let n : length (map plain ys) ≡ length ys = simp length-map in
    let one : map plain (newest ys) ≡ newest (map plain ys) = sym (drop-map plain (length ys - most_shelved) ys) ∙ ap (λ (k : ℕ). drop (k - most_shelved) (map plain ys)) (sym n) in
    let two : map plain ys ≡ map plain xs ++ Some (g.number, s) ∷ [] = map-append plain xs (Some g ∷ []) ∙ ap (λ (t : Parts). map plain xs ++ Some (g.number, t) ∷ []) is in
    one ∙ ap newest two
