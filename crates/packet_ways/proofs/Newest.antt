-- The newest generation of a list, and of one that goes on from it.
use Rattle.std.proofs.Common.{◌≡◌, ◌⊎◌, inl, inr, ⊎_elim, ◌++◌, ◌∷◌, [], ℕ, List, Option, Some, None, refl, sym, ap, subst, arith}
use Rattle.std.specs.Prelude.{IsSome}
use Rattle.std.specs.List.{Contains, last_or}
use Rattle.std.specs.Option.{option_map}
use Rattle.std.proofs.lemmas.List.Concat.{flat_map-append}
use Rattle.std.proofs.lemmas.List.Elements.{Contains-append_left, Contains-append_right}
use Rattle.schemes.specs.declared.parts.Parts.{Parts}
use Rattle.generations.specs.declared.posting.Notice.{Notice}
use Rattle.generations.specs.Notices.{generation_of, generations_in, newest_in}
use Rattle.generations.specs.Beginnings.{Beginning, GoesOn}
use Rattle.forwarders.specs.Arrivals.{IsPublished}
use Rattle.packet_ways.specs.Standing.{IsNewest}

-- the last of some is one of them, or what was before them
last_there : {X : Type 0} (o : Option X) (xs : List X) (x : X) → last_or o xs ≡ Some x → (o ≡ Some x) ⊎ Contains xs x
last_there o [] x is = inl is
last_there {X} o (y ∷ xs) x is =
    ⊎_elim (λ same. (let first : y ≡ x = (let both : Some y ≡ Some x = same in cc) in inr (0, omega arith, first))) (λ there. inr (Contains-append_right (y ∷ []) xs x there)) (last_there (Some y) xs x is)

none_some : {X : Type 0} (x : X) → None ≡ Some x → ⊥
none_some x is = cc

named_of : (o : Option (ℕ × Parts)) (number : ℕ) → option_map (λ g. g.0) o ≡ Some number → (p : Parts) × (o ≡ Some (number, p))
named_of None number is = absurd (none_some number is)
named_of (Some g) number is = (let same : g.0 ≡ number = cc in (g.1, ap (λ (n : ℕ). Some (n, g.1)) same))

-- a list has its newest generation
pub newest_published : (seen : Beginning) (number : ℕ) → IsNewest seen number → (p : Parts) × IsPublished seen number p
newest_published seen number is =
    let found = named_of (newest_in seen.log) number is in
    (found.0, ⊎_elim (λ none. absurd (none_some (number, found.0) none)) (λ there. there) (last_there None (generations_in seen.log) (number, found.0) found.1))

-- what a list has, one has that goes on from it
pub published_on : (seen all : Beginning) (number : ℕ) (p : Parts) → GoesOn seen all → IsPublished seen number p → IsPublished all number p
published_on seen all number p on has =
    subst (λ (l : List Notice). Contains (generations_in l) (number, p)) on.1.1
    (subst (λ (gs : List (ℕ × Parts)). Contains gs (number, p)) (sym (flat_map-append generation_of seen.log on.1.0)) (Contains-append_left (generations_in seen.log) (generations_in on.1.0) (number, p) has))

last_some : {X : Type 0} (o : Option X) (xs : List X) → IsSome o → IsSome (last_or o xs)
last_some o [] has = has
last_some o (x ∷ xs) has = last_some (Some x) xs refl

last_then : {X : Type 0} (o : Option X) (xs ys : List X) → IsSome (last_or o xs) → IsSome (last_or o (xs ++ ys))
last_then o [] ys has = last_some o ys has
last_then o (x ∷ xs) ys has = last_then (Some x) xs ys has

some_of : (o : Option (ℕ × Parts)) (number : ℕ) → option_map (λ g. g.0) o ≡ Some number → IsSome o
some_of None number is = absurd (none_some number is)
some_of (Some g) number is = refl

-- and where a list has a generation, so has one that goes on from it
pub some_newest_on : (seen all : Beginning) → GoesOn seen all → IsSome (newest_in seen.log) → IsSome (newest_in all.log)
some_newest_on seen all on has =
    subst (λ (l : List Notice). IsSome (newest_in l)) on.1.1
    (subst (λ (gs : List (ℕ × Parts)). IsSome (last_or None gs)) (sym (flat_map-append generation_of seen.log on.1.0)) (last_then None (generations_in seen.log) (generations_in on.1.0) has))

pub newest_on : (seen all : Beginning) (number : ℕ) → GoesOn seen all → IsNewest seen number → IsSome (newest_in all.log)
newest_on seen all number on is = some_newest_on seen all on (some_of (newest_in seen.log) number is)

-- .. also at one more remove
pub newest_later : (seen mid all : Beginning) (number : ℕ) → GoesOn seen mid → GoesOn mid all → IsNewest seen number → IsSome (newest_in all.log)
newest_later seen mid all number first then is = some_newest_on mid all then (newest_on seen mid number first is)
