-- Editors that come back, one after the other.
use Rattle.std.proofs.Common.{◌≡◌, ◌++◌, ◌∷◌, [], List, map, sym, ap, ◌∙◌, append_assoc}
use Rattle.std.specs.Prelude.{IfSome, None, Option, Some}
use Rattle.std.proofs.lemmas.List.{map-append}

-- an element more is moved from the one list to the other
pub one_moved : {X Y : Type 0} → (f : X → Y) (all all' : List X) (x : X) (y : Y) (rest rest' whole : List Y) → all' ≡ all ++ x ∷ [] → f x ≡ y → rest ≡ y ∷ rest' → map f all ++ rest ≡ whole → map f all' ++ rest' ≡ whole
one_moved f all all' x y rest rest' whole pushed same first is =
    ap (λ l. map f l ++ rest') pushed
    ∙ (ap (λ l. l ++ rest') (map-append f all (x ∷ []))
    ∙ (append_assoc (map f all) (f x ∷ []) rest'
    ∙ (ap (λ z. map f all ++ z ∷ rest') same ∙ (ap (λ l. map f all ++ l) (sym first) ∙ is))))

-- what follows of each one follows of the one that came
pub each_of : {X : Type 0} {P Q : X → Type 0} (came : Option X) → ((x : X) → P x → Q x) → IfSome came P → IfSome came Q
each_of (Some x) then is = then x is
each_of None then is = tt
