-- Texts behind one another.
use Rattle.std.proofs.Common.{◌≡◌, ◌∙◌, ◌+◌, ◌<◌, ◌++◌, ◌∷◌, [], ℕ, List, ap, append_assoc, append-nil, get_or, length, sym, take, flat_map}
use Rattle.std.proofs.lemmas.Grind.{flat_map-append}
use Rattle.std.proofs.lemmas.List.{take_more}

-- two behind another
pub two_texts : {A : Type 0} (old a b one now : List A) → one ≡ old ++ a → now ≡ one ++ b → now ≡ old ++ (a ++ b)
two_texts old a b one now first second = second ∙ ap (λ t. t ++ b) first ∙ append_assoc old a b

-- three
pub three_texts : (old a b e one two now : List ℕ) → one ≡ old ++ a → two ≡ one ++ b → now ≡ two ++ e → now ≡ old ++ (a ++ (b ++ e))
three_texts old a b e one two now first second third =
    third ∙ ap (λ t. t ++ e) (second ∙ ap (λ t. t ++ b) first) ∙ append_assoc (old ++ a) b e ∙ append_assoc old a (b ++ e)

-- one of a list more
pub one_more : {X : Type 0} (f : X → List ℕ) (old mid new : List ℕ) (xs : List X) (i : ℕ) (d : X) → i < length xs → mid ≡ old ++ flat_map f (take i xs) → new ≡ mid ++ f (get_or xs i d) → new ≡ old ++ flat_map f (take (i + 1) xs)
one_more f old mid new xs i d within before now =
    now ∙ ap (λ t. t ++ f (get_or xs i d)) before ∙ append_assoc old (flat_map f (take i xs)) (f (get_or xs i d))
    ∙ ap (λ t. old ++ t)
    (ap (λ t. flat_map f (take i xs) ++ t) (sym (append-nil (f (get_or xs i d))))
    ∙ sym (flat_map-append f (take i xs) (get_or xs i d ∷ [])) ∙ ap (flat_map f) (sym (take_more xs i d within)))
