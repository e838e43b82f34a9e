-- What is one of a list.
use Rattle.std.proofs.Common.{◌≡◌, ℕ, zero, suc, ◌<◌, ◌⊎◌, inl, inr, List, [], ◌∷◌, ◌++◌, length, get_or, map, reverse, refl, sym, ap, subst, arith}
use Rattle.std.proofs.lemmas.List.{reverse-append}

-- x is one of a list: what `Among`, `IsOn`, `IsListed` and `IsAmong` of specs/ compute to
abbrev pub In : {A : Type 0} → A → List A → Type 0
In x [] = ⊥
In x (y ∷ ys) = (x ≡ y) ⊎ In x ys

pub in_append : {A : Type 0} (x : A) (xs ys : List A) → In x (xs ++ ys) → In x xs ⊎ In x ys
in_append x [] ys h = inr h
in_append x (y ∷ xs) ys (inl e) = inl (inl e)
in_append x (y ∷ xs) ys (inr h) = elim (in_append x xs ys h) [ inl a ↦ inl (inr a) | inr b ↦ inr b ]

pub in_left : {A : Type 0} (x : A) (xs ys : List A) → In x xs → In x (xs ++ ys)
in_left x [] ys h = absurd h
in_left x (y ∷ xs) ys (inl e) = inl e
in_left x (y ∷ xs) ys (inr h) = inr (in_left x xs ys h)

pub in_right : {A : Type 0} (x : A) (xs ys : List A) → In x ys → In x (xs ++ ys)
in_right x [] ys h = h
in_right x (y ∷ xs) ys h = inr (in_right x xs ys h)

pub in_reverse : {A : Type 0} (x : A) (xs : List A) → In x (reverse xs) → In x xs
in_reverse x [] h = h
in_reverse x (y ∷ xs) h = elim (in_append x (reverse xs) (y ∷ []) (subst (In x) (reverse-append (y ∷ []) xs) h)) [
  | inl a ↦ inr (in_reverse x xs a)
  | inr (inl e) ↦ inl e
  | inr (inr c) ↦ absurd c
]

pub in_map : {A B : Type 0} (f : A → B) (x : A) (xs : List A) → In x xs → In (f x) (map f xs)
in_map f x [] h = absurd h
in_map f x (y ∷ xs) (inl e) = inl (ap f e)
in_map f x (y ∷ xs) (inr h) = inr (in_map f x xs h)

pub map_in : {A B : Type 0} (f : A → B) (b : B) (xs : List A) → In b (map f xs) → (x : A) × (In x xs × (f x ≡ b))
map_in f b [] h = absurd h
map_in f b (y ∷ xs) (inl e) = (y, (inl refl, sym e))
map_in f b (y ∷ xs) (inr h) = (let r = map_in f b xs h in (r.0, (inr r.1.0, r.1.1)))

pub in_at : {A : Type 0} (xs : List A) (i : ℕ) (d : A) → i < length xs → In (get_or xs i d) xs
in_at [] i d l = absurd (omega (arith, l))
in_at (x ∷ xs) zero d l = inl refl
in_at (x ∷ xs) (suc i) d l = inr (in_at xs i d (omega (arith, l)))

pub in_place : {A : Type 0} (x : A) (xs : List A) (d : A) → In x xs → (i : ℕ) × ((i < length xs) × (get_or xs i d ≡ x))
in_place x [] d h = absurd h
in_place x (y ∷ xs) d (inl e) = (0, (omega arith, sym e))
in_place x (y ∷ xs) d (inr h) = (let r = in_place x xs d h in (suc r.0, (let l = r.1.0 in omega (arith, l), r.1.1)))
