-- The forms of numbers, and of what is put together from forms; and that each keeps the spelling law.
use Rattle.std.proofs.Common.{◌≡◌, ℕ, zero, suc, ◌+◌, ◌*◌, ◌^◌, ◌<◌, ◌≤◌, Bool, true, false, cond, ltb, leb, eqb, ◌&&◌, List, [], ◌∷◌, ◌++◌, length, take, drop, Option, Some, None, refl, sym, ap, subst, ◌∙◌, append_assoc, arith, inl, inr}
use Rattle.std.specs.Int.{Width, w16, w32, w64, byte_len, from_be_bytes, to_be_bytes}
use Rattle.std.specs.List.{flat_map, AllByRecursion}
use Rattle.std.proofs.lemmas.Bool.{cases_lt, eqb-true, leb-true, le-leb, ltb-false, le-ltb}
use Rattle.std.proofs.lemmas.List.{append-nil, nil_from_length, take_at, drop_at, take-append-drop, length-append, length-take, get_or-drop, get_or-take, get_or_past}
use Rattle.std.proofs.lemmas.List.Concat.{flat_map-cons}
use Rattle.std.proofs.lemmas.Nat.{be_bytes_2, be_bytes_4, be_bytes_8, from_be_bytes-to_be_bytes_2, from_be_bytes-to_be_bytes_4, from_be_bytes-to_be_bytes_8}
use Rattle.std.proofs.lemmas.Option.{same_Some}
use Rattle.byte_forms.specs.Forms.{FormOf, IsBytes, IsForm, Takes, list_text, short_text}
use Rattle.byte_forms.specs.Reading.{◌>>=◌, byte_at, counted_at, items_at, list_at, made_at, number_at, short_at, then_at, whole_at}

pub IsBytes-drop : (n : ℕ) (bytes : List ℕ) → IsBytes bytes → IsBytes (drop n bytes)
IsBytes-drop n bytes h i = rw get_or-drop (h (n + i))

pub IsBytes-take : (n : ℕ) (bytes : List ℕ) → IsBytes bytes → IsBytes (take n bytes)
IsBytes-take n bytes h i =
    elim (cases_lt i n) [
      | inl lt ↦ rw (get_or-take n bytes i 0 lt) (h i)
      | inr le ↦ rw (get_or_past (take n bytes) i 0 (omega (arith, length-take n bytes))) (omega arith)
    ]

pub IsBytes-rest : (b : ℕ) (bytes : List ℕ) → IsBytes (b ∷ bytes) → IsBytes bytes
IsBytes-rest b bytes h i = h (suc i)

-- the value of a step that found something
pub bind_some : {A B : Type 0} (o : Option A) (f : A → Option B) (y : B) → (o >>= f) ≡ Some y → (x : A) × (o ≡ Some x) × (f x ≡ Some y)
bind_some (Some x) f y e = (x, refl, e)
bind_some None f y e = absurd cc

-- a test that didn't fail
pub guard_false : {A : Type 0} (b : Bool) (o : Option A) (y : A) → cond b None o ≡ Some y → (b ≡ false) × (o ≡ Some y)
guard_false true o y e = absurd cc
guard_false false o y e = (refl, e)

pub guard_true : {A : Type 0} (b : Bool) (o : Option A) (y : A) → cond b o None ≡ Some y → (b ≡ true) × (o ≡ Some y)
guard_true true o y e = (refl, e)
guard_true false o y e = absurd cc

pub both_true : (a b : Bool) → (a && b) ≡ true → (a ≡ true) × (b ≡ true)
both_true true b e = (refl, e)
both_true false b e = absurd cc

pub Takes-then : (a x b y c : List ℕ) → Takes a x b → Takes b y c → Takes a (x ++ y) c
Takes-then a x b y c p q = record { parts = p.parts ∙ ap (λ (t : List ℕ). x ++ t) q.parts ∙ sym (append_assoc x y c); rest_fits = q.rest_fits }

-- what was read of a value, said of the one that it is equal to
abbrev IsRead : {X : Type 0} → FormOf X → List ℕ → X × List ℕ → Type 0
IsRead form bytes x = Takes bytes (form.text x.0) x.1 × form.Fits x.0

read_is : {X : Type 0} (form : FormOf X) (bytes : List ℕ) (made found : X × List ℕ) → Some made ≡ Some found → IsRead form bytes made → IsRead form bytes found
read_is {X} form bytes made found e read = subst (λ (x : X × List ℕ). IsRead form bytes x) (same_Some made found e) read

-- a spelling shows where it ends
pub apart : {X : Type 0} {form : FormOf X} → IsForm form → (x y : X) (a b : List ℕ) → form.Fits x → form.Fits y → form.text x ++ a ≡ form.text y ++ b → (x ≡ y) × (a ≡ b)
apart {X} {form} is_form x y a b fx fy e =
    let both : (x, a) ≡ (y, b) = same_Some (x, a) (y, b) (sym (is_form.again x a fx) ∙ ap form.at e ∙ is_form.again y b fy) in
    (ap (λ (z : X × List ℕ). z.0) both, ap (λ (z : X × List ℕ). z.1) both)

-- ---- numbers

-- numbers of so many bytes, below a limit
abbrev pub number_form : Width → ℕ → FormOf ℕ
number_form w limit = record { text = to_be_bytes w; Fits = λ n. n < limit; at = number_at w }

-- a width of so many bytes: numbers below the limit and lists of so many bytes stand for one another
record IsWide (w : Width) (limit : ℕ) : Type 0 where
  pub len : (n : ℕ) → length (to_be_bytes w n) ≡ byte_len w
  pub back : (bytes : List ℕ) → length bytes ≡ byte_len w → IsBytes bytes → to_be_bytes w (from_be_bytes w bytes) ≡ bytes
  pub again : (n : ℕ) → n < limit → from_be_bytes w (to_be_bytes w n) ≡ n
  pub below : (bytes : List ℕ) → IsBytes bytes → from_be_bytes w bytes < limit

number_is_form : (w : Width) (limit : ℕ) → IsWide w limit → IsForm (number_form w limit)
number_is_form w limit wide = record {
  takes = λ bytes x fits e.
      let size = byte_len w in
      let front = take size bytes in
      let found : ℕ × List ℕ = (from_be_bytes w front, drop size bytes) in
      let g = guard_false (ltb (length bytes) size) (Some found) x e in
      let long : size ≤ length bytes = ltb-false _ _ g.0 in
      let text : to_be_bytes w (from_be_bytes w front) ≡ front = wide.back front (omega (arith, length-take size bytes)) (IsBytes-take size bytes fits) in
      read_is (number_form w limit) bytes found x g.1 (record { parts = rw text (sym (take-append-drop size bytes)); rest_fits = IsBytes-drop size bytes fits }, wide.below front (IsBytes-take size bytes fits));
  again = λ n rest lt.
      let text = to_be_bytes w n in
      let size = byte_len w in
      let len = wide.len n in
      let long : ltb (length (text ++ rest)) size ≡ false = le-ltb _ _ (omega (arith, length-append text rest)) in
      rw (long, take_at text rest size len, drop_at text rest size len, wide.again n lt) refl;
}

abbrev pub u16_form : FormOf ℕ
u16_form = number_form w16 (2 ^ 16)

pub u16_is_form : IsForm u16_form
u16_is_form = number_is_form w16 (2 ^ 16) (record {
  len = λ n. refl;
  back = λ bytes len fits. be_bytes_2 bytes _ len fits refl;
  again = λ n lt. from_be_bytes-to_be_bytes_2 n lt;
  below = λ bytes fits. omega (arith, fits 0, fits 1);
})

abbrev pub u32_form : FormOf ℕ
u32_form = number_form w32 (2 ^ 32)

pub u32_is_form : IsForm u32_form
u32_is_form = number_is_form w32 (2 ^ 32) (record {
  len = λ n. refl;
  back = λ bytes len fits. be_bytes_4 bytes _ len fits refl;
  again = λ n lt. from_be_bytes-to_be_bytes_4 n lt;
  below = λ bytes fits. omega (arith, fits 0, fits 1, fits 2, fits 3);
})

abbrev pub u64_form : FormOf ℕ
u64_form = number_form w64 (2 ^ 64)

pub u64_is_form : IsForm u64_form
u64_is_form = number_is_form w64 (2 ^ 64) (record {
  len = λ n. refl;
  back = λ bytes len fits. be_bytes_8 bytes _ len fits refl;
  again = λ n lt. from_be_bytes-to_be_bytes_8 n lt;
  below = λ bytes fits. omega (arith, fits 0, fits 1, fits 2, fits 3, fits 4, fits 5, fits 6, fits 7);
})

-- one byte
abbrev pub byte_form : FormOf ℕ
byte_form = record { text = λ b. b ∷ []; Fits = λ b. b < 2 ^ 8; at = byte_at }

byte_takes : (bytes : List ℕ) (x : ℕ × List ℕ) → IsBytes bytes → byte_at bytes ≡ Some x → IsRead byte_form bytes x
byte_takes [] x fits e = absurd cc
byte_takes (b ∷ bytes) x fits e = read_is byte_form (b ∷ bytes) (b, bytes) x e (record { parts = refl; rest_fits = IsBytes-rest b bytes fits }, omega (arith, fits 0))

pub byte_is_form : IsForm byte_form
byte_is_form = record { takes = byte_takes; again = λ b rest lt. refl }

-- ---- one part, and another behind it

abbrev pub then_form : {A B : Type 0} → FormOf A → FormOf B → FormOf (A × B)
then_form first second = record {
  text = λ x. first.text x.0 ++ second.text x.1;
  Fits = λ x. first.Fits x.0 × second.Fits x.1;
  at = then_at first.at second.at;
}

module _ {A B : Type 0} {first : FormOf A} {second : FormOf B} (one : IsForm first) (other : IsForm second) where
  pub then_is_form : IsForm (then_form first second)
  then_is_form = record {
    takes = λ bytes x fits e.
        let a = bind_some (first.at bytes) (λ a. second.at a.1 >>= λ b. Some ((a.0, b.0), b.1)) x e in
        let b = bind_some (second.at a.0.1) (λ b. Some ((a.0.0, b.0), b.1)) x a.2 in
        let ta = one.takes bytes a.0 fits a.1 in
        let tb = other.takes a.0.1 b.0 ta.0.rest_fits b.1 in
        read_is (then_form first second) bytes ((a.0.0, b.0.0), b.0.1) x b.2 (Takes-then bytes (first.text a.0.0) a.0.1 (second.text b.0.0) b.0.1 ta.0 tb.0, (ta.1, tb.1));
    again = λ x rest fits.
        let behind = second.text x.1 ++ rest in
        let regrouped : (first.text x.0 ++ second.text x.1) ++ rest ≡ first.text x.0 ++ behind = append_assoc (first.text x.0) (second.text x.1) rest in
        ap (then_at first.at second.at) regrouped ∙ rw (one.again x.0 behind fits.0, other.again x.1 rest fits.1) refl;
  }

-- ---- what is made of parts

-- a value by its parts: how it is made of them, if it is, and which values fit
abbrev pub made_form : {A X : Type 0} → FormOf A → (A → Option X) → (X → A) → (X → Type 0) → FormOf X
made_form form make parts Fits = record { text = λ x. form.text (parts x); Fits = Fits; at = made_at form.at make }

module _ {A X : Type 0} {form : FormOf A} (is_form : IsForm form) (make : A → Option X) (parts : X → A) (Fits : X → Type 0)
    (there : (a : A) (x : X) → form.Fits a → make a ≡ Some x → (parts x ≡ a) × Fits x)
    (back : (x : X) → Fits x → form.Fits (parts x) × (make (parts x) ≡ Some x)) where
  pub made_is_form : IsForm (made_form form make parts Fits)
  made_is_form = record {
    takes = λ bytes x fits e.
        let a = bind_some (form.at bytes) (λ a. make a.0 >>= λ x. Some (x, a.1)) x e in
        let m = bind_some (make a.0.0) (λ y. Some (y, a.0.1)) x a.2 in
        let ta = is_form.takes bytes a.0 fits a.1 in
        let is = there a.0.0 m.0 ta.1 m.1 in
        read_is (made_form form make parts Fits) bytes (m.0, a.0.1) x m.2 (subst (λ (b : A). Takes bytes (form.text b) a.0.1) (sym is.0) ta.0, is.1);
    again = λ x rest fits.
        let is = back x fits in
        rw (is_form.again (parts x) rest is.0, is.1) refl;
  }

-- the same where each value is made of its parts and parts are those of one value
module _ {A X : Type 0} {form : FormOf A} (is_form : IsForm form) (make : A → X) (parts : X → A) (there : (a : A) → parts (make a) ≡ a) (back : (x : X) → make (parts x) ≡ x) where
  pub same_is_form : IsForm (made_form form (λ a. Some (make a)) parts (λ x. form.Fits (parts x)))
  same_is_form = made_is_form is_form (λ a. Some (make a)) parts (λ x. form.Fits (parts x))
      (λ a x fits e. (let is = same_Some (make a) x e in (ap parts (sym is) ∙ there a, subst (λ (y : X). form.Fits (parts y)) is (subst form.Fits (sym (there a)) fits))))
      (λ x fits. (fits, ap (λ (y : X). Some y) (back x)))

-- ---- so many items, one after the other

module _ {X : Type 0} {form : FormOf X} (is_form : IsForm form) where
  pub items_take : (n : ℕ) (bytes : List ℕ) (x : List X × List ℕ) → IsBytes bytes → items_at form.at n bytes ≡ Some x → Takes bytes (flat_map form.text x.0) x.1 × (length x.0 ≡ n) × AllByRecursion form.Fits x.0
  unfolding items_at
  items_take zero bytes x fits e =
      subst (λ (y : List X × List ℕ). Takes bytes (flat_map form.text y.0) y.1 × (length y.0 ≡ 0) × AllByRecursion form.Fits y.0) (same_Some ([], bytes) x e) (record { parts = refl; rest_fits = fits }, refl, tt)
  items_take (suc n) bytes x fits e =
      let a = bind_some (form.at bytes) (λ first. items_at form.at n first.1 >>= λ others. Some (first.0 ∷ others.0, others.1)) x e in
      let b = bind_some (items_at form.at n a.0.1) (λ others. Some (a.0.0 ∷ others.0, others.1)) x a.2 in
      let first = is_form.takes bytes a.0 fits a.1 in
      let second = items_take n a.0.1 b.0 first.0.rest_fits b.1 in
      let both = Takes-then bytes (form.text a.0.0) a.0.1 (flat_map form.text b.0.0) b.0.1 first.0 second.0 in
      let made : List X × List ℕ = (a.0.0 ∷ b.0.0, b.0.1) in
      subst (λ (y : List X × List ℕ). Takes bytes (flat_map form.text y.0) y.1 × (length y.0 ≡ suc n) × AllByRecursion form.Fits y.0) (same_Some made x b.2) (rw flat_map-cons both, ap suc second.1, (first.1, second.2))

  pub items_again : (xs : List X) (rest : List ℕ) → AllByRecursion form.Fits xs → items_at form.at (length xs) (flat_map form.text xs ++ rest) ≡ Some (xs, rest)
  unfolding items_at
  items_again [] rest fits = refl
  items_again (x ∷ xs) rest fits =
      let regrouped : flat_map form.text (x ∷ xs) ++ rest ≡ form.text x ++ (flat_map form.text xs ++ rest) = ap (λ (t : List ℕ). t ++ rest) (flat_map-cons form.text x xs) ∙ append_assoc (form.text x) (flat_map form.text xs) rest in
      ap (items_at form.at (suc (length xs))) regrouped ∙ rw (is_form.again x (flat_map form.text xs ++ rest) fits.0, items_again xs rest fits.1) refl

abbrev pub items_form : {X : Type 0} → FormOf X → ℕ → FormOf (List X)
items_form form n = record { text = flat_map form.text; Fits = λ xs. (length xs ≡ n) × AllByRecursion form.Fits xs; at = items_at form.at n }

pub items_is_form : {X : Type 0} {form : FormOf X} → IsForm form → (n : ℕ) → IsForm (items_form form n)
items_is_form {X} {form} is_form n = record {
  takes = λ bytes x fits e. (let t = items_take is_form n bytes x fits e in (t.0, (t.1, t.2)));
  again = λ xs rest fits. subst (λ n. items_at form.at n (flat_map form.text xs ++ rest) ≡ Some (xs, rest)) fits.0 (items_again is_form xs rest fits.1);
}

-- items of one size
pub length_items : {X : Type 0} (text : X → List ℕ) (size : ℕ) → ((x : X) → length (text x) ≡ size) → (xs : List X) → length (flat_map text xs) ≡ size * length xs
length_items text size each [] = omega arith
length_items text size each (x ∷ xs) =
    let rest = length_items text size each xs in
    ap length (flat_map-cons text x xs) ∙ length-append (text x) (flat_map text xs) ∙ omega (arith, each x, rest)

-- ---- lists, which begin with their length

abbrev pub list_form : {X : Type 0} → FormOf X → FormOf (List X)
list_form form = record {
  text = list_text form.text;
  Fits = λ xs. (length xs < 2 ^ 16) × AllByRecursion form.Fits xs;
  at = list_at form.at;
}

module _ {X : Type 0} {form : FormOf X} (is_form : IsForm form) where
  pub list_is_form : IsForm (list_form form)
  unfolding list_at
  list_is_form = record {
    takes = λ bytes x fits e.
        let n = bind_some (number_at w16 bytes) (λ n. items_at form.at n.0 n.1) x e in
        let many = u16_is_form.takes bytes n.0 fits n.1 in
        let all = items_take is_form n.0.0 n.0.1 x many.0.rest_fits n.2 in
        let both = Takes-then bytes (to_be_bytes w16 n.0.0) n.0.1 (flat_map form.text x.0) x.1 many.0 all.0 in
        (subst (λ n. Takes bytes (to_be_bytes w16 n ++ flat_map form.text x.0) x.1) (sym all.1) both, (subst (λ n. n < 2 ^ 16) (sym all.1) many.1, all.2));
    again = λ xs rest fits.
        let regrouped : list_text form.text xs ++ rest ≡ to_be_bytes w16 (length xs) ++ (flat_map form.text xs ++ rest) = append_assoc (to_be_bytes w16 (length xs)) (flat_map form.text xs) rest in
        ap (list_at form.at) regrouped ∙ rw (u16_is_form.again (length xs) (flat_map form.text xs ++ rest) fits.0, items_again is_form xs rest fits.1) refl;
  }

-- ---- lists within bounds

abbrev pub counted_form : {X : Type 0} → FormOf ℕ → FormOf X → ℕ → ℕ → FormOf (List X)
counted_form number form least most = record {
  text = λ xs. number.text (length xs) ++ flat_map form.text xs;
  Fits = λ xs. (least ≤ length xs) × (length xs ≤ most) × AllByRecursion form.Fits xs;
  at = counted_at number.at form.at least most;
}

module _ {X : Type 0} {number : FormOf ℕ} {form : FormOf X} (is_number : IsForm number) (is_form : IsForm form) (least most : ℕ)
    (again : (n : ℕ) (rest : List ℕ) → n ≤ most → number.at (number.text n ++ rest) ≡ Some (n, rest)) where
  pub counted_is_form : IsForm (counted_form number form least most)
  counted_is_form = record {
    takes = λ bytes x fits e.
        let n = bind_some (number.at bytes) (λ n. cond (leb least n.0 && leb n.0 most) (items_at form.at n.0 n.1) None) x e in
        let g = guard_true (leb least n.0.0 && leb n.0.0 most) (items_at form.at n.0.0 n.0.1) x n.2 in
        let within = both_true (leb least n.0.0) (leb n.0.0 most) g.0 in
        let some : least ≤ n.0.0 = leb-true _ _ within.0 in
        let few : n.0.0 ≤ most = leb-true _ _ within.1 in
        let many = is_number.takes bytes n.0 fits n.1 in
        let all = items_take is_form n.0.0 n.0.1 x many.0.rest_fits g.1 in
        let both = Takes-then bytes (number.text n.0.0) n.0.1 (flat_map form.text x.0) x.1 many.0 all.0 in
        (subst (λ n. Takes bytes (number.text n ++ flat_map form.text x.0) x.1) (sym all.1) both, (omega (arith, some, all.1), omega (arith, few, all.1), all.2));
    again = λ xs rest fits.
        let regrouped : (number.text (length xs) ++ flat_map form.text xs) ++ rest ≡ number.text (length xs) ++ (flat_map form.text xs ++ rest) = append_assoc (number.text (length xs)) (flat_map form.text xs) rest in
        ap (counted_at number.at form.at least most) regrouped
        ∙ rw (again (length xs) (flat_map form.text xs ++ rest) fits.1, le-leb least (length xs) fits.0, le-leb (length xs) most fits.1) (items_again is_form xs rest fits.2);
  }

abbrev pub short_form : {X : Type 0} → FormOf X → ℕ → ℕ → FormOf (List X)
short_form form least most = record {
  text = short_text form.text;
  Fits = λ xs. (least ≤ length xs) × (length xs ≤ most) × AllByRecursion form.Fits xs;
  at = short_at form.at least most;
}

module _ {X : Type 0} {form : FormOf X} (is_form : IsForm form) (least most : ℕ) where
  pub short_is_form : IsForm (short_form form least most)
  unfolding short_at
  short_is_form = counted_is_form byte_is_form is_form least most (λ n rest le. refl)

-- ---- parts, and the whole

-- where a part and another behind it are found, each is
pub then_some : {A B : Type 0} (first : List ℕ → Option (A × List ℕ)) (second : List ℕ → Option (B × List ℕ)) (bytes : List ℕ) (a : A) (b : B) (rest : List ℕ)
    → then_at first second bytes ≡ Some ((a, b), rest) → (middle : List ℕ) × (first bytes ≡ Some (a, middle)) × (second middle ≡ Some (b, rest))
then_some {A} {B} first second bytes a b rest e =
    let x = bind_some (first bytes) (λ x. second x.1 >>= λ y. Some ((x.0, y.0), y.1)) ((a, b), rest) e in
    let y = bind_some (second x.0.1) (λ y. Some ((x.0.0, y.0), y.1)) ((a, b), rest) x.2 in
    let same : ((x.0.0, y.0.0), y.0.1) ≡ ((a, b), rest) = same_Some {A = (A × B) × List ℕ} _ _ y.2 in (
      x.0.1,
      x.1 ∙ ap (λ (z : (A × B) × List ℕ). Some (z.0.0, x.0.1)) same,
      y.1 ∙ ap (λ (z : (A × B) × List ℕ). Some (z.0.1, z.1)) same,
    )

-- where the whole is found, nothing stands behind it
pub whole_some : {X : Type 0} (found : List ℕ → Option (X × List ℕ)) (bytes : List ℕ) (x : X) → whole_at found bytes ≡ Some x → found bytes ≡ Some (x, [])
whole_some {X} found bytes x e =
    let y = bind_some (found bytes) (λ y. cond (eqb (length y.1) 0) (Some y.0) None) x e in
    let g = guard_true (eqb (length y.0.1) 0) (Some y.0.0) x y.2 in
    let nothing : y.0.1 ≡ [] = nil_from_length y.0.1 (eqb-true _ _ g.0) in
    y.1 ∙ ap (λ (z : X). Some (z, y.0.1)) (same_Some _ _ g.1) ∙ ap (λ (t : List ℕ). Some (x, t)) nothing

module _ {X : Type 0} {form : FormOf X} (is_form : IsForm form) where
  -- all bytes are the spelling of what is found
  pub whole_takes : (bytes : List ℕ) (x : X) → IsBytes bytes → whole_at form.at bytes ≡ Some x → (bytes ≡ form.text x) × form.Fits x
  whole_takes bytes x fits e =
      let t = is_form.takes bytes (x, []) fits (whole_some form.at bytes x e) in
      (t.0.parts ∙ append-nil (form.text x), t.1)

  -- what fits is found in its spelling
  pub whole_again : (x : X) → form.Fits x → whole_at form.at (form.text x) ≡ Some x
  whole_again x fits = (let found : form.at (form.text x) ≡ Some (x, []) = ap form.at (sym (append-nil (form.text x))) ∙ is_form.again x [] fits in rw found refl)

  -- and nothing else has that spelling
  pub one_value : (x y : X) → form.Fits x → form.Fits y → form.text x ≡ form.text y → x ≡ y
  one_value x y fx fy e = same_Some x y (sym (whole_again x fx) ∙ ap (whole_at form.at) e ∙ whole_again y fy)
