-- What a crash leaves of bytes that a write may have torn.
use Rattle.std.proofs.Common.{◌≡◌, ⊎_elim, ℕ, ◌+◌, ◌-◌, ◌<◌, ◌≤◌, List, ◌++◌, length, get_or, take, drop, replicate, Bool, true, false, refl, sym, ◌∙◌, ap, subst, arith, length-append, length-drop, get_or-take, get_or-drop, append_assoc}
use Rattle.std.proofs.lemmas.List.{take_at, drop_at, get_or-append_right, get_or_append_left, same_lists, length-take-le, get_or-replicate, length-replicate, get_or_default}
use Rattle.std.proofs.lemmas.Bool.{cases_lt}
use Rattle.disk_trait.specs.Disk.{Torn, overwritten}
use Rattle.disk_trait.specs.Image.{IsImage, marked}

pub torn_none : (xs : List ℕ) (at : ℕ) → Torn at 0 xs xs
torn_none xs at = record { as_long = refl; before = refl; after = refl }

pub torn_same : (xs : List ℕ) (at n : ℕ) → Torn at n xs xs
torn_same xs at n = record { as_long = refl; before = refl; after = refl }

-- a front, a middle and a back, at a place of each
module _ {A : Type 0} (front middle back : List A) (d : A) (at n : ℕ) (is_front : length front ≡ at) (is_middle : length middle ≡ n) where
  pub get_front : (i : ℕ) → i < at → get_or (front ++ middle ++ back) i d ≡ get_or front i d
  get_front i low = get_or_append_left (front ++ middle) back d i (omega (arith, length-append front middle)) ∙ get_or_append_left front middle d i (omega (arith, is_front))

  pub get_middle : (i : ℕ) → i < n → get_or (front ++ middle ++ back) (at + i) d ≡ get_or middle i d
  get_middle i low =
      get_or_append_left (front ++ middle) back d (at + i) (omega (arith, length-append front middle))
      ∙ get_or-append_right front middle at (at + i) d is_front (omega arith)
      ∙ ap (λ k. get_or middle k d) (omega arith)

  pub get_back : (i : ℕ) → at + n ≤ i → get_or (front ++ middle ++ back) i d ≡ get_or back (i - (at + n)) d
  get_back i high = get_or-append_right (front ++ middle) back (at + n) i d (omega (arith, length-append front middle)) high

  pub take_front : take at (front ++ middle ++ back) ≡ front
  take_front = ap (take at) (append_assoc front middle back) ∙ take_at front (middle ++ back) at is_front

  pub drop_middle : drop (at + n) (front ++ middle ++ back) ≡ back
  drop_middle = drop_at (front ++ middle) back (at + n) (omega (arith, length-append front middle))

  pub length_parts : length (front ++ middle ++ back) ≡ at + n + length back
  length_parts = omega (arith, length-append (front ++ middle) back, length-append front middle)

-- outside a torn range nothing changes
pub torn_low : (xs ys : List ℕ) (at n i : ℕ) → Torn at n xs ys → i < at → get_or ys i 0 ≡ get_or xs i 0
torn_low xs ys at n i torn low = sym (get_or-take at ys i 0 low) ∙ ap (λ (l : List ℕ). get_or l i 0) torn.before ∙ get_or-take at xs i 0 low

pub torn_high : (xs ys : List ℕ) (at n i : ℕ) → Torn at n xs ys → at + n ≤ i → get_or ys i 0 ≡ get_or xs i 0
torn_high xs ys at n i torn high =
    let same : get_or ys (at + n + (i - (at + n))) 0 ≡ get_or xs (at + n + (i - (at + n))) 0 =
    sym (get_or-drop (at + n) ys (i - (at + n)) 0) ∙ ap (λ (l : List ℕ). get_or l (i - (at + n)) 0) torn.after ∙ get_or-drop (at + n) xs (i - (at + n)) 0 in
    let here : at + n + (i - (at + n)) ≡ i = omega arith in
    subst (λ k. get_or ys k 0 ≡ get_or xs k 0) here same

-- a write of k of the n bytes tears the range
pub torn_written : (xs bytes : List ℕ) (at n : ℕ) → length bytes ≤ n → at + n ≤ length xs → Torn at n xs (overwritten xs at bytes)
torn_written xs bytes at n some fits =
    let is_front : length (take at xs) ≡ at = length-take-le at xs (omega arith) in
    record {
      as_long = omega (arith, length_parts (take at xs) bytes (drop (at + length bytes) xs) 0 at (length bytes) is_front refl, length-drop (at + length bytes) xs);
      before = take_front (take at xs) bytes (drop (at + length bytes) xs) 0 at (length bytes) is_front refl;
      after = same_lists _ _ (omega (arith, length-drop (at + n) (overwritten xs at bytes), length-drop (at + n) xs, length_parts (take at xs) bytes (drop (at + length bytes) xs) 0 at (length bytes) is_front refl, length-drop (at + length bytes) xs)) (λ k d low.
          get_or-drop (at + n) (overwritten xs at bytes) k d
          ∙ get_back (take at xs) bytes (drop (at + length bytes) xs) d at (length bytes) is_front refl (at + n + k) (omega arith)
          ∙ get_or-drop (at + length bytes) xs (at + n + k - (at + length bytes)) d
          ∙ ap (λ j. get_or xs j d) (omega arith)
          ∙ sym (get_or-drop (at + n) xs k d));
    }

module _ (old new : List ℕ) (flags : List Bool) (at n : ℕ) (fits : at + n ≤ length old) (flagged : length flags ≡ length old) (torn : Torn at n old new) (image : List ℕ) (is : IsImage new (marked flags at n) image) where
  abbrev was : List ℕ
  was = take at image ++ take n (drop at old) ++ drop (at + n) image

  is_front : length (take at image) ≡ at
  is_front = length-take-le at image (omega (arith, is.as_long, torn.as_long))

  is_middle : length (take n (drop at old)) ≡ n
  is_middle = length-take-le n (drop at old) (omega (arith, length-drop at old))

  as_long : length was ≡ length image
  as_long = omega (arith, length_parts (take at image) (take n (drop at old)) (drop (at + n) image) 0 at n is_front is_middle, length-drop (at + n) image, is.as_long, torn.as_long)

  flag_low : (i : ℕ) → i < at → get_or (marked flags at n) i false ≡ get_or flags i false
  flag_low i low = get_front (take at flags) (replicate n true) (drop (at + n) flags) false at n (length-take-le at flags (omega (arith, flagged))) (length-replicate n true) i low ∙ get_or-take at flags i false low

  flag_high : (i : ℕ) → at + n ≤ i → get_or (marked flags at n) i false ≡ get_or flags i false
  flag_high i high =
      get_back (take at flags) (replicate n true) (drop (at + n) flags) false at n (length-take-le at flags (omega (arith, flagged))) (length-replicate n true) i high
      ∙ get_or-drop (at + n) flags (i - (at + n)) false ∙ ap (λ k. get_or flags k false) (omega arith)

  low_same : (i : ℕ) → i < at → get_or flags i false ≡ false → get_or was i 0 ≡ get_or old i 0
  low_same i low settled =
      get_front (take at image) (take n (drop at old)) (drop (at + n) image) 0 at n is_front is_middle i low ∙ get_or-take at image i 0 low
      ∙ is.same i (omega (arith, torn.as_long)) (flag_low i low ∙ settled) ∙ torn_low old new at n i torn low

  high_same : (i : ℕ) → i < length old → at + n ≤ i → get_or flags i false ≡ false → get_or was i 0 ≡ get_or old i 0
  high_same i within high settled =
      get_back (take at image) (take n (drop at old)) (drop (at + n) image) 0 at n is_front is_middle i high
      ∙ get_or-drop (at + n) image (i - (at + n)) 0 ∙ ap (λ k. get_or image k 0) (omega arith)
      ∙ is.same i (omega (arith, torn.as_long)) (flag_high i high ∙ settled) ∙ torn_high old new at n i torn high

  middle_same : (i : ℕ) → at ≤ i → i < at + n → get_or was i 0 ≡ get_or old i 0
  middle_same i low high =
      let here : at + (i - at) ≡ i = omega arith in
      subst (λ k. get_or was k 0 ≡ get_or old k 0) here (
      get_middle (take at image) (take n (drop at old)) (drop (at + n) image) 0 at n is_front is_middle (i - at) (omega arith)
      ∙ get_or-take n (drop at old) (i - at) 0 (omega arith) ∙ get_or-drop at old (i - at) 0)

  -- an image of now is one of before, torn in the range
  pub image_before : (before : List ℕ) × IsImage old flags before × Torn at n before image
  image_before = (
    was,
    record {
      as_long = omega (arith, as_long, is.as_long, torn.as_long);
      same = λ i within settled. ⊎_elim (λ low. low_same i low settled) (λ up. ⊎_elim (λ high. middle_same i up high) (λ high. high_same i within high settled) (cases_lt i (at + n))) (cases_lt i at);
    },
    record {
      as_long = sym as_long;
      before = sym (take_front (take at image) (take n (drop at old)) (drop (at + n) image) 0 at n is_front is_middle);
      after = sym (drop_middle (take at image) (take n (drop at old)) (drop (at + n) image) 0 at n is_front is_middle);
    },
  )

-- with no byte unsettled a crash leaves the bytes
pub image_settled : (bytes image : List ℕ) → IsImage bytes (replicate (length bytes) false) image → image ≡ bytes
image_settled bytes image is =
    same_lists image bytes is.as_long (λ k d low.
    get_or_default image k d 0 low ∙ is.same k (omega (arith, is.as_long)) (get_or-replicate (length bytes) k false false (omega (arith, is.as_long))) ∙ get_or_default bytes k 0 d (omega (arith, is.as_long)))

-- and each image was one before
pub settled_before : (bytes image : List ℕ) (flags : List Bool) → IsImage bytes (replicate (length bytes) false) image → IsImage bytes flags image
settled_before bytes image flags is = rw (image_settled bytes image is) (record { as_long = refl; same = λ i low settled. refl })
