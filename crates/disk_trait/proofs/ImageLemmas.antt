-- Bytes that are settled outside a range, and what a word chooses for the others.
use Rattle.std.proofs.Common.{◌≡◌, ◌⊎◌, inl, inr, ⊎_elim, ℕ, zero, suc, ◌+◌, ◌-◌, ◌<◌, ◌≤◌, List, [], ◌∷◌, ◌++◌, length, get_or, take, drop, replicate, Bool, true, false, refl, sym, ◌∙◌, ap, subst, arith, length-drop, get_or-take, get_or-drop, append_assoc, if◌then◌else◌, ◌==◌, ◌&&◌, nat_le}
use Rattle.std.proofs.lemmas.List.{same_lists, length-take-le, get_or-replicate, length-replicate, take_more, take_more_set, drop_more, drop-set-lt, get_or_default, take-append-drop}
use Rattle.std.proofs.Math.ListN.{set}
use Rattle.std.proofs.lemmas.Bool.{cases_lt}
use Rattle.disk_trait.specs.Disk.{Torn, overwritten, bytes_at}
use Rattle.disk_trait.specs.Image.{IsImage, IsSettledOutside, marked, unmarked, filled, image_by, word_byte}
use Rattle.disk_trait.proofs.Torn.{get_front, get_middle, get_back, length_parts, torn_low, torn_high}

-- lists of numbers with the same number at each place
same_numbers : (xs ys : List ℕ) → length xs ≡ length ys → ((i : ℕ) → i < length xs → get_or xs i 0 ≡ get_or ys i 0) → xs ≡ ys
same_numbers xs ys as_long each = same_lists xs ys as_long (λ i d inside. get_or_default xs i d 0 inside ∙ each i inside ∙ get_or_default ys i 0 d (omega (arith, inside, as_long)))

-- ---- a range of flags set or cleared

module _ (flags : List Bool) (at n : ℕ) (value : Bool) (fits : at + n ≤ length flags) where
  abbrev painted : List Bool
  painted = take at flags ++ replicate n value ++ drop (at + n) flags

  is_front : length (take at flags) ≡ at
  is_front = length-take-le at flags (omega (arith, fits))

  pub painted_below : (i : ℕ) → i < at → get_or painted i false ≡ get_or flags i false
  painted_below i low = get_front (take at flags) (replicate n value) (drop (at + n) flags) false at n is_front (length-replicate n value) i low ∙ get_or-take at flags i false low

  pub painted_inside : (i : ℕ) → at ≤ i → i < at + n → get_or painted i false ≡ value
  painted_inside i low high =
      let here : at + (i - at) ≡ i = omega (arith, low) in
      subst (λ k. get_or painted k false ≡ value) here (
      get_middle (take at flags) (replicate n value) (drop (at + n) flags) false at n is_front (length-replicate n value) (i - at) (omega (arith, low, high))
      ∙ get_or-replicate n (i - at) value false (omega (arith, low, high)))

  pub painted_above : (i : ℕ) → at + n ≤ i → get_or painted i false ≡ get_or flags i false
  painted_above i high =
      get_back (take at flags) (replicate n value) (drop (at + n) flags) false at n is_front (length-replicate n value) i high
      ∙ get_or-drop (at + n) flags (i - (at + n)) false ∙ ap (λ k. get_or flags k false) (omega (arith, high))

  pub length-painted : length painted ≡ length flags
  length-painted = omega (arith, length_parts (take at flags) (replicate n value) (drop (at + n) flags) false at n is_front (length-replicate n value), length-drop (at + n) flags, fits)

-- settled outside the range and cleared inside: nothing is unsettled
pub cleared : (flags : List Bool) (low high : ℕ) → low ≤ high → high ≤ length flags → IsSettledOutside low high flags → unmarked flags low (high - low) ≡ replicate (length flags) false
cleared flags low high ordered within outside =
    let n = high - low in
    let fits : low + n ≤ length flags = omega (arith, ordered, within) in
    let here : low + n ≡ high = omega (arith, ordered) in
    same_lists _ _ (length-painted flags low n false fits ∙ sym (length-replicate (length flags) false)) (λ i d inside.
    let less : i < length flags = omega (arith, inside, length-painted flags low n false fits) in
    get_or_default (unmarked flags low n) i d false inside
    ∙ ⊎_elim (λ below. painted_below flags low n false fits i below ∙ outside.below i below)
    (λ up. ⊎_elim (λ mid. painted_inside flags low n false fits i up mid) (λ above. painted_above flags low n false fits i above ∙ outside.above i (omega (arith, above, here))) (cases_lt i (low + n)))
    (cases_lt i low)
    ∙ sym (get_or-replicate (length flags) i false d less))

-- a wider range serves after a write
pub still_outside : (flags : List Bool) (low high at n low' high' : ℕ) → at + n ≤ length flags → IsSettledOutside low high flags → low ≤ high → low' ≤ at → at + n ≤ high' → (low < high → (low' ≤ low) × (high ≤ high')) → IsSettledOutside low' high' (marked flags at n)
still_outside flags low high at n low' high' fits outside ordered first last covers = record {
  below = λ i less. painted_below flags at n true fits i (omega (arith, less, first)) ∙ ⊎_elim (λ some. outside.below i (omega (arith, less, (covers some).0))) (λ none. nowhere none i) (cases_lt low high);
  above = λ i more. painted_above flags at n true fits i (omega (arith, more, last)) ∙ ⊎_elim (λ some. outside.above i (omega (arith, more, (covers some).1))) (λ none. nowhere none i) (cases_lt low high);
}
  where
    nowhere : high ≤ low → (i : ℕ) → get_or flags i false ≡ false
    nowhere none i = ⊎_elim (λ below. outside.below i below) (λ above. outside.above i (omega (arith, none, above))) (cases_lt i low)

-- where it is settled, what was written is as before
pub still_agrees : (old new synced : List ℕ) (flags : List Bool) (at n : ℕ) → at + n ≤ length flags → length flags ≡ length old → Torn at n old new → IsImage old flags synced → IsImage new (marked flags at n) synced
still_agrees old new synced flags at n fits flagged torn is = record {
  as_long = is.as_long ∙ sym torn.as_long;
  same = λ i within settled. ⊎_elim
      (λ below. is.same i (omega (arith, within, torn.as_long)) (sym (painted_below flags at n true fits i below) ∙ settled) ∙ sym (torn_low old new at n i torn below))
      (λ up. ⊎_elim (λ mid. absurd (not_settled i (painted_inside flags at n true fits i up mid) settled))
      (λ above. is.same i (omega (arith, within, torn.as_long)) (sym (painted_above flags at n true fits i above) ∙ settled) ∙ sym (torn_high old new at n i torn above)) (cases_lt i (at + n)))
      (cases_lt i at);
}
  where
    not_settled : (i : ℕ) → get_or (marked flags at n) i false ≡ true → get_or (marked flags at n) i false ≡ false → ⊥
    not_settled i set_there none = cc

-- ---- a range copied

-- what is the same outside a range, and copied inside
pub pasted : (xs ys : List ℕ) (at n : ℕ) → length xs ≡ length ys → at + n ≤ length ys → ((i : ℕ) → i < length ys → i < at ⊎ at + n ≤ i → get_or xs i 0 ≡ get_or ys i 0) → overwritten xs at (bytes_at ys at n) ≡ ys
pasted xs ys at n as_long fits outside =
    let is_front : length (take at xs) ≡ at = length-take-le at xs (omega (arith, as_long, fits)) in
    let is_middle : length (bytes_at ys at n) ≡ n = length-take-le n (drop at ys) (omega (arith, length-drop at ys, fits)) in
    let back = drop (at + length (bytes_at ys at n)) xs in
    let all : length (overwritten xs at (bytes_at ys at n)) ≡ length ys = omega (arith, length_parts (take at xs) (bytes_at ys at n) back 0 at n is_front is_middle, length-drop (at + length (bytes_at ys at n)) xs, is_middle, as_long, fits) in
    same_numbers _ _ all (λ i inside.
    let within : i < length ys = omega (arith, inside, all) in
    ⊎_elim (λ below. get_front (take at xs) (bytes_at ys at n) back 0 at n is_front is_middle i below ∙ get_or-take at xs i 0 below ∙ outside i within (inl below))
    (λ up. ⊎_elim (λ mid.
    let here : at + (i - at) ≡ i = omega (arith, up) in
    subst (λ k. get_or (overwritten xs at (bytes_at ys at n)) k 0 ≡ get_or ys k 0) here (
    get_middle (take at xs) (bytes_at ys at n) back 0 at n is_front is_middle (i - at) (omega (arith, up, mid))
    ∙ get_or-take n (drop at ys) (i - at) 0 (omega (arith, up, mid)) ∙ get_or-drop at ys (i - at) 0))
    (λ above.
    get_back (take at xs) (bytes_at ys at n) back 0 at n is_front is_middle i above
    ∙ get_or-drop (at + length (bytes_at ys at n)) xs (i - (at + n)) 0 ∙ ap (λ k. get_or xs k 0) (omega (arith, is_middle, above)) ∙ outside i within (inr above))
    (cases_lt i (at + n)))
    (cases_lt i at))

-- the range where bytes are unsettled, copied
pub copied : (bytes image : List ℕ) (flags : List Bool) (low high : ℕ) → low ≤ high → high ≤ length bytes → IsSettledOutside low high flags → IsImage bytes flags image → overwritten image low (bytes_at bytes low (high - low)) ≡ bytes
copied bytes image flags low high ordered within outside is =
    pasted image bytes low (high - low) is.as_long (omega (arith, ordered, within)) (λ i inside out. is.same i inside (⊎_elim (λ below. outside.below i below) (λ above. outside.above i (omega (arith, above, ordered))) out))

pub image_turned : (bytes image : List ℕ) (flags : List Bool) → IsImage bytes flags image → IsImage image flags bytes
image_turned bytes image flags is = record { as_long = sym is.as_long; same = λ i inside settled. sym (is.same i (omega (arith, inside, is.as_long)) settled) }

-- ---- unsettled bytes replaced

pub length-filled : (flags : List Bool) (bytes : List ℕ) (next : ℕ → ℕ) (k : ℕ) → length flags ≡ length bytes → length (filled flags bytes next k) ≡ length bytes
length-filled [] [] next k same = refl
length-filled [] (byte ∷ bytes) next k same = absurd (omega (arith, same))
length-filled (flag ∷ flags) [] next k same = absurd (omega (arith, same))
length-filled (true ∷ flags) (byte ∷ bytes) next k same = ap suc (length-filled flags bytes next (k + 1) (omega (arith, same)))
length-filled (false ∷ flags) (byte ∷ bytes) next k same = ap suc (length-filled flags bytes next k (omega (arith, same)))

filled_same : (flags : List Bool) (bytes : List ℕ) (next : ℕ → ℕ) (k i : ℕ) → length flags ≡ length bytes → i < length bytes → get_or flags i false ≡ false → get_or (filled flags bytes next k) i 0 ≡ get_or bytes i 0
filled_same [] [] next k i same inside settled = absurd (omega (arith, inside))
filled_same [] (byte ∷ bytes) next k i same inside settled = absurd (omega (arith, same))
filled_same (flag ∷ flags) [] next k i same inside settled = absurd (omega (arith, same))
filled_same (true ∷ flags) (byte ∷ bytes) next k zero same inside settled = cc
filled_same (true ∷ flags) (byte ∷ bytes) next k (suc i) same inside settled = filled_same flags bytes next (k + 1) i (omega (arith, same)) (omega (arith, inside)) settled
filled_same (false ∷ flags) (byte ∷ bytes) next k zero same inside settled = refl
filled_same (false ∷ flags) (byte ∷ bytes) next k (suc i) same inside settled = filled_same flags bytes next k i (omega (arith, same)) (omega (arith, inside)) settled

-- it is an image that a crash may leave
pub filled_image : (flags : List Bool) (bytes : List ℕ) (next : ℕ → ℕ) (k : ℕ) → length flags ≡ length bytes → IsImage bytes flags (filled flags bytes next k)
filled_image flags bytes next k same = record { as_long = length-filled flags bytes next k same; same = λ i inside settled. filled_same flags bytes next k i same inside settled }

-- where nothing is unsettled, nothing changes
filled_none : (flags : List Bool) (bytes : List ℕ) (next : ℕ → ℕ) (k : ℕ) → length flags ≡ length bytes → ((i : ℕ) → get_or flags i false ≡ false) → filled flags bytes next k ≡ bytes
filled_none flags bytes next k same none = same_numbers _ _ (length-filled flags bytes next k same) (λ i inside. filled_same flags bytes next k i same (omega (arith, inside, length-filled flags bytes next k same)) (none i))

module _ (flags : List Bool) (bytes : List ℕ) (next : ℕ → ℕ) (k i : ℕ) (same : length flags ≡ length bytes) (inside : i < length bytes) where
  abbrev rest : List ℕ
  rest = filled (drop i flags) (drop i bytes) next k

  split_flags : (flag : Bool) → get_or flags i false ≡ flag → drop i flags ≡ flag ∷ drop (i + 1) flags
  split_flags flag is = drop_more flags i false (omega (arith, same, inside)) ∙ ap (λ f. f ∷ drop (i + 1) flags) is

  split_bytes : drop i bytes ≡ get_or bytes i 0 ∷ drop (i + 1) bytes
  split_bytes = drop_more bytes i 0 inside

  -- a settled byte is passed
  pub passed : get_or flags i false ≡ false → take i bytes ++ rest ≡ take (i + 1) bytes ++ filled (drop (i + 1) flags) (drop (i + 1) bytes) next k
  passed settled =
      ap (λ (l : List Bool). take i bytes ++ filled l (drop i bytes) next k) (split_flags false settled)
      ∙ ap (λ (l : List ℕ). take i bytes ++ filled (false ∷ drop (i + 1) flags) l next k) split_bytes
      ∙ sym (append_assoc (take i bytes) (get_or bytes i 0 ∷ []) (filled (drop (i + 1) flags) (drop (i + 1) bytes) next k))
      ∙ ap (λ (l : List ℕ). l ++ filled (drop (i + 1) flags) (drop (i + 1) bytes) next k) (sym (take_more bytes i 0 inside))

  -- an unsettled byte is replaced
  pub replaced : get_or flags i false ≡ true → take i bytes ++ rest ≡ take (i + 1) (set bytes i (next k)) ++ filled (drop (i + 1) flags) (drop (i + 1) (set bytes i (next k))) next (k + 1)
  replaced unsettled =
      ap (λ (l : List Bool). take i bytes ++ filled l (drop i bytes) next k) (split_flags true unsettled)
      ∙ ap (λ (l : List ℕ). take i bytes ++ filled (true ∷ drop (i + 1) flags) l next k) split_bytes
      ∙ sym (append_assoc (take i bytes) (next k ∷ []) (filled (drop (i + 1) flags) (drop (i + 1) bytes) next (k + 1)))
      ∙ ap (λ (l : List ℕ). l ++ filled (drop (i + 1) flags) (drop (i + 1) bytes) next (k + 1)) (sym (take_more_set bytes i (next k) inside))
      ∙ ap (λ (l : List ℕ). take (i + 1) (set bytes i (next k)) ++ filled (drop (i + 1) flags) l next (k + 1)) (sym (drop-set-lt (i + 1) bytes i (next k) (omega arith)))

-- up to the range, all is settled
pub before_range : (flags : List Bool) (bytes : List ℕ) (next : ℕ → ℕ) (low : ℕ) → length flags ≡ length bytes → low ≤ length bytes → ((i : ℕ) → i < low → get_or flags i false ≡ false) → take low bytes ++ filled (drop low flags) (drop low bytes) next 0 ≡ filled flags bytes next 0
before_range flags bytes next zero same within settled = refl
before_range flags bytes next (suc low) same within settled =
    let one : suc low ≡ low + 1 = omega arith in
    rw one (sym (passed flags bytes next 0 low same (omega (arith, within)) (settled low (omega arith))) ∙ before_range flags bytes next low same (omega (arith, within)) (λ i less. settled i (omega (arith, less))))

-- behind it, too
pub after_range : (flags : List Bool) (bytes : List ℕ) (next : ℕ → ℕ) (k high : ℕ) → length flags ≡ length bytes → high ≤ length bytes → ((i : ℕ) → high ≤ i → get_or flags i false ≡ false) → filled (drop high flags) (drop high bytes) next k ≡ drop high bytes
after_range flags bytes next k high same within settled = filled_none (drop high flags) (drop high bytes) next k (omega (arith, length-drop high flags, length-drop high bytes, same)) (λ i. get_or-drop high flags i false ∙ settled (high + i) (omega arith))

-- with one value for all, it is no matter which one comes next
pub one_value : (flags : List Bool) (bytes : List ℕ) (value j k : ℕ) → filled flags bytes (λ _. value) j ≡ filled flags bytes (λ _. value) k
one_value [] bytes value j k = refl
one_value (flag ∷ flags) [] value j k = elim flag as (λ f. filled (f ∷ flags) [] (λ _. value) j ≡ filled (f ∷ flags) [] (λ _. value) k) [ true ↦ refl | false ↦ refl ]
one_value (true ∷ flags) (byte ∷ bytes) value j k = ap (λ (l : List ℕ). value ∷ l) (one_value flags bytes value (j + 1) (k + 1))
one_value (false ∷ flags) (byte ∷ bytes) value j k = ap (λ (l : List ℕ). byte ∷ l) (one_value flags bytes value j k)

-- ---- a loop over the range: what is done and what the rest will be make up one list

module _ (flags : List Bool) (bytes all : List ℕ) (next : ℕ → ℕ) (k i : ℕ) (same : length flags ≡ length bytes) (so_far : take i bytes ++ filled (drop i flags) (drop i bytes) next k ≡ all) where
  pub stays_one : i < length bytes → get_or flags i false ≡ false → (after : List ℕ) → after ≡ bytes → take (i + 1) after ++ filled (drop (i + 1) flags) (drop (i + 1) after) next k ≡ all
  stays_one inside settled after is = rw is (sym (passed flags bytes next k i same inside settled) ∙ so_far)

  pub one_more : i < length bytes → get_or flags i false ≡ true → (after : List ℕ) (value : ℕ) → value ≡ next k → after ≡ set bytes i value → take (i + 1) after ++ filled (drop (i + 1) flags) (drop (i + 1) after) next (k + 1) ≡ all
  one_more inside unsettled after value value_is is = rw (is, value_is) (sym (replaced flags bytes next k i same inside unsettled) ∙ so_far)

  pub all_done : i ≤ length bytes → ((j : ℕ) → i ≤ j → get_or flags j false ≡ false) → bytes ≡ all
  all_done within settled = sym (take-append-drop i bytes) ∙ ap (λ (l : List ℕ). take i bytes ++ l) (sym (after_range flags bytes next k i same within settled)) ∙ so_far

-- ---- the image by word

-- it is one that a crash may leave
pub image_by_word : (word : ℕ) (flags : List Bool) (bytes synced : List ℕ) → length flags ≡ length bytes → IsImage bytes flags synced → IsImage bytes flags (image_by word flags bytes synced)
image_by_word word flags bytes synced same agrees =
    let P : List ℕ → Type 0 = IsImage bytes flags in
    either (word == 0) P synced _ agrees
    (either (word == 1) P bytes _ (record { as_long = refl; same = λ i inside settled. refl })
    (either (nat_le 256 word && nat_le word 511) P _ _ (filled_image flags bytes (λ _. word - 256) 0 same) (filled_image flags bytes (word_byte word) 0 same)))
  where
    either : (c : Bool) (P : List ℕ → Type 0) (xs ys : List ℕ) → P xs → P ys → P (if c then xs else ys)
    either true P xs ys px py = px
    either false P xs ys px py = py

-- what agrees with the bytes agrees with each image of them
pub still_synced : (bytes image synced : List ℕ) (flags : List Bool) → IsImage bytes flags image → IsImage bytes flags synced → IsImage image flags synced
still_synced bytes image synced flags is agrees = record {
  as_long = agrees.as_long ∙ sym is.as_long;
  same = λ i inside settled. let here : i < length bytes = omega (arith, inside, is.as_long) in agrees.same i here settled ∙ sym (is.same i here settled);
}
