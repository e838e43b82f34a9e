-- The bytes at a place, and what a torn range leaves of them.
use Rattle.std.specs.Prelude.{◌≡◌, ◌≤◌, ◌<◌, ◌+◌, ◌-◌, ℕ, List, ◌∷◌, ◌++◌, length, get_or, take, drop, refl}
use Rattle.std.proofs.Common.{sym, ◌∙◌, ap, subst, arith, get_or-take, get_or-drop}
use Rattle.std.proofs.lemmas.List.{take_at, drop_at, drop-take, drop-drop, take-take, length-take-le, append_assoc, drop_more}
use Rattle.std.proofs.Math.Seq.{take-add}
use Rattle.std.proofs.Math.Numerals.{add-one}
use Rattle.disk_trait.specs.Disk.{Torn, overwritten, bytes_at}

-- below a torn range
pub below : (old new : List ℕ) (at n from m : ℕ) → Torn at n old new → from + m ≤ at → bytes_at new from m ≡ bytes_at old from m
below old new at n from m torn low =
    sym (drop-take from m new) ∙ ap (drop from) (sym (take-take (from + m) at new low) ∙ ap (take (from + m)) torn.before ∙ take-take (from + m) at old low) ∙ drop-take from m old

-- above it
pub above : (old new : List ℕ) (at n from m : ℕ) → Torn at n old new → at + n ≤ from → bytes_at new from m ≡ bytes_at old from m
above old new at n from m torn high =
    let here : at + n + (from - (at + n)) ≡ from = omega arith in
    ap (take m) (subst (λ k. drop k new ≡ drop k old) here (sym (drop-drop (from - (at + n)) (at + n) new) ∙ ap (drop (from - (at + n))) torn.after ∙ drop-drop (from - (at + n)) (at + n) old))

pub byte_below : (old new : List ℕ) (at n i d : ℕ) → Torn at n old new → i < at → get_or new i d ≡ get_or old i d
byte_below old new at n i d torn low = sym (get_or-take at new i d low) ∙ ap (λ (l : List ℕ). get_or l i d) torn.before ∙ get_or-take at old i d low

pub byte_above : (old new : List ℕ) (at n i d : ℕ) → Torn at n old new → at + n ≤ i → get_or new i d ≡ get_or old i d
byte_above old new at n i d torn high =
    let same : get_or new (at + n + (i - (at + n))) d ≡ get_or old (at + n + (i - (at + n))) d =
    sym (get_or-drop (at + n) new (i - (at + n)) d) ∙ ap (λ (l : List ℕ). get_or l (i - (at + n)) d) torn.after ∙ get_or-drop (at + n) old (i - (at + n)) d in
    let here : at + n + (i - (at + n)) ≡ i = omega arith in
    subst (λ k. get_or new k d ≡ get_or old k d) here same

-- what was written stands where it was written
pub written : (old : List ℕ) (at : ℕ) (bytes : List ℕ) → at ≤ length old → bytes_at (overwritten old at bytes) at (length bytes) ≡ bytes
written old at bytes fits =
    ap (λ (l : List ℕ). take (length bytes) (drop at l)) (append_assoc (take at old) bytes (drop (at + length bytes) old))
    ∙ ap (take (length bytes)) (drop_at (take at old) (bytes ++ drop (at + length bytes) old) at (length-take-le at old fits))
    ∙ take_at bytes (drop (at + length bytes) old) (length bytes) refl

-- two ranges side by side
pub both : (xs : List ℕ) (at m n : ℕ) → bytes_at xs at (m + n) ≡ bytes_at xs at m ++ bytes_at xs (at + m) n
both xs at m n = take-add m n (drop at xs) ∙ ap (λ (l : List ℕ). take m (drop at xs) ++ take n l) (drop-drop m at xs)

-- a byte and the range behind it
pub byte_and : (xs : List ℕ) (at n d : ℕ) → at < length xs → bytes_at xs at (n + 1) ≡ get_or xs at d ∷ bytes_at xs (at + 1) n
byte_and xs at n d within = ap (take (n + 1)) (drop_more xs at d within) ∙ rw add-one refl

-- a byte of a range
pub byte_of : (xs : List ℕ) (at n i d : ℕ) → i < n → get_or (bytes_at xs at n) i d ≡ get_or xs (at + i) d
byte_of xs at n i d within = get_or-take n (drop at xs) i d within ∙ get_or-drop at xs i d

-- what is torn in a range is torn in a wider one
pub wider : (old new : List ℕ) (at n from m : ℕ) → Torn at n old new → from ≤ at → at + n ≤ from + m → Torn from m old new
wider old new at n from m torn low high = record {
  as_long = torn.as_long;
  before = sym (take-take from at new low) ∙ ap (take from) torn.before ∙ take-take from at old low;
  after =
      let here : at + n + (from + m - (at + n)) ≡ from + m = omega arith in
      subst (λ k. drop k new ≡ drop k old) here (sym (drop-drop (from + m - (at + n)) (at + n) new) ∙ ap (drop (from + m - (at + n))) torn.after ∙ drop-drop (from + m - (at + n)) (at + n) old);
}
