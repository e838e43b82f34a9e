-- What a crash may leave of bytes that a sync has not settled, and which of it a word chooses.
use Rattle.std.specs.Prelude.{◌≡◌, ◌<◌, ◌≤◌, ◌+◌, ◌-◌, ◌/◌, ◌%◌, ◌==◌, ◌&&◌, ℕ, zero, suc, List, [], ◌∷◌, ◌++◌, length, get_or, take, drop, replicate, Bool, true, false, nat_le, if◌then◌else◌}
use Rattle.std.specs.Int.{w64, to_be_bytes}
use Rattle.rand_xoshiro.specs.SplitMix64.{mix_u64}

-- the image agrees with the bytes wherever they are settled
pub record IsImage (bytes : List ℕ) (unsettled : List Bool) (image : List ℕ) : Type 0 where
  pub as_long : length image ≡ length bytes
  pub same : (i : ℕ) → i < length bytes → get_or unsettled i false ≡ false → get_or image i 0 ≡ get_or bytes i 0

-- no flag is set outside low..high
pub record IsSettledOutside (low high : ℕ) (unsettled : List Bool) : Type 0 where
  pub below : (i : ℕ) → i < low → get_or unsettled i false ≡ false
  pub above : (i : ℕ) → high ≤ i → get_or unsettled i false ≡ false

-- the flags with the n places from at on set
abbrev pub marked : List Bool → ℕ → ℕ → List Bool
marked flags at n = take at flags ++ replicate n true ++ drop (at + n) flags

-- the flags with the n places from at on cleared
abbrev pub unmarked : List Bool → ℕ → ℕ → List Bool
unmarked flags at n = take at flags ++ replicate n false ++ drop (at + n) flags

-- the unsettled bytes replaced, in ascending place, by next k, next (k + 1) and so on
abbrev pub filled : List Bool → List ℕ → (ℕ → ℕ) → ℕ → List ℕ
filled (true ∷ flags) (byte ∷ bytes) next k = next k ∷ filled flags bytes next (k + 1)
filled (false ∷ flags) (byte ∷ bytes) next k = byte ∷ filled flags bytes next k
filled flags bytes next k = []

-- the state of a SplitMix64, which begins as the word, after k words
unfoldable pub state_after : ℕ → ℕ → ℕ
state_after word zero = word
state_after word (suc k) = (mix_u64 (state_after word k)).1

-- its next word after k words, as eight bytes, the highest first
unfoldable pub word_bytes : ℕ → ℕ → List ℕ
word_bytes word k = to_be_bytes w64 (mix_u64 (state_after word k)).0

-- the k-th byte of all its words, one after the other
abbrev pub word_byte : ℕ → ℕ → ℕ
word_byte word k = get_or (word_bytes word (k / 8)) (k % 8) 0

-- What a crash leaves: settled bytes are those of the content. Over the unsettled ones the word decides: with 0 they are what the
-- last good sync left there, with 1 the content, with 256 to 511 each is the word less 256, and with any other word they are what
-- a SplitMix64 puts out that starts at it.
abbrev pub image_by : ℕ → List Bool → List ℕ → List ℕ → List ℕ
image_by word unsettled bytes synced =
    if word == 0 then synced
    else if word == 1 then bytes
    else if nat_le 256 word && nat_le word 511 then filled unsettled bytes (λ _. word - 256) 0
    else filled unsettled bytes (word_byte word) 0

-- n bytes 0: kept folded, since at a numeral it would be written out
unfoldable pub zeros : ℕ → List ℕ
zeros n = replicate n 0
