-- What stands at the front of bytes, and the bytes behind it: none where they don't begin so.
use Rattle.std.specs.Prelude.{◌≡◌, ℕ, zero, suc, ◌+◌, ◌==◌, ◌&&◌, List, [], ◌∷◌, length, take, drop, get_or, Option, Some, None, Result, Ok, Err, nat_lt, nat_le, if◌then◌else◌}
use Rattle.std.specs.Int.{Width, w16, byte_len, from_be_bytes}
use Rattle.byte_forms.specs.declared.read_error.ReadError.{ReadError}
use Rattle.byte_forms.specs.declared.read_error.ReadError.TheVariants.{Malformed, Memory}

-- the first reading, and then the second on what it found
infixl 10 ◌>>=◌
abbrev pub ◌>>=◌ : {A B : Type 0} → Option A → (A → Option B) → Option B
None >>= f = None
(Some x) >>= f = f x

-- What a function returned, as `view` sees it, is what is found, and it returned nothing where nothing is.
abbrev pub Finds : {X Y : Type 0} → (X → Y) → Option X → Option Y → Type 0
Finds view (Some x) found = found ≡ Some (view x)
Finds view None found = found ≡ None

-- nothing is found, unless memory ran out
abbrev pub Fails : {Y : Type 0} → ReadError → Option Y → Type 0
Fails Malformed found = found ≡ None
Fails Memory found = Unit {0}

-- what a function answered, as `view` sees it, is what is found, or it failed so
abbrev pub GivesOr : {X Y : Type 0} → (X → Y) → Result X ReadError → Option Y → Type 0
GivesOr view (Ok x) found = found ≡ Some (view x)
GivesOr view (Err e) found = Fails e found

-- one byte
abbrev pub byte_at : List ℕ → Option (ℕ × List ℕ)
byte_at [] = None
byte_at (b ∷ bytes) = Some (b, bytes)

-- a number of so many bytes
abbrev pub number_at : Width → List ℕ → Option (ℕ × List ℕ)
number_at w bytes = if nat_lt (length bytes) (byte_len w) then None else Some (from_be_bytes w (take (byte_len w) bytes), drop (byte_len w) bytes)

-- one part, and another behind it
abbrev pub then_at : {A B : Type 0} → (List ℕ → Option (A × List ℕ)) → (List ℕ → Option (B × List ℕ)) → List ℕ → Option ((A × B) × List ℕ)
then_at first second bytes = do
  a ← first bytes
  b ← second a.1
  Some ((a.0, b.0), b.1)

-- what is made of what is found, if anything is
abbrev pub made_at : {A X : Type 0} → (List ℕ → Option (A × List ℕ)) → (A → Option X) → List ℕ → Option (X × List ℕ)
made_at found make bytes = do
  a ← found bytes
  x ← make a.0
  Some (x, a.1)

-- so many items, one after the other
unfoldable pub items_at : {X : Type 0} → (List ℕ → Option (X × List ℕ)) → ℕ → List ℕ → Option (List X × List ℕ)
items_at found zero bytes = Some ([], bytes)
items_at found (suc n) bytes = do
  first ← found bytes
  others ← items_at found n first.1
  Some (first.0 ∷ others.0, others.1)

-- a list: how many there are, and each of them
unfoldable pub list_at : {X : Type 0} → (List ℕ → Option (X × List ℕ)) → List ℕ → Option (List X × List ℕ)
list_at found bytes = do
  n ← number_at w16 bytes
  items_at found n.0 n.1

-- a list within bounds: how many there are, no fewer and no more than these, and each of them
abbrev pub counted_at : {X : Type 0} → (List ℕ → Option (ℕ × List ℕ)) → (List ℕ → Option (X × List ℕ)) → ℕ → ℕ → List ℕ → Option (List X × List ℕ)
counted_at count found least most bytes = do
  n ← count bytes
  if nat_le least n.0 && nat_le n.0 most then items_at found n.0 n.1 else None

-- a short list: how many there are stands in one byte
unfoldable pub short_at : {X : Type 0} → (List ℕ → Option (X × List ℕ)) → ℕ → ℕ → List ℕ → Option (List X × List ℕ)
short_at found least most bytes = counted_at byte_at found least most bytes

-- what all bytes are, where nothing stands behind it
abbrev pub whole_at : {X : Type 0} → (List ℕ → Option (X × List ℕ)) → List ℕ → Option X
whole_at found bytes = do
  x ← found bytes
  if length x.1 == 0 then Some x.0 else None

-- the number of two bytes at a place
abbrev pub u16_of : List ℕ → ℕ → ℕ
u16_of bytes at = from_be_bytes w16 (get_or bytes at 0 ∷ get_or bytes (at + 1) 0 ∷ [])
