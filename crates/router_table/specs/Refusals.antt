-- Why bytes are refused: the first case that holds, in the order of the tests.
use Rattle.std.specs.Prelude.{◌≡◌, ◌≢◌, ℕ, zero, suc, ◌-◌, ◌*◌, ◌≤◌, ◌<◌, nat_lt, if◌then◌else◌, List, ◌++◌, length, get_or, take, drop, Option, Some, None}
use Rattle.std.specs.Int.{w16, from_be_bytes}
use Rattle.schemes.specs.declared.parts.Parts.{Parts}
use Rattle.byte_forms.specs.declared.read_error.ReadError.{ReadError}
use Rattle.byte_forms.specs.declared.read_error.ReadError.TheVariants.{Malformed, Memory as NoMemoryRead}
use Rattle.router_table.specs.declared.refused.ReadRefused.{ReadRefused}
use Rattle.router_table.specs.declared.refused.ReadRefused.TheVariants.{NoTable, UnknownVersion, CutShort, TooLong, Damaged, NotInOrder, Memory}
use Rattle.router_table.specs.declared.refused.TableRefused.{TableRefused}
use Rattle.router_table.specs.declared.refused.TableRefused.TheVariants.{NoNode, Memory as NoMemory, NotInOrder as NodeNotInOrder}
use Rattle.byte_forms.specs.Reading.{◌>>=◌}
use Rattle.router_table.specs.Order.{IsTable}
use Rattle.router_table.specs.Spelling.{letters, version, body_text, digest_of, SpellsTable}
use Rattle.router_table.specs.Table.{Table, table_at}

-- ---- the form of a table, whatever its values

-- the letters of a table stand in front
pub record HasLetters (bytes : List ℕ) : Type 0 where
  pub long : 8 ≤ length bytes
  pub front : take 6 bytes ≡ letters

-- the version stands behind them
abbrev pub HasVersion : List ℕ → Type 0
HasVersion bytes = take 2 (drop 6 bytes) ≡ version

-- the bytes behind so many, where there are so many
abbrev pub behind : ℕ → List ℕ → Option (List ℕ)
behind n bytes = if nat_lt (length bytes) n then None else Some (drop n bytes)

-- the bytes behind a list of items that have one size, which begins with their number
unfoldable pub behind_items : ℕ → List ℕ → Option (List ℕ)
behind_items size bytes = do
  rest ← behind 2 bytes
  behind (size * from_be_bytes w16 (take 2 bytes)) rest

-- the bytes behind so many members of a directory: of each the fifth byte says how many ports stand behind it
unfoldable pub behind_members : ℕ → List ℕ → Option (List ℕ)
behind_members zero bytes = Some bytes
behind_members (suc n) bytes = do
  ports ← behind 5 bytes
  rest ← behind (2 * get_or bytes 4 0) ports
  behind_members n rest

-- the bytes behind a directory, which begins with the number of its members
unfoldable pub behind_directory : List ℕ → Option (List ℕ)
behind_directory bytes = do
  rest ← behind 2 bytes
  behind_members (from_be_bytes w16 (take 2 bytes)) rest

-- the sizes of a table's head, of an entry and of a digest
abbrev pub head_size : ℕ
head_size = 62

abbrev pub entry_size : ℕ
entry_size = 13

abbrev pub digest_size : ℕ
digest_size = 32

-- the bytes behind a table's body: its head and its three lists
unfoldable pub behind_body : List ℕ → Option (List ℕ)
behind_body bytes = do
  ports ← behind head_size bytes
  entries ← behind_items 2 ports
  directory ← behind_items entry_size entries
  behind_directory directory

-- behind the body there are fewer bytes than a digest has, more, or just as many
abbrev pub IsShort : Option (List ℕ) → Type 0
IsShort None = Unit {0}
IsShort (Some rest) = length rest < digest_size

abbrev pub IsLong : Option (List ℕ) → Type 0
IsLong None = ⊥
IsLong (Some rest) = digest_size < length rest

abbrev pub IsJust : Option (List ℕ) → Type 0
IsJust None = ⊥
IsJust (Some rest) = length rest ≡ digest_size

-- there are fewer bytes than the counts say, more, or just as many
abbrev pub IsCutShort : List ℕ → Type 0
IsCutShort bytes = IsShort (behind_body bytes)

abbrev pub IsTooLong : List ℕ → Type 0
IsTooLong bytes = IsLong (behind_body bytes)

abbrev pub IsWhole : List ℕ → Type 0
IsWhole bytes = IsJust (behind_body bytes)

-- all bytes but those of the digest, and these
abbrev pub body_in : List ℕ → List ℕ
body_in bytes = take (length bytes - digest_size) bytes

abbrev pub digest_in : List ℕ → List ℕ
digest_in bytes = drop (length bytes - digest_size) bytes

-- the digest is that of the bytes before it
abbrev pub HasDigest : List ℕ → Type 0
HasDigest bytes = digest_in bytes ≡ digest_of (body_in bytes)

-- the form of a table: letters, version, size and digest
pub record HasForm (bytes : List ℕ) : Type 0 where
  pub letters : HasLetters bytes
  pub version : HasVersion bytes
  pub whole : IsWhole bytes
  pub digest : HasDigest bytes

-- the body of bytes that have the form of a table: the letters and the version stand in front, and it has room for a head
pub record IsBodyOf (bytes body : List ℕ) : Type 0 where
  pub form : HasForm bytes
  pub same : body ≡ body_in bytes
  pub front : take 8 body ≡ letters ++ version
  pub long : head_size ≤ length body

-- ---- the refusals

-- what a refusal says of the bytes: that the tests before it pass, and its own doesn't. Of memory it says nothing.
abbrev pub IsRefusedFor : List ℕ → ReadRefused → Type 0
IsRefusedFor bytes NoTable = HasLetters bytes → ⊥
IsRefusedFor bytes UnknownVersion = HasLetters bytes × (HasVersion bytes → ⊥)
IsRefusedFor bytes CutShort = HasLetters bytes × HasVersion bytes × IsCutShort bytes
IsRefusedFor bytes TooLong = HasLetters bytes × HasVersion bytes × IsTooLong bytes
IsRefusedFor bytes Damaged = HasLetters bytes × HasVersion bytes × IsWhole bytes × (HasDigest bytes → ⊥)
IsRefusedFor bytes NotInOrder = HasForm bytes × ((a : Table) → SpellsTable bytes a → ⊥)
IsRefusedFor bytes Memory = Unit {0}

-- the same of the tests of the form alone
abbrev pub IsFormRefused : List ℕ → ReadRefused → Type 0
IsFormRefused bytes NoTable = IsRefusedFor bytes NoTable
IsFormRefused bytes UnknownVersion = IsRefusedFor bytes UnknownVersion
IsFormRefused bytes CutShort = IsRefusedFor bytes CutShort
IsFormRefused bytes TooLong = IsRefusedFor bytes TooLong
IsFormRefused bytes Damaged = IsRefusedFor bytes Damaged
IsFormRefused bytes NotInOrder = ⊥
IsFormRefused bytes Memory = ⊥

-- the same of a body alone: no table in order has it, or memory was refused
abbrev pub IsBodyRefused : List ℕ → ReadRefused → Type 0
IsBodyRefused body NoTable = ⊥
IsBodyRefused body UnknownVersion = ⊥
IsBodyRefused body CutShort = ⊥
IsBodyRefused body TooLong = ⊥
IsBodyRefused body Damaged = ⊥
IsBodyRefused body NotInOrder = (a : Table) → IsTable a → body ≢ body_text a
IsBodyRefused body Memory = Unit {0}

-- the refusal of a body whose lists weren't read
abbrev pub refusal_by : ReadError → ReadRefused
refusal_by Malformed = NotInOrder
refusal_by NoMemoryRead = Memory

-- what a refusal of a scheme says: the node isn't there, or its lists aren't in order. Of memory it says nothing.
abbrev pub IsTableRefused : Parts → ℕ → TableRefused → Type 0
IsTableRefused p x NoNode = p.nodes ≤ x
IsTableRefused p x NoMemory = Unit {0}
IsTableRefused p x NodeNotInOrder = (x < p.nodes) × (IsTable (table_at p x) → ⊥)

-- what the lists of a node give, in order or not, and why they give nothing
abbrev pub IsFieldsAt : Parts → ℕ → Table → Type 0
IsFieldsAt p x a = (x < p.nodes) × (a ≡ table_at p x)

abbrev pub IsNoFields : Parts → ℕ → TableRefused → Type 0
IsNoFields p x NoNode = p.nodes ≤ x
IsNoFields p x NoMemory = Unit {0}
IsNoFields p x NodeNotInOrder = ⊥
