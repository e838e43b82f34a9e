-- What lines of a live service ask for.
use Rattle.std.specs.Prelude.{◌≡◌, ◌≢◌, ◌⊎◌, ◌*◌, ◌-◌, ◌==◌, ◌<◌, ◌≤◌, ◌^◌, ℕ, Ok, Option, Some, None, List, [], ◌∷◌, All, IsTrue, codes, cond, decimal, length, map, slice_index, take}
use Rattle.std.specs.Str.{IsUtf8}
use Rattle.std.specs.String.{string_bytes}
use Rattle.hex.specs.Hex.{decode_sized, is_hex_digit}
use Rattle.graph_edits.specs.declared.edits.Op.{Op}
use Rattle.requests.specs.Tickets.{worn_limit}
use Rattle.packet_bytes.specs.Layout.{address_size, packet_size}
use Rattle.packet_bytes.specs.Refusals.{address_refusal, packet_refusal}
use Rattle.packet_bytes.specs.Spelling.{SpellsAddress, SpellsPacket}
use Rattle.packet_bytes.specs.declared.wire.WireRefused.{WireRefused}
use Rattle.packet_bytes.specs.declared.wire.WireRefused.TheVariants.{BadLength}
use Rattle.packet_bytes.specs.Digits.{AreDigitsOf}
use Rattle.value_syntax.specs.OpText.{Fits, op_text}
use Rattle.value_syntax.specs.Scripts.{IsChange, words_of}
use Rattle.live_lines.specs.declared.words.Word.{Word}
use Rattle.live_lines.specs.declared.words.Word.TheVariants as word
use Rattle.live_lines.specs.declared.asked.Named.{Named}
use Rattle.live_lines.specs.declared.asked.Named.TheVariants.{Edited, Unedited}
use Rattle.live_lines.specs.declared.asked.Asked.{Asked}
use Rattle.live_lines.specs.declared.asked.Asked.TheVariants.{Edit, Resume, Route, Address, Launch, Hop, State, Wait, Tables, Backup, Metrics, Unread, NoSession, NotOps, NotUnderstood}

-- the first words of lines
abbrev pub word_text : Word → List ℕ
word_text word.Edit = codes "edit"
word_text word.Resume = codes "resume"
word_text word.Route = codes "route"
word_text word.Address = codes "address"
word_text word.Launch = codes "launch"
word_text word.Hop = codes "hop"
word_text word.State = codes "state"
word_text word.Wait = codes "wait"
word_text word.Tables = codes "tables"
word_text word.Backup = codes "backup"
word_text word.Metrics = codes "metrics"

-- ---- edits

-- a ticket, or `-` for the next one
abbrev pub ticket_word : Option ℕ → List ℕ
ticket_word None = codes "-"
ticket_word (Some ticket) = decimal ticket

-- a ticket that is named is from 1 to the greatest one
abbrev pub IsTicket : Option ℕ → Type 0
IsTicket None = Unit {0}
IsTicket (Some ticket) = (1 ≤ ticket) × (ticket ≤ worn_limit)

-- the words behind `edit`
abbrev pub edit_words : ℕ → Option ℕ → List Op → List (List ℕ)
edit_words session ticket change = decimal session ∷ ticket_word ticket ∷ map op_text change

-- the session has an editor, the ticket is one, and there are ops enough and not too many, whose numbers fit their types
pub record MayEdit (editors session : ℕ) (ticket : Option ℕ) (change : List Op) : Type 0 where
  pub editor : session < editors
  pub named : IsTicket ticket
  pub ops : IsChange change

-- ---- addresses and packets in digits

-- one hex digit or more, in either case, and nothing else
abbrev pub AreHex : List ℕ → Type 0
AreHex digits = (digits ≢ []) × All (λ c. IsTrue (is_hex_digit c)) digits

-- why digits are those of no value: they are more or fewer, or their bytes are refused
abbrev pub IsUnread : ℕ → (List ℕ → Option WireRefused) → List ℕ → WireRefused → Type 0
IsUnread size refusal digits e =
    ((e ≡ BadLength) × (length digits ≢ 2 * size))
    ⊎ ((length digits ≡ 2 * size) × ((bytes : List ℕ) × ((decode_sized digits size ≡ Ok bytes) × (refusal bytes ≡ Some e))))

-- what digits ask for: something of the value that they spell, or they are those of none
pub record DigitsAsk {X : Type 0} (size : ℕ) (spells : List ℕ → X → Type 0) (refusal : List ℕ → Option WireRefused) (something : X → Asked) (digits : List ℕ) (asked : Asked) : Type 0 where
  pub hex : AreHex digits
  pub read : ((x : X) × ((asked ≡ something x) × AreDigitsOf size spells digits x)) ⊎ ((e : WireRefused) × ((asked ≡ Unread e) × IsUnread size refusal digits e))

-- what the digits of an address ask a node for, and those of a packet
abbrev pub LaunchAsks : ℕ → List ℕ → Asked → Type 0
LaunchAsks node digits asked = DigitsAsk address_size SpellsAddress address_refusal (Launch node) digits asked

abbrev pub HopAsks : ℕ → List ℕ → Asked → Type 0
HopAsks node digits asked = DigitsAsk packet_size SpellsPacket packet_refusal (Hop node) digits asked

-- the words are a node and digits, which ask for this
pub record NodeAsks (Behind : ℕ → List ℕ → Asked → Type 0) (words : List (List ℕ)) (asked : Asked) : Type 0 where
  pub node : ℕ
  pub digits : List ℕ
  pub written : words ≡ decimal node ∷ digits ∷ []
  pub fits : node < 2 ^ 16
  pub asks : Behind node digits asked

-- ---- lines

-- the words behind a first word ask for this
pub record EditAsks (editors : ℕ) (words : List (List ℕ)) (asked : Asked) : Type 0 where
  pub session : ℕ
  pub ticket : Option ℕ
  pub change : List Op
  pub written : words ≡ edit_words session ticket change
  pub may : MayEdit editors session ticket change
  pub same : asked ≡ Edit session ticket change

pub record ResumeAsks (editors : ℕ) (words : List (List ℕ)) (asked : Asked) : Type 0 where
  pub session : ℕ
  pub written : words ≡ decimal session ∷ []
  pub editor : session < editors
  pub same : asked ≡ Resume session

-- the session has no editor: it is a number of 64 bits that isn't below the number of editors, and what stands behind it may be anything
pub record NoSessionAsks (editors : ℕ) (words : List (List ℕ)) (asked : Asked) : Type 0 where
  pub session : ℕ
  pub others : List (List ℕ)
  pub written : words ≡ decimal session ∷ others
  pub none : editors ≤ session
  pub small : session < 2 ^ 64
  pub same : asked ≡ NoSession

-- the word names a session, which has an editor or none
abbrev pub IsNamed : List ℕ → ℕ → Named → Type 0
IsNamed word editors (Edited session) = (word ≡ decimal session) × (session < editors)
IsNamed word editors Unedited = (session : ℕ) × (word ≡ decimal session) × (editors ≤ session) × (session < 2 ^ 64)

-- the word is an op
abbrev pub IsOp : List ℕ → Type 0
IsOp word = (op : Op) × Fits op × (word ≡ op_text op)

-- the words are a ticket and others, which are not all ops
pub record LacksOps (words : List (List ℕ)) : Type 0 where
  pub ticket : Option ℕ
  pub others : List (List ℕ)
  pub written : words ≡ ticket_word ticket ∷ others
  pub named : IsTicket ticket
  pub none : All IsOp others → ⊥

-- such words stand behind a session that has an editor
pub record NotOpsAsks (editors : ℕ) (words : List (List ℕ)) (asked : Asked) : Type 0 where
  pub session : ℕ
  pub others : List (List ℕ)
  pub written : words ≡ decimal session ∷ others
  pub editor : session < editors
  pub lacks : LacksOps others
  pub same : asked ≡ NotOps

pub record RouteAsks (words : List (List ℕ)) (asked : Asked) : Type 0 where
  pub from : ℕ
  pub to : ℕ
  pub written : words ≡ decimal from ∷ decimal to ∷ []
  pub fit : (from < 2 ^ 16) × (to < 2 ^ 16)
  pub same : asked ≡ Route from to

pub record AddressAsks (words : List (List ℕ)) (asked : Asked) : Type 0 where
  pub node : ℕ
  pub written : words ≡ decimal node ∷ []
  pub fits : node < 2 ^ 16
  pub same : asked ≡ Address node

-- the name of a folder or a file has a byte or more, each above a blank
abbrev pub IsFolder : List ℕ → Type 0
IsFolder text = (text ≢ []) × All (λ c. 32 < c) text

-- the words are a folder's name alone, as it is written
abbrev pub TablesAsks : List (List ℕ) → Asked → Type 0
TablesAsks words (Tables folder) = (words ≡ string_bytes folder ∷ []) × IsFolder (string_bytes folder)
TablesAsks words asked = ⊥

-- the same of a file's name
abbrev pub BackupAsks : List (List ℕ) → Asked → Type 0
BackupAsks words (Backup file) = (words ≡ string_bytes file ∷ []) × IsFolder (string_bytes file)
BackupAsks words asked = ⊥

abbrev pub AsksBehind : ℕ → Word → List (List ℕ) → Asked → Type 0
AsksBehind editors word.Edit words asked = EditAsks editors words asked ⊎ (NoSessionAsks editors words asked ⊎ NotOpsAsks editors words asked)
AsksBehind editors word.Resume words asked = ResumeAsks editors words asked ⊎ NoSessionAsks editors words asked
AsksBehind editors word.Route words asked = RouteAsks words asked
AsksBehind editors word.Address words asked = AddressAsks words asked
AsksBehind editors word.Launch words asked = NodeAsks LaunchAsks words asked
AsksBehind editors word.Hop words asked = NodeAsks HopAsks words asked
AsksBehind editors word.State words asked = (words ≡ []) × (asked ≡ State)
AsksBehind editors word.Wait words asked = (words ≡ []) × (asked ≡ Wait)
AsksBehind editors word.Tables words asked = TablesAsks words asked
AsksBehind editors word.Backup words asked = BackupAsks words asked
AsksBehind editors word.Metrics words asked = (words ≡ []) × (asked ≡ Metrics)

-- the words of a line ask for something that is known, in a service of so many editors
pub record WordsAsk (editors : ℕ) (words : List (List ℕ)) (asked : Asked) : Type 0 where
  pub first : Word
  pub others : List (List ℕ)
  pub written : words ≡ word_text first ∷ others
  pub asks : AsksBehind editors first others asked

-- so does a line that is text, cut at each blank
abbrev pub Asks : ℕ → List ℕ → Asked → Type 0
Asks editors line asked = IsUtf8 line × WordsAsk editors (words_of line) asked

-- This is asked for; or it isn't understood, and then nothing that is known is asked for.
abbrev pub AsksJust : (Asked → Type 0) → Asked → Type 0
AsksJust AsksFor asked = AsksFor asked ⊎ ((asked ≡ NotUnderstood) × ((other : Asked) → AsksFor other → ⊥))

-- the byte in front of the line feed that some programs end lines with
abbrev pub carriage_return : ℕ
carriage_return = 13

-- a line without it
abbrev pub without_return : List ℕ → List ℕ
without_return line = cond (slice_index line (length line - 1) == carriage_return) (take (length line - 1) line) line

-- what a line asks for, exactly
abbrev pub IsAskedIn : ℕ → List ℕ → Asked → Type 0
IsAskedIn editors line asked = AsksJust (Asks editors (without_return line)) asked
