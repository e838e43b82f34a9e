-- What a router answers to a line, and the text of an answer.
use Rattle.std.specs.Prelude.{◌≡◌, ◌⊎◌, ◌-◌, ◌<◌, ℕ, Result, Ok, Err, Option, Some, None, List, [], ◌∷◌, ◌++◌, codes, decimal, get_or, length}
use Rattle.std.specs.List.{flat_map, remove}
use Rattle.schemes.specs.declared.packet.Address.{Address}
use Rattle.schemes.specs.declared.packet.Packet.{Packet}
use Rattle.schemes.specs.declared.packet.Move.{Move}
use Rattle.schemes.specs.declared.packet.Refused.{Refused}
use Rattle.packet_bytes.specs.Texts.{address_line, move_text, packet_line, refused_text, unread_text}
use Rattle.router_table.specs.Handing.{hopped, launched}
use Rattle.router_table.specs.Refusals.{IsRefusedFor}
use Rattle.router_table.specs.Spelling.{SpellsTable}
use Rattle.router_table.specs.Table.{Table, address_of}
use Rattle.router_table.specs.declared.refused.ReadRefused.{ReadRefused}
use Rattle.router_table.specs.declared.refused.ReadRefused.TheVariants.{NoTable, UnknownVersion, CutShort, TooLong, Damaged, NotInOrder, Memory as ReadMemory}
use Rattle.router_lines.specs.Shelves.{IsLoaded, IsNotLoaded, Shelf, generations_of, place_in, table_in}
use Rattle.router_lines.specs.declared.answer.Answer.{Answer}
use Rattle.router_lines.specs.declared.answer.Answer.TheVariants.{Told, Sent, Moved, NotCarried, Gone, Unread, Listed, Loaded, Dropped, OnlyTable, NotRead, NotLoaded, NoFile, NotUnderstood}
use Rattle.router_lines.specs.declared.line.Asked.{Asked}
use Rattle.router_lines.specs.declared.line.Asked.TheVariants.{Address as WhereIs, Launch, Hop, Tables as WhichTables, Unread as Unspelled, NotUnderstood as Unknown}
use Rattle.router_lines.specs.declared.shelf.LoadRefused.{LoadRefused}
use Rattle.router_lines.specs.declared.shelf.LoadRefused.TheVariants.{OtherNode, GenerationGone, Memory as LoadMemory}

-- ---- what is answered

-- the packet that is sent, or why none is
abbrev pub sent : Result Packet Refused → Answer
sent (Ok k) = Sent k
sent (Err e) = NotCarried e

-- what becomes of a packet, or why it goes no further
abbrev pub moved : Result Move Refused → Answer
moved (Ok m) = Moved m
moved (Err e) = NotCarried e

-- by the table of a generation, where it is there
abbrev pub sent_by : Option Table → Address → Answer
sent_by None to = Gone
sent_by (Some a) to = sent (launched a to)

abbrev pub moved_by : Option Table → Packet → Answer
moved_by None k = Gone
moved_by (Some a) k = moved (hopped a k)

-- the newest table's address
abbrev pub newest_address : List Table → Address → Type 0
newest_address tables address = (d : Table) → address ≡ address_of (get_or tables (length tables - 1) d).head

-- What a shelf answers to what a line asks for: a packet is sent, and goes on, by the table of its own generation.
abbrev pub IsAnswerTo : Shelf → Asked → Answer → Type 0
IsAnswerTo s WhereIs answer = (address : Address) × ((answer ≡ Told address) × newest_address s.tables address)
IsAnswerTo s (Launch to) answer = answer ≡ sent_by (table_in s.tables to.generation) to
IsAnswerTo s (Hop k) answer = answer ≡ moved_by (table_in s.tables k.generation) k
IsAnswerTo s WhichTables answer = answer ≡ Listed s.node (record { items = generations_of s.tables })
IsAnswerTo s (Unspelled e) answer = answer ≡ Unread e
IsAnswerTo s Unknown answer = answer ≡ NotUnderstood

-- What a shelf answers to a file's bytes, and what it is then: with the table that they spell, where that is put there, and else as it
-- was, with the reason.
abbrev pub IsLoadedBy : Shelf → List ℕ → Shelf → Answer → Type 0
IsLoadedBy old bytes new answer =
    ((a : Table) × (SpellsTable bytes a × ((answer ≡ Loaded a.head.generation) × IsLoaded old a new)))
    ⊎ ((new ≡ old)
    × (((e : ReadRefused) × ((answer ≡ NotRead e) × IsRefusedFor bytes e))
    ⊎ ((a : Table) × ((e : LoadRefused) × (SpellsTable bytes a × ((answer ≡ NotLoaded e) × IsNotLoaded old a e))))))

-- What a shelf answers where a generation is to be forgotten whose table stands at this place, if there is one, and what it is then: without
-- that table; or as it was, where there is none, or no other.
abbrev pub IsForgottenAt : Shelf → ℕ → Option ℕ → Shelf → Answer → Type 0
IsForgottenAt old generation None new answer = (answer ≡ Gone) × (new ≡ old)
IsForgottenAt old generation (Some place) new answer =
    ((length old.tables ≡ 1) × ((answer ≡ OnlyTable) × (new ≡ old)))
    ⊎ ((1 < length old.tables) × ((answer ≡ Dropped generation) × (new ≡ record { node = old.node; tables = remove old.tables place })))

-- the same of the place at which its table stands
abbrev pub IsForgotten : Shelf → ℕ → Shelf → Answer → Type 0
IsForgotten old generation new answer = IsForgottenAt old generation (place_in old.tables generation) new answer

-- ---- texts

-- a number behind a comma
abbrev pub behind_comma : ℕ → List ℕ
behind_comma n = codes "," ++ decimal n

-- numbers with a comma before each but the first
abbrev pub listed_text : List ℕ → List ℕ
listed_text [] = []
listed_text (n ∷ ns) = decimal n ++ flat_map behind_comma ns

-- why bytes are no table
abbrev pub read_text : ReadRefused → List ℕ
read_text NoTable = codes "no table"
read_text UnknownVersion = codes "version not known"
read_text CutShort = codes "cut short"
read_text TooLong = codes "too long"
read_text Damaged = codes "damaged"
read_text NotInOrder = codes "not in order"
read_text ReadMemory = codes "out of memory"

-- why a table isn't put on a shelf
abbrev pub load_text : LoadRefused → List ℕ
load_text OtherNode = codes "other node"
load_text GenerationGone = codes "generation gone"
load_text LoadMemory = codes "out of memory"

-- the line of an answer
abbrev pub answer_text : Answer → List ℕ
answer_text (Told a) = address_line a
answer_text (Sent k) = packet_line k
answer_text (Moved m) = move_text m
answer_text (NotCarried e) = refused_text e
answer_text Gone = codes "generation gone"
answer_text (Unread e) = unread_text e
answer_text (Listed node generations) = codes "node=" ++ (decimal node ++ (codes " generations=" ++ listed_text generations.items))
answer_text (Loaded generation) = codes "generation=" ++ decimal generation
answer_text (Dropped generation) = codes "dropped generation=" ++ decimal generation
answer_text OnlyTable = codes "only generation"
answer_text (NotRead e) = read_text e
answer_text (NotLoaded e) = load_text e
answer_text NoFile = codes "file cannot be used"
answer_text NotUnderstood = codes "not understood"
