-- What the program's words ask for.
use Rattle.std.specs.Prelude.{◌≡◌, ◌≢◌, ◌≤◌, ◌<◌, ◌^◌, ◌⊎◌, ℕ, Bool, false, List, [], ◌∷◌, Option, Some, None, IfSome, codes, decimal, map, option_map, length, All}
use Rattle.std.specs.List.{flat_map}
use Rattle.std.specs.Str.{bytes_eq}
use Rattle.clap.specs.Walk.{Row, Text, all_of, first_of}
use Rattle.clap.specs.Simple.{subcommand_of}
use Rattle.clap.specs.Faults.{fault_of}
use Rattle.graph_edits.specs.Edges.{most_ops}
use Rattle.graph_edits.specs.declared.edits.Op.{Op}
use Rattle.value_syntax.specs.declared.words.LandmarkWords.{LandmarkWords}
use Rattle.value_syntax.specs.OpText.{Fits, op_text}
use Rattle.value_syntax.specs.Scripts.{IsChange}
use Rattle.value_syntax.specs.WordsText.{IsAsked, IsSame, words_text}
use Rattle.command_line.specs.declared.refused.WordsRefused.{WordsRefused}
use Rattle.command_line.specs.declared.refused.WordsRefused.TheVariants as why
use Rattle.command_line.specs.declared.task.Task.{Task}
use Rattle.command_line.specs.declared.task.Task.TheVariants.{Format, Show, Edit, Resume, Route, Check, Migrate, Copy, Serve, Tables}
use Rattle.command_line.specs.Fields.{Field, Word, Number, Usual, Optional, Flag, Live, Nodes, Pairs, Landmarks, Ops, fields_named}
use Rattle.command_line.specs.Grammar.{program}

-- ---- what texts give a field

-- a number from one to another
abbrev pub IsWithin : ℕ → ℕ → ℕ → Type 0
IsWithin least most n = (least ≤ n) × (n ≤ most)

-- the text is this number in decimal
abbrev pub IsNumber : Option Text → ℕ → ℕ → ℕ → Type 0
IsNumber text least most n = (text ≡ Some (decimal n)) × IsWithin least most n

-- the same, or without a text the number is the usual one
abbrev pub IsUsual : Option Text → ℕ → ℕ → ℕ → ℕ → Type 0
IsUsual None least most usual n = n ≡ usual
IsUsual (Some text) least most usual n = (text ≡ decimal n) × IsWithin least most n

-- the same, or there is neither text nor number
abbrev pub IsOptional : Option Text → ℕ → ℕ → Option ℕ → Type 0
IsOptional text least most n = (text ≡ option_map decimal n) × IfSome n (IsWithin least most)

-- whether a flag is given, by its text
abbrev pub is_flagged : Option Text → Bool
is_flagged None = false
is_flagged (Some text) = bytes_eq text (codes "true")

-- `--live [--rounds R]`, or neither of them
abbrev pub IsLive : Option Text → Option Text → Option ℕ → Type 0
IsLive flag text (Some rounds) = (flag ≡ Some (codes "true")) × IsUsual text 1 65535 16 rounds
IsLive flag text None = (flag ≢ Some (codes "true")) × (text ≡ None)

-- the texts that an argument has, or none
abbrev pub texts_in : Option (List Text) → List Text
texts_in None = []
texts_in (Some given) = given

-- the texts are these nodes in decimal, in order, and no other
abbrev pub AreNodes : Option (List Text) → List ℕ → Type 0
AreNodes given nodes = (texts_in given ≡ map decimal nodes) × All (λ node. node < 2 ^ 16) nodes

-- `FROM TO [NODE]..`: the texts are these nodes
abbrev pub AreEnds : List Row → List ℕ → Type 0
AreEnds rows (from ∷ to ∷ more) = IsNumber (first_of (codes "from") rows) 0 65535 from × IsNumber (first_of (codes "to") rows) 0 65535 to × AreNodes (all_of (codes "more") rows) more
AreEnds rows nodes = ⊥

-- the nodes of pairs, one pair behind the other
abbrev pub nodes_of : List (ℕ × ℕ) → List ℕ
nodes_of pairs = flat_map (λ p. p.0 ∷ p.1 ∷ []) pairs

-- `--words W`, with W as landmark words are written
abbrev pub AreWords : List Row → LandmarkWords → Type 0
AreWords rows words = (first_of (codes "words") rows ≡ Some (words_text words)) × IsAsked words

-- `OP..`: the texts are these ops, in order, and no other
abbrev pub AreOps : List Row → List Op → Type 0
AreOps rows ops = all_of (codes "ops") rows ≡ Some (map op_text ops)

-- what a value of a field is
abbrev pub ValueOf : Field → Type 0
ValueOf (Word id) = Text
ValueOf (Number id least most) = ℕ
ValueOf (Usual id least most usual) = ℕ
ValueOf (Optional id least most) = Option ℕ
ValueOf (Flag id) = Bool
ValueOf Live = Option ℕ
ValueOf (Nodes id) = List ℕ
ValueOf Pairs = List (ℕ × ℕ)
ValueOf Landmarks = LandmarkWords
ValueOf Ops = List Op

-- the texts of a command's arguments ask for this value of a field
abbrev pub Asks : List Row → (field : Field) → ValueOf field → Type 0
Asks rows (Word id) text = first_of id rows ≡ Some text
Asks rows (Number id least most) n = IsNumber (first_of id rows) least most n
Asks rows (Usual id least most usual) n = IsUsual (first_of id rows) least most usual n
Asks rows (Optional id least most) n = IsOptional (first_of id rows) least most n
Asks rows (Flag id) given = given ≡ is_flagged (first_of id rows)
Asks rows Live rounds = IsLive (first_of (codes "live") rows) (first_of (codes "rounds") rows) rounds
Asks rows (Nodes id) nodes = AreNodes (all_of id rows) nodes
Asks rows Pairs pairs = AreEnds rows (nodes_of pairs)
Asks rows Landmarks words = AreWords rows words
Asks rows Ops ops = AreOps rows ops × IsChange ops

-- ---- what words ask for

-- a value of each field
abbrev pub ValuesOf : List Field → Type 0
ValuesOf [] = Unit {0}
ValuesOf (field ∷ fields) = ValueOf field × ValuesOf fields

-- this holds of each field and its value
abbrev pub EachOf : ((field : Field) → ValueOf field → Type 0) → (fields : List Field) → ValuesOf fields → Type 0
EachOf P [] values = Unit {0}
EachOf P (field ∷ fields) values = P field values.0 × EachOf P fields values.1

-- the name of a task's command
abbrev pub name_of : Task → Text
name_of (Format device nodes is_new) = codes "format"
name_of (Show device) = codes "show"
name_of (Edit device session ticket change) = codes "edit"
name_of (Resume device session) = codes "resume"
name_of (Route device pairs words) = codes "route"
name_of (Check device words) = codes "check"
name_of (Migrate old new) = codes "migrate"
name_of (Copy old new) = codes "copy"
name_of (Serve device editors forwarders places live words) = codes "serve"
name_of (Tables device folder nodes words) = codes "tables"

-- and what a task has of each of its fields
abbrev pub values_of : (task : Task) → ValuesOf (fields_named (name_of task))
values_of (Format device nodes is_new) = (device.now, (nodes, (is_new, tt)))
values_of (Show device) = (device.now, tt)
values_of (Edit device session ticket change) = (device.now, (change, (session, (ticket, tt))))
values_of (Resume device session) = (device.now, (session, tt))
values_of (Route device pairs words) = (device.now, (pairs.items, (words, tt)))
values_of (Check device words) = (device.now, (words, tt))
values_of (Migrate old new) = (old.now, (new.now, tt))
values_of (Copy old new) = (old.now, (new.now, tt))
values_of (Serve device editors forwarders places live words) = (device.now, (words, (editors, (forwarders, (places, (live, tt))))))
values_of (Tables device folder nodes words) = (device.now, (folder.now, (words, (nodes.items, tt))))

-- a command of this name, with these texts of its arguments, is this task
abbrev pub IsTask : Text → List Row → Task → Type 0
IsTask name rows task = (name ≡ name_of task) × EachOf (Asks rows) (fields_named (name_of task)) (values_of task)

-- the grammar takes the words, and they name this command, with these texts of its arguments
abbrev pub IsCommand : List Text → Text → List Row → Type 0
IsCommand words name rows = (fault_of program words ≡ []) × (subcommand_of program words ≡ Some (name, rows))

-- what the program's words ask for: the command that they name, by the grammar, is this task
abbrev pub IsAskedFor : List Text → Task → Type 0
IsAskedFor words task = (name : Text) × (rows : List Row) × IsCommand words name rows × IsTask name rows task

-- the same command, with the same texts and numbers
abbrev pub IsSameTask : Task → Task → Type 0
IsSameTask (Format device nodes is_new) (Format other count fresh) = (device.now ≡ other.now) × (nodes ≡ count) × (is_new ≡ fresh)
IsSameTask (Show device) (Show other) = device.now ≡ other.now
IsSameTask (Edit device session ticket change) (Edit other s asked ops) = (device.now ≡ other.now) × (session ≡ s) × (ticket ≡ asked) × (change ≡ ops)
IsSameTask (Resume device session) (Resume other asked) = (device.now ≡ other.now) × (session ≡ asked)
IsSameTask (Route device pairs words) (Route other others asked) = (device.now ≡ other.now) × (pairs.items ≡ others.items) × IsSame words asked
IsSameTask (Check device words) (Check other asked) = (device.now ≡ other.now) × IsSame words asked
IsSameTask (Migrate old new) (Migrate other made) = (old.now ≡ other.now) × (new.now ≡ made.now)
IsSameTask (Copy old new) (Copy other made) = (old.now ≡ other.now) × (new.now ≡ made.now)
IsSameTask (Serve device editors forwarders places live words) (Serve other e f q l asked) = (device.now ≡ other.now) × (editors ≡ e) × (forwarders ≡ f) × (places ≡ q) × (live ≡ l) × IsSame words asked
IsSameTask (Tables device folder nodes words) (Tables other place named asked) = (device.now ≡ other.now) × (folder.now ≡ place.now) × (nodes.items ≡ named.items) × IsSame words asked
IsSameTask task other = ⊥

-- ---- why words are no task

-- there is a text for landmark words, whatever it says
abbrev pub AreWordsGiven : List Row → Type 0
AreWordsGiven rows = (text : Text) × (first_of (codes "words") rows ≡ Some text)

-- and one text or more for ops, whatever they say
abbrev pub AreOpsGiven : List Row → Type 0
AreOpsGiven rows = (given : List Text) × (given ≢ []) × (all_of (codes "ops") rows ≡ Some given)

-- a field is asked for with this value, where words and ops may say what they will
abbrev pub IsShaped : List Row → (field : Field) → ValueOf field → Type 0
IsShaped rows Landmarks words = AreWordsGiven rows
IsShaped rows Ops ops = AreOpsGiven rows
IsShaped rows field value = Asks rows field value

-- A command of this name, with these texts of its arguments, is this task as far as its name and numbers go: each of these is in range,
-- and where the task has landmark words or ops, there are texts for them.
abbrev pub IsShapedAs : Text → List Row → Task → Type 0
IsShapedAs name rows task = (name ≡ name_of task) × EachOf (IsShaped rows) (fields_named (name_of task)) (values_of task)

-- what a field is refused for: words are of none of the forms; a text in the place of an op isn't one; there are more ops than a change may have
abbrev pub Lacks : List Row → Field → WordsRefused → Type 0
Lacks rows Landmarks why.Words = (words : LandmarkWords) → AreWords rows words → ⊥
Lacks rows Ops why.Op = (ops : List Op) → All Fits ops → AreOps rows ops → ⊥
Lacks rows Ops why.TooLong = (ops : List Op) × (most_ops < length ops) × AreOps rows ops
Lacks rows field refused = ⊥

-- one of the fields is refused for this
abbrev pub LackSome : List Row → List Field → WordsRefused → Type 0
LackSome rows [] refused = ⊥
LackSome rows (field ∷ fields) refused = Lacks rows field refused ⊎ LackSome rows fields refused

-- why a command of this name, with these texts of its arguments, is no task
abbrev pub IsCause : Text → List Row → WordsRefused → Type 0
IsCause name rows why.Usage = (task : Task) → IsShapedAs name rows task → ⊥
IsCause name rows why.Memory = Unit {0}
IsCause name rows refused = (task : Task) × IsShapedAs name rows task × LackSome rows (fields_named name) refused

-- Why words are no task: they are no command, or one of its fields isn't there or has a number that is out of range, or what stands for landmark
-- words or ops isn't that, or there are too many ops, or memory ran out.
abbrev pub IsRefusedFor : List Text → WordsRefused → Type 0
IsRefusedFor words why.Usage = (name : Text) → (rows : List Row) → IsCommand words name rows → IsCause name rows why.Usage
IsRefusedFor words why.Memory = Unit {0}
IsRefusedFor words refused = (name : Text) × (rows : List Row) × IsCommand words name rows × IsCause name rows refused
