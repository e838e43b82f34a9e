-- The fields of a command, and the task that they ask for.
use Rattle.std.proofs.Common.{◌≡◌, ◌≢◌, ◌≤◌, ◌<◌, ◌∙◌, inl, inr, arith, refl, sym, ap, List, [], ◌∷◌, map, length, bytes_eq, codes, Bool, true, false, subst, Option, Some, Result, Ok, Err, IsErrAnd}
use Rattle.std.proofs.lemmas.List.{length-map}
use Rattle.std.proofs.lemmas.List.Elements.{All-nil}
use Rattle.clap.specs.Walk.{Row, Text, all_of}
use Rattle.graph_edits.specs.declared.edits.Op.{Op}
use Rattle.graph_edits.specs.Edges.{most_ops}
use Rattle.value_syntax.specs.OpText.{Fits, op_text}
use Rattle.value_syntax.specs.WordsText.{words_text}
use Rattle.command_line.specs.declared.refused.WordsRefused.{WordsRefused}
use Rattle.command_line.specs.declared.refused.WordsRefused.TheVariants as why
use Rattle.command_line.specs.declared.task.Task.{Task}
use Rattle.command_line.specs.declared.task.Task.TheVariants.{Format, Show, Edit, Resume, Route, Check, Migrate, Copy, Serve, Tables}
use Rattle.command_line.specs.Asked.{AreOpsGiven, Asks, EachOf, IsCause, IsSameTask, IsShaped, IsTask, LackSome, Lacks, ValueOf, ValuesOf, name_of, values_of}
use Rattle.command_line.specs.Fields.{Field, Landmarks, Ops, fields_named}
use Rattle.command_line.specs.Readings.{IsFieldCause, IsOpRefusal, IsRead, IsSameValue, IsUnderstood}

-- ---- one task

abbrev pub IsSo : Bool → Type 0
IsSo true = Unit {0}
IsSo false = ⊥

-- each value is the only one that is asked for
abbrev pub Sole : List Row → (fields : List Field) → ValuesOf fields → Type 0
Sole rows [] values = Unit {0}
Sole rows (field ∷ fields) values = ((v : ValueOf field) → Asks rows field v → IsSameValue field values.0 v) × Sole rows fields values.1

-- then another task of this name that is asked for is the same
one_task : (rows : List Row) (read task : Task) → IsSo (bytes_eq (name_of read) (name_of task)) → Sole rows (fields_named (name_of read)) (values_of read)
    → EachOf (Asks rows) (fields_named (name_of task)) (values_of task) → IsSameTask read task
one_task rows (Format device nodes is_new) (Format other count fresh) so sole is = (sole.0 other.now is.0, sole.1.0 count is.1.0, sole.1.1.0 fresh is.1.1.0)
one_task rows (Show device) (Show other) so sole is = sole.0 other.now is.0
one_task rows (Edit device session ticket change) (Edit other s asked ops) so sole is = (sole.0 other.now is.0, sole.1.1.0 s is.1.1.0, sole.1.1.1.0 asked is.1.1.1.0, sole.1.0 ops is.1.0)
one_task rows (Resume device session) (Resume other asked) so sole is = (sole.0 other.now is.0, sole.1.0 asked is.1.0)
one_task rows (Route device pairs words) (Route other others asked) so sole is = (sole.0 other.now is.0, sole.1.0 others.items is.1.0, sole.1.1.0 asked is.1.1.0)
one_task rows (Check device words) (Check other asked) so sole is = (sole.0 other.now is.0, sole.1.0 asked is.1.0)
one_task rows (Migrate old new) (Migrate other made) so sole is = (sole.0 other.now is.0, sole.1.0 made.now is.1.0)
one_task rows (Copy old new) (Copy other made) so sole is = (sole.0 other.now is.0, sole.1.0 made.now is.1.0)
one_task rows (Serve device editors forwarders places live words) (Serve other e f q l asked) so sole is =
    (sole.0 other.now is.0, sole.1.1.0 e is.1.1.0, sole.1.1.1.0 f is.1.1.1.0, sole.1.1.1.1.0 q is.1.1.1.1.0, sole.1.1.1.1.1.0 l is.1.1.1.1.1.0, sole.1.0 asked is.1.0)
one_task rows (Tables device folder nodes words) (Tables other place named asked) so sole is =
    (sole.0 other.now is.0, sole.1.0 place.now is.1.0, sole.1.1.1.0 named.items is.1.1.1.0, sole.1.1.0 asked is.1.1.0)
one_task rows _ _ so sole is = absurd so

-- ---- where a task is asked for, memory alone is a cause

-- a change has texts
some_texts : (change : List Op) → 1 ≤ length change → map op_text change ≢ []
some_texts [] some = absurd (omega arith)
some_texts (op ∷ change) some = λ same. absurd (cc)

shaped : (rows : List Row) (field : Field) (value : ValueOf field) → Asks rows field value → IsShaped rows field value
shaped rows Landmarks words asked = (words_text words, asked.0)
shaped rows Ops ops asked = (map op_text ops, some_texts ops asked.1.0, asked.0)
shaped rows _ value asked = asked

each_shaped : (rows : List Row) (fields : List Field) (values : ValuesOf fields) → EachOf (Asks rows) fields values → EachOf (IsShaped rows) fields values
each_shaped rows [] values asked = tt
each_shaped rows (field ∷ fields) values asked = (shaped rows field values.0 asked.0, each_shaped rows fields values.1 asked.1)

-- one list of texts is of one count of ops
one_count : (given : Option (List Text)) (a b : List Op) → given ≡ Some (map op_text a) → given ≡ Some (map op_text b) → length a ≡ length b
one_count given a b first second =
    let same : map op_text a ≡ map op_text b = cc in
    sym (length-map a op_text) ∙ ap length same ∙ length-map b op_text

not_lacking : (rows : List Row) (field : Field) (value : ValueOf field) (refused : WordsRefused) → Asks rows field value → Lacks rows field refused → ⊥
not_lacking rows Landmarks words why.Words asked lacks = lacks words asked
not_lacking rows Ops ops why.Op asked lacks = lacks ops asked.1.2 asked.0
not_lacking rows Ops ops why.TooLong asked lacks =
    let same : length lacks.0 ≡ length ops = one_count _ lacks.0 ops lacks.2 asked.0 in
    let many : most_ops < length lacks.0 = lacks.1 in
    let few : length ops ≤ most_ops = asked.1.1 in
    omega arith
not_lacking rows _ value _ asked lacks = absurd lacks

none_lacks : (rows : List Row) (fields : List Field) (values : ValuesOf fields) (refused : WordsRefused) → EachOf (Asks rows) fields values → LackSome rows fields refused → ⊥
none_lacks rows [] values refused asked lacks = absurd lacks
none_lacks rows (field ∷ fields) values refused asked (inl lacks) = not_lacking rows field values.0 refused asked.0 lacks
none_lacks rows (field ∷ fields) values refused asked (inr lacks) = none_lacks rows fields values.1 refused asked.1 lacks

pub memory_alone : (name : Text) (rows : List Row) (refused : WordsRefused) (task : Task) → IsTask name rows task → IsCause name rows refused → refused ≡ why.Memory
memory_alone name rows why.Usage task is cause = absurd (cause task (is.0, each_shaped rows (fields_named (name_of task)) (values_of task) is.1))
memory_alone name rows why.Memory task is cause = refl
memory_alone name rows refused task is cause =
    absurd (none_lacks rows (fields_named (name_of task)) (values_of task) refused is.1 (subst (λ (n : Text). LackSome rows (fields_named n) refused) is.0 cause.2))

-- ---- whole answers

-- the task that is asked for is the answer
pub answered : (name : Text) (rows : List Row) (read : Task) → name ≡ name_of read → IsSo (bytes_eq (name_of read) (name_of read)) → EachOf (Asks rows) (fields_named (name_of read)) (values_of read)
    → Sole rows (fields_named (name_of read)) (values_of read) → (let r : Result Task WordsRefused = Ok read in IsUnderstood name rows r)
answered name rows read named so asked sole = record {
  asked = (named, asked);
  only = λ task is. one_task rows read task (subst (λ (n : Text). IsSo (bytes_eq (name_of read) n)) (sym named ∙ is.0) so) sole is.1;
  refused = λ task is. tt;
  cause = tt;
}

-- what has a cause is refused
pub refused_by : (name : Text) (rows : List Row) (refused : WordsRefused) → IsCause name rows refused → (let r : Result Task WordsRefused = Err refused in IsUnderstood name rows r)
refused_by name rows refused cause = record {
  asked = tt;
  only = λ task is. tt;
  refused = λ task is. memory_alone name rows refused task is cause;
  cause = cause;
}

handed_on : (name : Text) (rows : List Row) (r : Result Task WordsRefused) (refused : WordsRefused) → IsErrAnd r (λ e. e ≡ refused) → IsCause name rows refused → IsUnderstood name rows r
handed_on name rows (Ok read) refused is cause = absurd is
handed_on name rows (Err e) refused is cause = refused_by name rows e (subst (λ (w : WordsRefused). IsCause name rows w) (sym is) cause)

-- A field of a command is refused for its texts, behind others that have the values of this task. Each task of the command has a text for it.
of_field : (name : Text) (rows : List Row) (IsGiven : Type 0) (Lacking : WordsRefused → Type 0) (refused : WordsRefused) (task : Task) → name ≡ name_of task → IsFieldCause IsGiven Lacking refused
    → ((values : ValuesOf (fields_named (name_of task))) → EachOf (IsShaped rows) (fields_named (name_of task)) values → IsGiven)
    → (IsGiven → EachOf (IsShaped rows) (fields_named (name_of task)) (values_of task)) → (Lacking refused → LackSome rows (fields_named (name_of task)) refused) → IsCause name rows refused
of_field name rows IsGiven Lacking why.Usage task named cause there whole lacks = λ other is.
    let each = subst (λ (n : Text). (values : ValuesOf (fields_named n)) × EachOf (IsShaped rows) (fields_named n) values) (sym is.0 ∙ named) (values_of other, is.1) in
    cause (there each.0 each.1)
of_field name rows IsGiven Lacking why.Memory task named cause there whole lacks = tt
of_field name rows IsGiven Lacking refused task named cause there whole lacks =
    (task, (named, whole cause.0), subst (λ (n : Text). LackSome rows (fields_named n) refused) (sym named) (lacks cause.1))

pub field_refused : (name : Text) (rows : List Row) (IsGiven : Type 0) (Lacking : WordsRefused → Type 0) (r : Result Task WordsRefused) (refused : WordsRefused) (task : Task) → name ≡ name_of task → IsErrAnd r (λ e. e ≡ refused)
    → IsFieldCause IsGiven Lacking refused → ((values : ValuesOf (fields_named (name_of task))) → EachOf (IsShaped rows) (fields_named (name_of task)) values → IsGiven)
    → (IsGiven → EachOf (IsShaped rows) (fields_named (name_of task)) (values_of task)) → (Lacking refused → LackSome rows (fields_named (name_of task)) refused) → IsUnderstood name rows r
field_refused name rows IsGiven Lacking r refused task named is cause there whole lacks = handed_on name rows r refused is (of_field name rows IsGiven Lacking refused task named cause there whole lacks)

-- ops are refused as one of their texts is
pub ops_refused : {T : Type 0} (value : T → List Op) (rows : List Row) (r : Result T WordsRefused) (given : List Text) (refused : WordsRefused) → IsErrAnd r (λ e. e ≡ refused) → all_of (codes "ops") rows ≡ Some given
    → IsOpRefusal given refused → IsRead rows Ops (AreOpsGiven rows) value r
ops_refused value rows (Ok read) given refused is there why_not = absurd is
ops_refused value rows (Err e) given refused is there (inl memory) = record {
  found = tt;
  same = λ ops asked. tt;
  cause = subst (λ (w : WordsRefused). IsFieldCause (AreOpsGiven rows) (Lacks rows Ops) w) (sym (is ∙ memory)) tt;
}
ops_refused value rows (Err e) given refused is there (inr op) = record {
  found = tt;
  same = λ ops asked. tt;
  cause =
      let some : given ≢ [] = λ none. op.1 [] (All-nil Fits) (sym none) in
      subst (λ (w : WordsRefused). IsFieldCause (AreOpsGiven rows) (Lacks rows Ops) w) (sym (is ∙ op.0)) (
        (given, some, there),
        λ ops fit are.
            let same : map op_text ops ≡ given = cc in
            op.1 ops fit same,
      );
}
