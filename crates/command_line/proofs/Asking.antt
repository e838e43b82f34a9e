-- What the program's words ask for, over what the grammar makes of them.
use Rattle.std.proofs.Common.{◌≡◌, ◌∙◌, ◌⊎◌, Result, Ok, Err, refl, sym, ap₂, List, [], ◌∷◌, Option, Some, None, option_map, true, inl, inr, subst, is_some}
use Rattle.std.specs.Prelude.{Box}
use Rattle.std.specs.Box.{box_value}
use Rattle.clap.specs.declared.parser.matches.ArgMatches.TheViews.{out-ArgMatches, out-SubCommand}
use Rattle.clap.specs.declared.parser.matches.SubCommand.{SubCommand}
use Rattle.clap.specs.Faults.{fault_of, is_simple_and_free}
use Rattle.clap.specs.Kinds.{HasKind, Kinds}
use Rattle.clap.specs.Values.{kind_of}
use Rattle.clap.specs.declared.error.Error.{Error}
use Rattle.clap.specs.declared.error.kind.ErrorKind.TheVariants.{OutOfMemory}
use Rattle.clap.specs.Simple.{App, HasMatchesOf, is_simple, subcommand_of, subcommand_rows, subcommand_rows_of}
use Rattle.clap.specs.Walk.{Row, Text}
use Rattle.clap.specs.Words.{subcommand_name_of}
use Rattle.clap.specs.declared.parser.matches.ArgMatches.{ArgMatches}
use Rattle.command_line.specs.Grammar.{program}
use Rattle.command_line.specs.Asked.{IsAskedFor, IsCause, IsCommand, IsRefusedFor, IsShapedAs, IsTask}
use Rattle.command_line.specs.Readings.{IsUnderstood, Understands}
use Rattle.command_line.specs.declared.refused.WordsRefused.{WordsRefused}
use Rattle.command_line.specs.declared.refused.WordsRefused.TheVariants as why
use Rattle.command_line.specs.declared.task.Task.{Task}
use Rattle.command_line.proofs.Commands.{memory_alone}

-- the grammar is one whose matches and faults are known
program_is_simple : is_simple program ≡ true
unfolding program
program_is_simple = refl

program_is_free : is_simple_and_free program ≡ true
unfolding program
program_is_free = refl

-- what clap says of words that it takes, and of those that it refuses
pub taken : (app : App) (words : List Text) (m : ArgMatches) → app ≡ program → (is_simple_and_free app ≡ true → fault_of app words ≡ []) → HasMatchesOf app words m
    → (fault_of program words ≡ []) × (subcommand_rows_of m ≡ subcommand_of program words)
taken app words m is =
    subst (λ (a : App). (is_simple_and_free a ≡ true → fault_of a words ≡ []) → HasMatchesOf a words m → (fault_of program words ≡ []) × (subcommand_rows_of m ≡ subcommand_of program words)) (sym is)
    (λ kinds matches. (kinds program_is_free, (matches program_is_simple).1))

only_memory : (kinds : Kinds) (e : Error) → kinds ≡ [] → HasKind kinds e → kind_of e ≡ OutOfMemory
only_memory [] e none (inl memory) = memory
only_memory [] e none (inr other) = absurd other
only_memory (k ∷ kinds) e none has = absurd (cc)

pub not_taken : (app : App) (words : List Text) (e : Error) → app ≡ program → (is_simple_and_free app ≡ true → HasKind (fault_of app words) e) → fault_of program words ≡ [] → kind_of e ≡ OutOfMemory
not_taken app words e is =
    subst (λ (a : App). (is_simple_and_free a ≡ true → HasKind (fault_of a words) e) → fault_of program words ≡ [] → kind_of e ≡ OutOfMemory) (sym is)
    (λ kinds faultless. only_memory (fault_of program words) e faultless (kinds program_is_free))

-- a name and rows are those of a pair
pair_up : (o : Option (Text × List Row)) (name : Text) (rows : List Row) → Some name ≡ option_map (λ p. p.0) o → Some rows ≡ option_map (λ p. p.1) o → o ≡ Some (name, rows)
pair_up (Some p) name rows first second =
    let here : name ≡ p.0 = cc in
    let there : rows ≡ p.1 = cc in
    ap₂ (λ (n : Text) (r : List Row). Some (n, r)) (sym here) (sym there)
pair_up None name rows first second = absurd (cc)

-- the name of a subcommand is that of its pair
name_in : {Z : Type 0} (sub : Option (Box SubCommand Z)) → option_map (λ b. (out-SubCommand (box_value b)).name.now) sub ≡ option_map (λ p. p.0) (subcommand_rows sub)
name_in (Some b) = refl
name_in None = refl

-- a name and rows that were found are those of the subcommand
pub found_is : (m : ArgMatches) (name : Text) (rows : List Row) → Some name ≡ subcommand_name_of m → Some rows ≡ option_map (λ p. p.1) (subcommand_rows_of m) → subcommand_rows_of m ≡ Some (name, rows)
found_is m name rows first second = pair_up (subcommand_rows_of m) name rows (first ∙ name_in (out-ArgMatches m).subcommand) second

-- a subcommand with rows is there
has_rows : {Z : Type 0} (sub : Option (Box SubCommand Z)) (p : Text × List Row) → subcommand_rows sub ≡ Some p → is_some sub ≡ true
has_rows (Some b) p is = refl
has_rows None p is = absurd (cc)

pub not_there : {T : Type 0} (m : ArgMatches) (o : Option T) (p : Text × List Row) → o ≡ None → is_some o ≡ is_some (out-ArgMatches m).subcommand → subcommand_rows_of m ≡ Some p → ⊥
not_there m o p none variant is =
    let there : is_some (out-ArgMatches m).subcommand ≡ true = has_rows (out-ArgMatches m).subcommand p is in
    absurd (cc)

-- words name one command
one_command : (P : Text × List Row → Type 0) (o : Option (Text × List Row)) (p q : Text × List Row) → o ≡ Some p → o ≡ Some q → P q → P p
one_command P o p q here there is =
    let same : q ≡ p = cc in
    subst P same is

-- words that ask for a task are refused for want of memory alone
asked_alone : (words : List Text) (refused : WordsRefused) (task : Task) → IsAskedFor words task → IsRefusedFor words refused → refused ≡ why.Memory
asked_alone words why.Usage task is refused = memory_alone is.0 is.1 why.Usage task is.3 (refused is.0 is.1 is.2)
asked_alone words why.Memory task is refused = refl
asked_alone words w task is refused =
    memory_alone is.0 is.1 w task is.3 (one_command (λ p. IsCause p.0 p.1 w) (subcommand_of program words) (is.0, is.1) (refused.0, refused.1) is.2.1 refused.2.1 refused.3)

-- what has a cause is refused
pub refuses : (words : List Text) (refused : WordsRefused) → IsRefusedFor words refused → (let r : Result Task WordsRefused = Err refused in Understands (IsAskedFor words) (IsRefusedFor words) r)
refuses words refused cause = record {
  asked = tt;
  only = λ task is. tt;
  refused = λ task is. asked_alone words refused task is cause;
  cause = cause;
}

-- words that the grammar refuses are no command, or memory ran out
pub by_grammar : (words : List Text) (refused : WordsRefused) → (refused ≡ why.Usage) ⊎ (refused ≡ why.Memory) → (fault_of program words ≡ [] → refused ≡ why.Memory) → IsRefusedFor words refused
by_grammar words refused (inl usage) read =
    subst (λ (r : WordsRefused). IsRefusedFor words r) (sym usage)
    (λ name rows is task shape.
    let same : why.Usage ≡ why.Memory = sym usage ∙ read is.0 in
    absurd (cc))
by_grammar words refused (inr memory) read = subst (λ (r : WordsRefused). IsRefusedFor words r) (sym memory) tt

-- a command's cause is that of the words that name it
words_cause : (words : List Text) (name : Text) (rows : List Row) (refused : WordsRefused) → IsCommand words name rows → IsCause name rows refused → IsRefusedFor words refused
words_cause words name rows why.Usage is cause = λ other others there task shape. cause task (one_command (λ p. IsShapedAs p.0 p.1 task) (subcommand_of program words) (name, rows) (other, others) is.1 there.1 shape)
words_cause words name rows why.Memory is cause = tt
words_cause words name rows refused is cause = (name, rows, is, cause)

-- words are understood as the command that they name is
pub understands : (words : List Text) (name : Text) (rows : List Row) (r : Result Task WordsRefused) → IsCommand words name rows → IsUnderstood name rows r → Understands (IsAskedFor words) (IsRefusedFor words) r
understands words name rows (Ok read) is u = record {
  asked = (name, rows, is, u.asked);
  only = λ task asked. u.only task (one_command (λ p. IsTask p.0 p.1 task) (subcommand_of program words) (name, rows) (asked.0, asked.1) is.1 asked.2.1 asked.3);
  refused = λ task asked. tt;
  cause = tt;
}
understands words name rows (Err refused) is u = refuses words refused (words_cause words name rows refused is u.cause)
