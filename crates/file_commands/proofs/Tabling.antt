-- Tables that are put: what was answered and why it ended, of a scheme and of a device.
use Rattle.std.proofs.Common.{◌≡◌, ◌⊎◌, inl, inr, sym, subst, ⊎_elim, ℕ, List, [], Result, Ok, Err, IfErr, IfOk, IsErrOf}
use Rattle.std.proofs.lemmas.Result.{IfErr-at_err, IfErr-weaker}
use Rattle.std.specs.Prelude.{IsOkAnd}
use Rattle.disk_trait.specs.Disk.{DiskView}
use Rattle.schemes.specs.declared.parts.Parts.{Parts}
use Rattle.value_syntax.specs.declared.words.LandmarkWords.{LandmarkWords}
use Rattle.command_output.specs.Printing.{Known}
use Rattle.command_output.specs.declared.ended.Ended.{Ended}
use Rattle.command_output.specs.declared.fault.Fault.{Fault}
use Rattle.file_commands.specs.Endings.{IsCheckDeviceFault, IsCheckEnd, IsTablesEnd}
use Rattle.file_commands.specs.Printed.{PrintsTables}
use Rattle.file_commands.specs.Queries.{AnswersOf, IsSchemeIn}
use Rattle.file_commands.specs.Runs.{EndsPutFound}
use Rattle.file_commands.specs.Uses.{Stream}
use Rattle.file_commands.proofs.OnDevices.{asking_end}
use Rattle.table_files.specs.Files.{Put}
use Rattle.table_files.specs.Tables.{AnswersTables, EndsPutAsked, EndsPutting}

-- ---- a scheme by the words that were asked for

-- tables of a scheme that was found are put so
pub found_put : {W : Type 0} (answer : Result (ℕ × Parts) Fault) (found : ℕ × Parts) (folder named : List ℕ) (put : List Put → Type 0) (out : Stream W) (r : Result Ended Fault) → answer ≡ Ok found
    → EndsPutAsked found.1 folder named put out.known out.old out.new r → EndsPutFound answer folder named put out r
found_put answer found folder named put out r is ends =
    subst (λ (a : Result (ℕ × Parts) Fault). EndsPutFound a folder named put out r) (sym is)
    (record { printed = ends.printed; fault = IfErr-weaker r _ _ (λ fault why. inr why) ends.fault; untouched = ends.untouched })

-- ---- on a device

-- what was printed
pub tables_printed : (r : Result Ended Fault) (answer : Result (ℕ × Parts) Fault) (asked : LandmarkWords) (folder named : List ℕ) (put : List Put → Type 0) (disk left : DiskView) (old new : Known)
    → AnswersOf asked IsSchemeIn IsCheckDeviceFault disk left answer → IfOk r (λ ended. IsOkAnd answer (λ found. AnswersTables found.1 found.1.generation folder named put ended old new))
    → IfOk r (λ ended. PrintsTables asked folder named put disk left ended old new)
tables_printed (Ok ended) (Ok found) asked folder named put disk left old new by printed = record {
  of_one =
      let one = by.of_one in
      (one.0, (found.1, one.2, subst (λ (n : ℕ). AnswersTables found.1 n folder named put ended old new) one.2.scheme.given printed));
  of_this = λ keeps state stands.
      let is = by.answer keeps state stands in
      (found.1, is, subst (λ (n : ℕ). AnswersTables found.1 n folder named put ended old new) is.scheme.given printed);
}
tables_printed (Ok ended) (Err fault) asked folder named put disk left old new by printed = absurd printed
tables_printed (Err fault) answer asked folder named put disk left old new by printed = tt

-- why it ends, where there is a scheme, and where there is none
pub tables_end : (r : Result Ended Fault) (answer : Result (ℕ × Parts) Fault) (asked : LandmarkWords) (folder named : List ℕ) (put : List Put → Type 0) (disk left : DiskView) → AnswersOf asked IsSchemeIn IsCheckDeviceFault disk left answer
    → IfErr r (λ fault. (IsErrOf answer fault × put []) ⊎ IsOkAnd answer (λ found. EndsPutting found.1 folder named put fault)) → IfErr r (λ fault. IsTablesEnd asked folder named put disk left fault)
tables_end (Ok ended) answer asked folder named put disk left by ends = tt
tables_end (Err fault) (Ok found) asked folder named put disk left by ends =
    ⊎_elim (λ is. absurd (let never : ◌≡◌ {A = Result (ℕ × Parts) Fault} (Ok found) (Err fault) = is.0 in cc))
    (λ is. let one = by.of_one in inr (record { of_one = (one.0, (found.1, one.2, is)); of_this = λ keeps state stands. (found.1, by.answer keeps state stands, is) })) ends
tables_end (Err fault) (Err other) asked folder named put disk left by ends =
    ⊎_elim (λ is. inl (is.1, IfErr-at_err (λ (f : Fault). IsCheckEnd asked disk left f) is.0 (asking_end asked IsSchemeIn IsCheckDeviceFault disk left (Err other) by))) (λ is. absurd is) ends
