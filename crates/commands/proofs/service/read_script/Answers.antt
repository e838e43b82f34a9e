use Rattle.std.proofs.Common.{arith, ◌≡◌, subst, List, ℕ, All, IsSomeAnd}
use Rattle.std.specs.Prelude.{IfSome}
use Rattle.value_syntax.specs.Scripts.{IsWritten, MayStand}
use Rattle.value_syntax.specs.declared.line.ScriptLine.{ScriptLine}
use Rattle.commands.proofs.ScriptTexts.{no_lines, no_text, read_bytes}
use Rattle.commands.proofs.service.read_script.Goals as goal

pub returns-in_default-from_utf8-clause-fault : goal.returns-in_default-from_utf8-clause-fault
returns-in_default-from_utf8-clause-fault g c =
    let given = g.S.Read.remaining c.args.from.now in
    let same : IfSome given (λ xs. c.deref.result.now ≡ xs) = read_bytes given c.deref.result.now c.read_to_end.new.buf.items c.new-bytes.result.items c.deref.ensures.value c.new-bytes.ensures.items c.in_default.ensures.bytes in
    no_text given c.deref.result.now c.args.editors (omega (arith, c.ranges.editors.fits)) same c.in_default-from_utf8.ensures.cases.0

pub returns-clause-fault : goal.returns-clause-fault
returns-clause-fault g c =
    let given = g.S.Read.remaining c.args.from.now in
    let same : IfSome given (λ xs. c.deref.result.now ≡ xs) = read_bytes given c.deref.result.now c.read_to_end.new.buf.items c.new-bytes.result.items c.deref.ensures.value c.new-bytes.ensures.items c.in_default.ensures.bytes in
    let none : (lines : List ScriptLine) → All (MayStand c.args.editors) lines → IsWritten c.in-Ok.text.now lines → ⊥ = λ lines stand written.
    subst (λ o. IsSomeAnd o (λ read. read.items ≡ lines)) c.in-None.is (c.in_ok-lines.ensures.only lines stand written) in
    no_lines given c.deref.result.now c.args.editors same (subst (λ (text : List ℕ). (lines : List ScriptLine) → All (MayStand c.args.editors) lines → IsWritten text lines → ⊥) c.in-Ok.ensures.cases.0 none)
