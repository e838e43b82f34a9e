use Rattle.std.proofs.Common.{rules, ◌≡◌, take, ap, sym, subst, ◌∙◌, arith}
use Rattle.std.specs.Int.{w32}
use Rattle.byte_forms.specs.declared.read_error.ReadError.{ReadError}
use Rattle.byte_forms.specs.declared.read_error.ReadError.TheVariants.{Malformed}
use Rattle.byte_forms.specs.Reading.{Fails, number_at}
use Rattle.journal.specs.Spelling.{group_of}
use Rattle.journal.proofs.Scans.{no_payload, next_is, begins_open, rest_of}
use Rattle.journal.proofs.record.next_record.Goals as goal

pub returns-in-Err-clause-malformed : goal.returns-in-Err-clause-malformed
returns-in-Err-clause-malformed g c = λ e.
    let form = g.E.Entry.form in
    let same : c.in-Err.refused ≡ Malformed = cc in
    let none = subst (λ (r : ReadError). Fails r (group_of form (take c.in-Some.len c.in-Some.behind.now))) same c.in-Err.ensures in
    no_payload form g.met.E.Entry.is_form c.args.bytes.now c.in-Some.behind.now c.in-Some.len (ap (number_at w32) (sym (rest_of form g.met.E.Entry.is_form c.args.bytes.now)) ∙ c.in-Some.ensures) none

pub returns-in-Ok-clause-next : goal.returns-in-Ok-clause-next
returns-in-Ok-clause-next g c =
    next_is g.E.Entry.form g.met.E.Entry.is_form c.args.bytes.now c.in-Some.behind.now c.in-Some.len (ap (number_at w32) (sym (rest_of g.E.Entry.form g.met.E.Entry.is_form c.args.bytes.now)) ∙ c.in-Some.ensures) c.in-Ok.group.items (λ i. omega (arith, c.type_inv.bytes i)) (begins_open g.E.Entry.form g.met.E.Entry.is_form c.args.bytes.now c.requires (search rules)) (search rules) c.in-Ok.ensures
