-- Accepted requests as entries, each with its session and ticket: the journal of layout 2.
use Rattle.std.proofs.Common.{◌≡◌, ℕ, ◌+◌, List, length, Option, Some, refl, arith, length-append}
use Rattle.std.specs.Int.{w64, to_be_bytes}
use Rattle.requests.specs.declared.request.Request.{Request}
use Rattle.graph_edits.specs.declared.edits.Op.{Op}
use Rattle.byte_forms.specs.Forms.{FormOf, IsForm as IsByteForm}
use Rattle.byte_forms.specs.FormLaws.{byte_form, byte_is_form, same_is_form, then_form, then_is_form, u64_form, u64_is_form}
use Rattle.byte_forms.specs.Reading.{made_at}
use Rattle.journal.specs.Forms.{EntryForm, IsForm, entries_as}
use Rattle.journal.specs.Layout.{least_request, most_request}
use Rattle.journal.specs.ChangeForm.{length_ops, ops_form, ops_is_form}

-- a request's session, one byte, its ticket, eight, and its change
abbrev pub parts_form : FormOf (ℕ × (ℕ × List Op))
parts_form = then_form byte_form (then_form u64_form ops_form)

abbrev pub parts_of : Request → ℕ × (ℕ × List Op)
parts_of request = (request.session, (request.ticket, request.change))

abbrev pub request_of : ℕ × (ℕ × List Op) → Request
request_of x = record { session = x.0; ticket = x.1.0; change = x.1.1 }

-- a request, and the bytes after it
unfoldable pub request_at : List ℕ → Option (Request × List ℕ)
request_at bytes = made_at parts_form.at (λ x. Some (request_of x)) bytes

-- a request: its parts
abbrev pub request_bytes : FormOf Request
request_bytes = record { text = λ request. parts_form.text (parts_of request); Fits = λ request. parts_form.Fits (parts_of request); at = request_at }

abbrev pub request_form : EntryForm Request
request_form = entries_as request_bytes least_request most_request

request_bytes_are_form : IsByteForm request_bytes
unfolding request_at
request_bytes_are_form = same_is_form (then_is_form byte_is_form (then_is_form u64_is_form ops_is_form)) request_of parts_of (λ x. refl) (λ request. refl)

pub length_request : (request : Request) → length (request_form.text request) ≡ 9 + length (ops_form.text request.change)
length_request request = omega (arith, length-append (to_be_bytes w64 request.ticket) (ops_form.text request.change))

-- a request has one text, and a text that is read is one request's
pub request_is_form : IsForm request_form
request_is_form = record {
  reader = request_bytes_are_form;
  sizes = λ request fits. (omega (arith, length_request request, length_ops request.change, fits.1.1.0), omega (arith, length_request request, length_ops request.change, fits.1.1.1));
  small = omega arith;
}
