-- Last tickets as bytes.
use Rattle.std.proofs.Common.{◌≡◌, ℕ, ◌*◌, ◌^◌, ◌<◌, ◌≤◌, List, [], ◌∷◌, length, refl, arith}
use Rattle.std.specs.List.{AllByRecursion}
use Rattle.std.specs.Int.{w64, to_be_bytes}
use Rattle.byte_forms.specs.FormLaws.{items_is_form, length_items, one_value, u64_is_form}
use Rattle.layout_2.specs.Layout.{worn_limit, sessions, tickets_len}
use Rattle.layout_2.specs.Tickets.{tickets_text}

pub length_tickets : (tickets : List ℕ) → length (tickets_text tickets) ≡ 8 * length tickets
length_tickets tickets = length_items (to_be_bytes w64) 8 (λ t. refl) tickets

pub tickets_wide : (tickets : List ℕ) → length tickets ≡ sessions → length (tickets_text tickets) ≡ tickets_len
tickets_wide tickets wide = omega (arith, length_tickets tickets, wide)

abbrev pub AreWords : List ℕ → Type 0
AreWords tickets = AllByRecursion (λ t. t < 2 ^ 64) tickets

pub words : (tickets : List ℕ) → AllByRecursion (λ t. t ≤ worn_limit) tickets → AreWords tickets
words [] fit = tt
words (t ∷ ts) fit = (omega (arith, fit.0), words ts fit.1)

-- as many words of the same text are the same
pub same_tickets : (ts us : List ℕ) → length ts ≡ length us → AreWords ts → AreWords us → tickets_text ts ≡ tickets_text us → ts ≡ us
same_tickets ts us len fit_t fit_u same = one_value (items_is_form u64_is_form (length us)) ts us (len, fit_t) (refl, fit_u) same
