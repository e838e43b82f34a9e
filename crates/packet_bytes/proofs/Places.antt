-- Ports in their places, and numbers of two bytes.
use Rattle.std.proofs.Common.{◌≡◌, ℕ, zero, suc, ◌+◌, ◌-◌, ◌*◌, ◌<◌, ◌≤◌, Bool, true, false, cond, not, eqb, inl, inr, List, [], ◌∷◌, ◌++◌, length, get_or, take, drop, replicate, ltb, Option, Some, None, refl, sym, ap, ◌∙◌, append_assoc, arith}
use Rattle.std.specs.Int.{w16, from_be_bytes, to_be_bytes}
use Rattle.std.specs.List.{flat_map}
use Rattle.std.proofs.lemmas.Bool.{cases_lt, eqb-true, le-leb, le-ltb, lt-ltb}
use Rattle.std.proofs.lemmas.List.{drop_at, drop_more, drop-replicate, length-drop, length-append, take_all, take-replicate}
use Rattle.std.proofs.lemmas.List.Concat.{flat_map-append}
use Rattle.std.proofs.lemmas.Option.{none-some}
use Rattle.byte_forms.specs.Forms.{FormOf, IsForm}
use Rattle.byte_forms.specs.FormLaws.{both_true, length_items, short_form, short_is_form, u16_form, u16_is_form}
use Rattle.byte_forms.specs.Reading.{◌>>=◌, items_at, number_at, short_at}
use Rattle.packet_bytes.specs.Layout.{most_ports, home_size}
use Rattle.packet_bytes.specs.declared.wire.WireRefused.TheVariants.{BadCount, BadPadding}
use Rattle.packet_bytes.specs.Refusals.{are_zeros, ports_refusal, home_refusal}
use Rattle.packet_bytes.specs.Spelling.{ports_text}

-- two bytes a port
pub length_ports : (ports : List ℕ) → length (flat_map (to_be_bytes w16) ports) ≡ 2 * length ports
length_ports ports = length_items (to_be_bytes w16) 2 (λ port. refl) ports

-- unused places are zeros
pub zero_places : (n : ℕ) → flat_map (to_be_bytes w16) (replicate n 0) ≡ replicate (2 * n) 0
zero_places zero = refl
zero_places (suc n) =
    let more : suc (suc (2 * n)) ≡ 2 * suc n = omega arith in
    ap (λ (l : List ℕ). 0 ∷ 0 ∷ l) (zero_places n) ∙ ap (λ k. replicate k 0) more

-- the ports, and zeros behind them
places_are : (ports : List ℕ) (n : ℕ) → flat_map (to_be_bytes w16) (ports ++ replicate n 0) ≡ flat_map (to_be_bytes w16) ports ++ replicate (2 * n) 0
places_are ports n = flat_map-append (to_be_bytes w16) ports (replicate n 0) ∙ ap (λ (l : List ℕ). flat_map (to_be_bytes w16) ports ++ l) (zero_places n)

-- the ports alone
abbrev pub ports_form : FormOf (List ℕ)
ports_form = short_form u16_form 0 most_ports

pub ports_is_form : IsForm ports_form
ports_is_form = short_is_form u16_is_form 0 most_ports

pub ports_are : (ports : List ℕ) → ports_text ports ≡ ports_form.text ports ++ replicate (2 * (most_ports - length ports)) 0
ports_are ports = ap (λ (l : List ℕ). length ports ∷ l) (places_are ports (most_ports - length ports))

-- what passes as zeros is zeros
zeros_are : (bytes : List ℕ) → are_zeros bytes ≡ true → bytes ≡ replicate (length bytes) 0
zeros_are [] e = refl
zeros_are (b ∷ bytes) e =
    let t = both_true (eqb b 0) (are_zeros bytes) e in
    ap (λ x. x ∷ bytes) (eqb-true _ _ t.0) ∙ ap (λ (l : List ℕ). 0 ∷ l) (zeros_are bytes t.1)

-- zeros pass
pub zeros_pass : (n : ℕ) → are_zeros (replicate n 0) ≡ true
zeros_pass zero = refl
zeros_pass (suc n) = zeros_pass n

abbrev port_before : ℕ → List ℕ × List ℕ → Option (List ℕ × List ℕ)
port_before port others = Some (port ∷ others.0, others.1)

no_others : (others : Option (List ℕ × List ℕ)) (port : ℕ) → (others >>= port_before port) ≡ None → others ≡ None
no_others None port e = refl
no_others (Some x) port e = absurd (none-some _ (sym e))

-- two bytes a port are enough
are_found : (n : ℕ) (bytes : List ℕ) → 2 * n ≤ length bytes → items_at (number_at w16) n bytes ≡ None → ⊥
unfolding items_at
are_found zero bytes long none = none-some _ (sym none)
are_found (suc n) bytes long none =
    let found : ltb (length bytes) 2 ≡ false = le-ltb _ _ (omega (arith, long)) in
    are_found n (drop 2 bytes) (omega (arith, long, length-drop 2 bytes)) (no_others (items_at (number_at w16) n (drop 2 bytes)) (from_be_bytes w16 (take 2 bytes)) (rw found at none))

-- ---- reading

-- the first byte, and those behind it
first_and_rest : (bytes : List ℕ) → 0 < length bytes → bytes ≡ get_or bytes 0 0 ∷ drop 1 bytes
first_and_rest bytes lt = drop_more bytes 0 0 lt

-- no ports are found where there are too many
pub bad_count : (bytes : List ℕ) → length bytes ≡ 1 + 2 * most_ports → short_at (number_at w16) 0 most_ports bytes ≡ None → ports_refusal bytes ≡ Some BadCount
unfolding short_at
bad_count [] len none = absurd (omega (arith, len))
bad_count (n ∷ bytes) len none =
    elim (cases_lt most_ports n) [
      | inl many ↦ rw (lt-ltb most_ports n many) refl
      | inr few ↦ absurd (are_found n bytes (omega (arith, len, few)) (rw (le-leb 0 n (omega arith), le-leb n most_ports few) at none))
    ]

-- where some are, what stands behind them tells whether they are refused
pub refusal_is : (bytes ports unused : List ℕ) (zeros : Bool) → bytes ≡ ports_form.text ports ++ unused → length ports ≤ most_ports → are_zeros unused ≡ zeros → ports_refusal bytes ≡ cond (not zeros) (Some BadPadding) None
refusal_is bytes ports unused zeros parts few is =
    let n = 1 + 2 * length ports in
    let text = ports_form.text ports ++ unused in
    let fits : ltb most_ports (length ports) ≡ false = le-ltb _ _ few in
    let padded : are_zeros (drop n text) ≡ zeros = ap are_zeros (drop_at (ports_form.text ports) unused n (omega (arith, length_ports ports))) ∙ is in
    ap ports_refusal parts ∙ ap (λ b. cond b (Some BadCount) (cond (not (are_zeros (drop n text))) (Some BadPadding) None)) fits ∙ ap (λ b. cond (not b) (Some BadPadding) None) padded

-- zeros behind them are their places
pub all_places : (bytes ports unused : List ℕ) → length bytes ≡ 1 + 2 * most_ports → bytes ≡ ports_form.text ports ++ unused → length ports ≤ most_ports → are_zeros unused ≡ true → bytes ≡ ports_text ports
all_places bytes ports unused len parts few zeros =
    let rest : length unused ≡ 2 * (most_ports - length ports) = omega (arith, len, ap length parts, length-append (flat_map (to_be_bytes w16) ports) unused, length_ports ports, few) in
    parts ∙ ap (λ (l : List ℕ). ports_form.text ports ++ l) (zeros_are unused zeros ∙ ap (λ k. replicate k 0) rest) ∙ sym (ports_are ports)

-- nothing but zeros
pub homeless : (bytes rest : List ℕ) → length bytes ≡ home_size → get_or bytes 0 0 ≡ 0 → rest ≡ drop 1 bytes → are_zeros rest ≡ true
    → (home_refusal bytes ≡ None) × (bytes ≡ replicate home_size 0)
homeless bytes rest len flag behind zeros =
    let pass : are_zeros (drop 1 bytes) ≡ true = ap are_zeros (sym behind) ∙ zeros in
    let size : length (drop 1 bytes) ≡ home_size - 1 = length-drop 1 bytes ∙ omega (arith, len) in (
      rw (flag, pass) refl,
      first_and_rest bytes (omega (arith, len)) ∙ ap (λ k. k ∷ drop 1 bytes) flag ∙ ap (λ (l : List ℕ). 0 ∷ l) (zeros_are (drop 1 bytes) pass ∙ ap (λ k. replicate k 0) size),
    )

-- ---- writing

-- as many zeros as there are places that ports leave
zeros_left : (n : ℕ) → n ≤ most_ports → ◌≡◌ {A = List ℕ} (take (2 * most_ports - 2 * n) (drop (2 * n) (replicate (2 * most_ports) 0))) (replicate (2 * (most_ports - n)) 0)
zeros_left n few =
    let left : ℕ = 2 * most_ports - 2 * n in
    let same : left ≡ 2 * (most_ports - n) = omega (arith, few) in
    let dropped : ◌≡◌ {A = List ℕ} (drop (2 * n) (replicate (2 * most_ports) 0)) (replicate left 0) = drop-replicate (2 * n) (2 * most_ports) 0 in
    let taken : ◌≡◌ {A = List ℕ} (take left (replicate left 0)) (replicate left 0) = take-replicate left left 0 (omega arith) in
    ap (λ (l : List ℕ). take left l) dropped ∙ taken ∙ ap (λ k. replicate k 0) same

-- the ports that were written behind other bytes, and the zeros behind them
pub ports_put : (old ports before all : List ℕ) (n : ℕ) → length ports ≤ n → length ports ≤ most_ports → before ≡ (old ++ length ports ∷ []) ++ flat_map (to_be_bytes w16) (take n ports)
    → all ≡ before ++ take (2 * most_ports - 2 * length ports) (drop (2 * length ports) (replicate (2 * most_ports) 0)) → all ≡ old ++ ports_text ports
ports_put old ports before all n past few is more =
    let written : before ≡ (old ++ length ports ∷ []) ++ flat_map (to_be_bytes w16) ports = is ∙ ap (λ (l : List ℕ). (old ++ length ports ∷ []) ++ flat_map (to_be_bytes w16) l) (take_all n ports past) in
    let zeros : List ℕ = replicate (2 * (most_ports - length ports)) 0 in
    more ∙ ap (λ (l : List ℕ). before ++ l) (zeros_left (length ports) few) ∙ ap (λ (l : List ℕ). l ++ zeros) written
    ∙ append_assoc (old ++ length ports ∷ []) (flat_map (to_be_bytes w16) ports) zeros ∙ append_assoc old (length ports ∷ []) (flat_map (to_be_bytes w16) ports ++ zeros) ∙ ap (λ (l : List ℕ). old ++ l) (sym (ports_are ports))
