-- What one record tells, and how a scan goes on.
use Rattle.std.proofs.Common.{◌≡◌, ◌≢◌, ◌⊎◌, inl, inr, ℕ, ◌+◌, ◌-◌, ◌<◌, ◌≤◌, List, [], ◌∷◌, ◌++◌, length, get_or, take, drop, Some, None, refl, sym, ap, subst, ◌∙◌, append_assoc, arith, length-append, length-take, length-drop}
use Rattle.std.specs.List.{AllByRecursion}
use Rattle.std.specs.Int.{w32, to_be_bytes}
use Rattle.std.proofs.lemmas.List.{append-nil, take_at, drop_at, take-append-drop, take-take, drop-take, drop-drop}
use Rattle.std.proofs.Math.Seq.{take-append-add}
use Rattle.std.proofs.lemmas.List.Concat.{flat_map-cons}
use Rattle.std.proofs.lemmas.Bool.{cases_lt}
use Rattle.std.proofs.lemmas.Option.{none-some, same_Some}
use Rattle.byte_forms.specs.Forms.{IsBytes}
use Rattle.byte_forms.specs.FormLaws.{IsBytes-drop, IsBytes-take, u32_is_form}
use Rattle.byte_forms.specs.Reading.{number_at}
use Rattle.disk_trait.specs.Disk.{DiskView, OnlyRead, bytes_at}
use Rattle.disk_trait.specs.Places.{both, byte_of}
use Rattle.journal.specs.declared.window.Window.{Window}
use Rattle.journal.specs.Forms.{EntryForm, IsForm}
use Rattle.journal.specs.Layout.{open_gate, record_head, most_record}
use Rattle.journal.specs.Spelling.{payload_of, IsGroup, group_of}
use Rattle.journal.specs.Records.{Area, body, record_of, records, entries_of, Spells, SpellsNothing}
use Rattle.journal.specs.Windows.{Holds}
use Rattle.journal.specs.Scanning.{BeginsWith, IsNextRecord, HasNoRecord}
use Rattle.journal.proofs.AreaLemmas.{length_record, records-push, length_push, each-push}
use Rattle.journal.proofs.Groups.{group_again, group_takes}
use Rattle.journal.proofs.Lists.{small_payload, tail_at, gate_of_tail, begins}

-- ---- the disk

-- what stands in a window is what stands on the disk

pub part_is : (bytes content : List ℕ) (from len at n : ℕ) → take len bytes ≡ take len (drop from content) → from ≤ at → at + n ≤ from + len → take n (drop (at - from) bytes) ≡ bytes_at content at n
part_is bytes content from len at n holds low high =
    let k = at - from in
    let fits : k + n ≤ len = omega arith in
    let here : from + k ≡ at = omega arith in
    sym (drop-take k n bytes) ∙ ap (drop k) (sym (take-take (k + n) len bytes fits) ∙ ap (take (k + n)) holds ∙ take-take (k + n) len (drop from content) fits) ∙ drop-take k n (drop from content)
    ∙ ap (take n) (drop-drop k from content ∙ ap (λ j. drop j content) here)

pub holds_still : (window : Window) (a b c : DiskView) → OnlyRead a b → OnlyRead b c → Holds window c.content → Holds window a.content
holds_still window a b c first second holds = subst (λ (l : List ℕ). Holds window l) (second.content ∙ first.content) holds

module _ {E : Type 0} (form : EntryForm E) (is_form : IsForm form) where
  -- ---- one record

  module _ (bytes behind : List ℕ) (len : ℕ) (number : number_at w32 (drop 1 bytes) ≡ Some (len, behind)) where
    -- a record that stands there has this length
    record_is : (group : List E) (after : List ℕ) → IsGroup form group → bytes ≡ record_of form group ++ after → (len ≡ length (payload_of form group)) × (behind ≡ payload_of form group ++ after)
    record_is group after is e =
        let p = payload_of form group in
        let there : drop 1 bytes ≡ to_be_bytes w32 (length p) ++ (p ++ after) = ap (drop 1) e ∙ append_assoc (to_be_bytes w32 (length p)) p after in
        let pair = same_Some (len, behind) (length p, p ++ after) (sym number ∙ ap (number_at w32) there ∙ u32_is_form.again (length p) (p ++ after) (omega (arith, small_payload form is_form group is))) in
        (ap (λ (x : ℕ × List ℕ). x.0) pair, ap (λ (x : ℕ × List ℕ). x.1) pair)

    pub too_long : length behind ≤ len → HasNoRecord form bytes
    too_long long group after is some e =
        let r = record_is group after is e in
        omega (arith, long, some, r.0, ap length r.1, length-append (payload_of form group) after)

    pub no_payload : group_of form (take len behind) ≡ None → HasNoRecord form bytes
    no_payload none group after is some e =
        let r = record_is group after is e in
        let payload : take len behind ≡ payload_of form group = ap (take len) r.1 ∙ take_at (payload_of form group) after len (sym r.0) in
        none-some group (sym none ∙ ap (group_of form) payload ∙ group_again form is_form group is)

    pub next_is : (group : List E) → IsBytes bytes → bytes ≡ open_gate ∷ drop 1 bytes → len < length behind → group_of form (take len behind) ≡ Some group → IsNextRecord form bytes group (record_head + len)
    next_is group fits one shorter found =
        let t = u32_is_form.takes (drop 1 bytes) (len, behind) (IsBytes-drop 1 bytes fits) number in
        let p = payload_of form group in
        let is = group_takes form is_form (take len behind) group (IsBytes-take len behind t.0.rest_fits) found in
        let payload = is.1 in
        let size_p : length p ≡ len = omega (arith, ap length payload, length-take len behind, shorter) in
        let after = drop len behind in
        let behind_is : behind ≡ p ++ after = sym (take-append-drop len behind) ∙ ap (λ (l : List ℕ). l ++ after) payload in
        let rest_is : drop 1 bytes ≡ body p ++ after = t.0.parts ∙ ap (λ (l : List ℕ). to_be_bytes w32 len ++ l) behind_is ∙ ap (λ k. to_be_bytes w32 k ++ (p ++ after)) (sym size_p) ∙ sym (append_assoc (to_be_bytes w32 (length p)) p after) in
        let whole : bytes ≡ record_of form group ++ after = one ∙ ap (λ (l : List ℕ). open_gate ∷ l) rest_is in
        let size : length (record_of form group) ≡ record_head + len = omega (arith, length_record form group, size_p) in
        let size_bytes : length bytes ≡ record_head + length behind = ap length whole ∙ omega (arith, length-append (record_of form group) after, size, ap length behind_is, length-append p after, size_p) in
        record {
          is_group = is.0;
          bytes_are = whole ∙ ap (λ (l : List ℕ). record_of form group ++ l) (sym (ap (drop (record_head + len)) whole ∙ drop_at (record_of form group) after (record_head + len) size));
          size_is = sym size;
          shorter = omega (arith, size_bytes, shorter);
        }

  pub begins_open : (bytes : List ℕ) → 1 ≤ length bytes → get_or bytes 0 0 ≡ open_gate → bytes ≡ open_gate ∷ drop 1 bytes
  begins_open [] some gate = absurd (omega (arith, some))
  begins_open (b ∷ bytes) some gate = ap (λ k. k ∷ bytes) gate

  pub rest_of : (bytes : List ℕ) → take (length bytes - 1) (drop 1 bytes) ≡ drop 1 bytes
  rest_of bytes = sym (ap (take (length bytes - 1)) (append-nil (drop 1 bytes))) ∙ take_at (drop 1 bytes) [] (length bytes - 1) (omega (arith, length-drop 1 bytes))

  -- ---- the whole area

  pub entries-push : (groups : List (List E)) (group : List E) → entries_of (groups ++ group ∷ []) ≡ entries_of groups ++ group
  entries-push [] group = flat_map-cons (λ x. x) group [] ∙ append-nil group
  entries-push (g ∷ groups) group = flat_map-cons (λ x. x) g (groups ++ group ∷ []) ∙ ap (λ (l : List E). g ++ l) (entries-push groups group) ∙ sym (append_assoc g (entries_of groups) group) ∙ ap (λ (l : List E). l ++ group) (sym (flat_map-cons (λ x. x) g groups))

  records-append : (gs hs : List (List E)) → records form (gs ++ hs) ≡ records form gs ++ records form hs
  records-append [] hs = refl
  records-append (g ∷ gs) hs = ap (λ (l : List ℕ). record_of form g ++ l) (records-append gs hs) ∙ sym (append_assoc (record_of form g) (records form gs) (records form hs))

  -- n bytes hold a record and the next gate, or all that is left of the area
  abbrev pub IsFarEnough : Area → ℕ → ℕ → Type 0
  IsFarEnough area at n = (most_record + 1 ≤ n) ⊎ (area.room ≤ at + n)

  pub far_enough : (area : Area) (at n : ℕ) → (n < most_record + 1 → area.room ≤ at + n) → IsFarEnough area at n
  far_enough area at n short = elim (cases_lt n (most_record + 1)) [ inl lt ↦ inr (short lt) | inr le ↦ inl le ]

  module _ (area : Area) (groups : List (List E)) (content : List ℕ) (at n : ℕ) (bytes : List ℕ)
      (at_is : length (records form groups) ≡ at) (bytes_are : bytes ≡ bytes_at content (area.start + at) n) (size : length bytes ≡ n) (front : BeginsWith form area groups content) where
    pub front_more : (group : List E) (len : ℕ) → IsNextRecord form bytes group len → BeginsWith form area (groups ++ group ∷ []) content
    front_more group len next =
        let r = record_of form group in
        let here : bytes_at content (area.start + at) (length r) ≡ r =
        sym (take-take (length r) n (drop (area.start + at) content) (omega (arith, next.shorter, next.size_is, size))) ∙ ap (take (length r)) (sym bytes_are) ∙ ap (take (length r)) next.bytes_are ∙ take_at r (drop len bytes) (length r) refl in
        record {
          each = each-push form groups group front.each next.is_group;
          open_records =
              ap (λ k. bytes_at content area.start k) (length_push form groups group) ∙ both content area.start (length (records form groups)) (length r)
              ∙ ap (λ (l : List ℕ). l ++ bytes_at content (area.start + length (records form groups)) (length r)) front.open_records
              ∙ ap (λ k. records form groups ++ bytes_at content (area.start + k) (length r)) at_is
              ∙ ap (λ (l : List ℕ). records form groups ++ l) here ∙ sym (records-push form groups group);
        }

    gate_is : 1 ≤ n → get_or bytes 0 open_gate ≡ get_or content (area.start + length (records form groups)) open_gate
    gate_is some = ap (λ (l : List ℕ). get_or l 0 open_gate) bytes_are ∙ byte_of content (area.start + at) n 0 open_gate some ∙ ap (λ k. get_or content k open_gate) (omega (arith, at_is))

    -- a closed gate ends the list
    pub ends_here : 1 ≤ n → at < area.room → get_or bytes 0 open_gate ≢ open_gate → Spells form area groups content
    ends_here some inside closed = record { each = front.each; open_records = front.open_records; gate = λ is. closed (gate_is some ∙ is); within = omega (arith, at_is, inside) }

    no_later : 1 ≤ n → IsFarEnough area at n → get_or bytes 0 open_gate ≡ open_gate → HasNoRecord form bytes → (hs : List (List E)) → Spells form area hs content
        → (later : List (List E)) → AllByRecursion (IsGroup form) later → hs ≡ groups ++ later → tail_at form is_form area (length (records form groups)) content ≡ records form later ++ tail_at form is_form area (length (records form hs)) content → ⊥
    no_later some far gate none hs spells [] each list tail =
        spells.gate (sym (gate_of_tail form is_form area (length (records form hs)) content) ∙ ap (λ (l : List ℕ). get_or l 0 open_gate) (sym tail) ∙ gate_of_tail form is_form area (length (records form groups)) content ∙ sym (gate_is some) ∙ gate)
    no_later some far gate none hs spells (group ∷ later) each list tail =
        let r = record_of form group in
        let y = tail_at form is_form area (length (records form hs)) content in
        let small = small_payload form is_form group each.0 in
        let size_all : length (records form hs) ≡ at + (length r + length (records form later)) =
        ap (λ (l : List (List E)). length (records form l)) list ∙ ap length (records-append groups (group ∷ later)) ∙ omega (arith, length-append (records form groups) (records form (group ∷ later)), length-append r (records form later), at_is) in
        let fits : length r < n = elim far [ inl wide ↦ omega (arith, wide, small, length_record form group) | inr end ↦ omega (arith, end, spells.within, size_all) ] in
        let m = n - length r in
        let k : n ≡ length r + m = omega (arith, fits) in
        let after = take m (records form later ++ y) in
        let there : drop (area.start + at) content ≡ r ++ (records form later ++ y) =
        sym (drop-drop at area.start content) ∙ ap (λ j. tail_at form is_form area j content) (sym at_is) ∙ tail ∙ append_assoc r (records form later) y in
        let whole : bytes ≡ r ++ after = bytes_are ∙ ap (take n) there ∙ ap (λ j. take j (r ++ (records form later ++ y))) k ∙ take-append-add r (records form later ++ y) m in
        let long : 1 ≤ length after = omega (arith, ap length whole, length-append r after, size, fits) in
        none group after each.0 long whole

    -- an open gate that begins form is_form no record ends every list
    pub damaged_here : 1 ≤ n → IsFarEnough area at n → get_or bytes 0 open_gate ≡ open_gate → HasNoRecord form bytes → SpellsNothing form area content
    damaged_here some far gate none hs spells =
        let c = begins form is_form area groups hs content front.each front.open_records spells in
        no_later some far gate none hs spells c.later c.each c.list c.bytes
