-- A payload spells one group, and an area at most one list of groups.
use Rattle.std.proofs.Common.{◌≡◌, ◌≢◌, ℕ, suc, ◌+◌, ◌*◌, ◌<◌, ◌≤◌, List, [], ◌∷◌, ◌++◌, length, get_or, take, drop, refl, sym, ap, ◌∙◌, append_assoc, arith, length-append}
use Rattle.std.specs.List.{flat_map, AllByRecursion}
use Rattle.std.specs.Int.{w16, to_be_bytes}
use Rattle.std.proofs.lemmas.List.{append-nil, take-append-drop, get_or-drop}
use Rattle.std.proofs.lemmas.List.Concat.{flat_map-cons}
use Rattle.std.proofs.lemmas.Grind.{flat_map-append}
use Rattle.std.proofs.Math.Seq.{take-suc}
use Rattle.std.proofs.Math.Nat.{mul-suc, mul-le-mul_left}
use Rattle.std.proofs.Math.Numerals.{add-one}
use Rattle.byte_forms.specs.FormLaws.{apart, one_value}
use Rattle.disk_trait.specs.Disk.{bytes_at}
use Rattle.journal.specs.Forms.{EntryForm, IsForm, least_payload, most_payload}
use Rattle.journal.specs.Layout.{open_gate, length_size, count_size, most_entries, most_entry}
use Rattle.journal.specs.Records.{Area, body, records, Spells}
use Rattle.journal.specs.Spelling.{payload_of, IsGroup}
use Rattle.journal.proofs.Groups.{group_is_form}

-- ---- payloads

module _ {E : Type 0} (form : EntryForm E) (is_form : IsForm form) where
  pub one_group : (g h : List E) → IsGroup form g → IsGroup form h → payload_of form g ≡ payload_of form h → g ≡ h
  one_group g h is_g is_h e = one_value (group_is_form form is_form) g h (is_g.some, is_g.few, is_g.each) (is_h.some, is_h.few, is_h.each) e

  -- the texts of one entry more
  pub length_more : (entries : List E) (i : ℕ) (entry : E) → i < length entries → entry ≡ get_or entries i entry
      → length (flat_map form.text (take (i + 1) entries)) ≡ length (flat_map form.text (take i entries)) + length (form.text entry)
  length_more entries i entry within is =
      let one : take (i + 1) entries ≡ take i entries ++ entry ∷ [] = ap (λ (k : ℕ). take k entries) (add-one i) ∙ take-suc entries i entry within ∙ ap (λ (e : E). take i entries ++ e ∷ []) (sym is) in
      let all : flat_map form.text (take (i + 1) entries) ≡ flat_map form.text (take i entries) ++ (form.text entry ++ []) =
      ap (flat_map form.text) one ∙ flat_map-append form.text (take i entries) (entry ∷ []) ∙ ap (λ (l : List ℕ). flat_map form.text (take i entries) ++ l) (flat_map-cons form.text entry []) in
      ap length all ∙ omega (arith, length-append (flat_map form.text (take i entries)) (form.text entry ++ []), length-append (form.text entry) [])

  length_entries : (entries : List E) → AllByRecursion form.IsEntry entries → (form.least * length entries ≤ length (flat_map form.text entries)) × (length (flat_map form.text entries) ≤ form.most * length entries)
  length_entries [] each = (omega arith, omega arith)
  length_entries (entry ∷ entries) each =
      let e = ap length (flat_map-cons form.text entry entries) in
      let n = length-append (form.text entry) (flat_map form.text entries) in
      let size = is_form.sizes entry each.0 in
      let more = length_entries entries each.1 in
      let least : form.least * suc (length entries) ≡ form.least * length entries + form.least = mul-suc form.least (length entries) in
      let most : form.most * suc (length entries) ≡ form.most * length entries + form.most = mul-suc form.most (length entries) in
      (omega (arith, e, n, size.0, more.0, least), omega (arith, e, n, size.1, more.1, most))

  pub length_payload : (group : List E) → IsGroup form group → (least_payload form ≤ length (payload_of form group)) × (length (payload_of form group) ≤ most_payload form)
  length_payload group is =
      let n = length-append (to_be_bytes w16 (length group)) (flat_map form.text group) in
      let all = length_entries group is.each in
      let low : form.least * 1 ≤ form.least * length group = mul-le-mul_left form.least is.some in
      let high : form.most * length group ≤ form.most * most_entries = mul-le-mul_left form.most is.few in
      (omega (arith, n, all.0, low), omega (arith, n, all.1, high))

  pub small_payload : (group : List E) → IsGroup form group → length (payload_of form group) ≤ count_size + most_entries * most_entry
  small_payload group is = omega (arith, (length_payload group is).1, is_form.small)

  -- ---- records

  -- one record's group, and what stands behind it
  cancel : (g h : List E) (x y : List ℕ) → IsGroup form g → IsGroup form h → body (payload_of form g) ++ x ≡ body (payload_of form h) ++ y → (g ≡ h) × (x ≡ y)
  cancel g h x y is_g is_h e = apart (group_is_form form is_form) g h x y (is_g.some, is_g.few, is_g.each) (is_h.some, is_h.few, is_h.each) (ap (drop length_size) e)

  -- what records begin with, another spelling continues
  pub record Continues (gs hs : List (List E)) (x y : List ℕ) : Type 0 where
    pub later : List (List E)
    pub each : AllByRecursion (IsGroup form) later
    pub list : hs ≡ gs ++ later
    pub bytes : x ≡ records form later ++ y

  pub continues : (gs hs : List (List E)) (x y : List ℕ) → AllByRecursion (IsGroup form) gs → AllByRecursion (IsGroup form) hs → records form gs ++ x ≡ records form hs ++ y → get_or y 0 open_gate ≢ open_gate → Continues gs hs x y
  continues [] hs x y is_g is_h e closed = record { later = hs; each = is_h; list = refl; bytes = e }
  continues (g ∷ gs) [] x y is_g is_h e closed = absurd (closed (ap (λ (l : List ℕ). get_or l 0 open_gate) (sym e)))
  continues (g ∷ gs) (h ∷ hs) x y is_g is_h e closed =
      let p = payload_of form g in
      let q = payload_of form h in
      let behind : (body p ++ records form gs) ++ x ≡ (body q ++ records form hs) ++ y = ap (drop 1) e in
      let one = cancel g h (records form gs ++ x) (records form hs ++ y) is_g.0 is_h.0 (sym (append_assoc (body p) (records form gs) x) ∙ behind ∙ append_assoc (body q) (records form hs) y) in
      let more = continues gs hs x y is_g.1 is_h.1 one.1 closed in
      record {
        later = more.later;
        each = more.each;
        list = ap (λ (l : List (List E)). h ∷ l) more.list ∙ ap (λ (l : List E). l ∷ (gs ++ more.later)) (sym one.0);
        bytes = more.bytes;
      }

  -- the bytes of an area from a place on
  abbrev pub tail_at : Area → ℕ → List ℕ → List ℕ
  tail_at area at image = drop at (drop area.start image)

  split : (area : Area) (groups : List (List E)) (image : List ℕ) → bytes_at image area.start (length (records form groups)) ≡ records form groups → drop area.start image ≡ records form groups ++ tail_at area (length (records form groups)) image
  split area groups image open_records =
      sym (take-append-drop (length (records form groups)) (drop area.start image)) ∙ ap (λ (l : List ℕ). l ++ tail_at area (length (records form groups)) image) open_records

  pub gate_of_tail : (area : Area) (at : ℕ) (image : List ℕ) → get_or (tail_at area at image) 0 open_gate ≡ get_or image (area.start + at) open_gate
  gate_of_tail area at image = get_or-drop at (drop area.start image) 0 open_gate ∙ get_or-drop area.start image (at + 0) open_gate ∙ ap (λ k. get_or image k open_gate) (omega arith)

  -- what begins as a spelled area is a beginning of its list
  pub begins : (area : Area) (gs hs : List (List E)) (image : List ℕ) → AllByRecursion (IsGroup form) gs → bytes_at image area.start (length (records form gs)) ≡ records form gs
      → Spells form area hs image → Continues gs hs (tail_at area (length (records form gs)) image) (tail_at area (length (records form hs)) image)
  begins area gs hs image is_g front spells =
      continues gs hs (tail_at area (length (records form gs)) image) (tail_at area (length (records form hs)) image) is_g spells.each
      (sym (split area gs image front) ∙ split area hs image spells.open_records)
      (λ one. spells.gate (sym (gate_of_tail area (length (records form hs)) image) ∙ one))

  nothing_later : (later : List (List E)) (x y : List ℕ) → x ≡ records form later ++ y → get_or x 0 open_gate ≢ open_gate → later ≡ []
  nothing_later [] x y e closed = refl
  nothing_later (g ∷ later) x y e closed = absurd (closed (ap (λ (l : List ℕ). get_or l 0 open_gate) e))

  pub one_list : (area : Area) (gs hs : List (List E)) (image : List ℕ) → Spells form area gs image → Spells form area hs image → gs ≡ hs
  one_list area gs hs image first second =
      let c = begins area gs hs image first.each first.open_records second in
      let none = nothing_later c.later (tail_at area (length (records form gs)) image) (tail_at area (length (records form hs)) image) c.bytes (λ one. first.gate (sym (gate_of_tail area (length (records form gs)) image) ∙ one)) in
      sym (c.list ∙ ap (λ (l : List (List E)). gs ++ l) none ∙ append-nil gs)
