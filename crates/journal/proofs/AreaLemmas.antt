-- What torn writes leave of an area of records.
use Rattle.std.proofs.Common.{◌≡◌, ◌≢◌, ◌⊎◌, inl, inr, ⊎_elim, ℕ, ◌+◌, ◌<◌, List, [], ◌∷◌, ◌++◌, length, get_or, take, drop, sym, ◌∙◌, ap, arith, length-append, append_assoc, length-take, length-drop}
use Rattle.std.specs.List.{AllByRecursion}
use Rattle.std.specs.Int.{w32, to_be_bytes}
use Rattle.std.proofs.lemmas.List.{append-nil, take_at, take-take, get_or_at, get_or_default}
use Rattle.std.proofs.lemmas.Bool.{cases_eq}
use Rattle.disk_trait.specs.Disk.{DiskView, Torn, HasTextBehind, IsPublishing, IsPublished, bytes_at}
use Rattle.disk_trait.specs.Places.{below, byte_below, both, byte_and, byte_of, wider}
use Rattle.journal.specs.Forms.{EntryForm}
use Rattle.journal.specs.Layout.{open_gate, closed_gate, length_size, record_head}
use Rattle.journal.specs.Spelling.{payload_of, IsGroup}
use Rattle.journal.specs.Records.{Area, body, record_of, records, text_behind, Spells, AllSpell, IsBeforeOrAfter}

pub length_body : (payload : List ℕ) → length (body payload) ≡ length_size + length payload
length_body payload = omega (arith, length-append (to_be_bytes w32 (length payload)) payload)

module _ {E : Type 0} (form : EntryForm E) where
  pub length_record : (group : List E) → length (record_of form group) ≡ record_head + length (payload_of form group)
  length_record group = omega (arith, length_body (payload_of form group))

  pub length_text : (group : List E) → length (text_behind form group) ≡ record_head + length (payload_of form group)
  length_text group = omega (arith, length-append (body (payload_of form group)) (closed_gate ∷ []), length_body (payload_of form group))

  pub records-push : (groups : List (List E)) (group : List E) → records form (groups ++ group ∷ []) ≡ records form groups ++ record_of form group
  records-push [] group = append-nil (record_of form group)
  records-push (g ∷ groups) group = ap (λ (l : List ℕ). record_of form g ++ l) (records-push groups group) ∙ sym (append_assoc (record_of form g) (records form groups) (record_of form group))

  pub length_push : (groups : List (List E)) (group : List E) → length (records form (groups ++ group ∷ [])) ≡ length (records form groups) + length (record_of form group)
  length_push groups group = ap length (records-push groups group) ∙ length-append (records form groups) (record_of form group)

  pub each-push : (groups : List (List E)) (group : List E) → AllByRecursion (IsGroup form) groups → IsGroup form group → AllByRecursion (IsGroup form) (groups ++ group ∷ [])
  each-push [] group each is = (is, tt)
  each-push (g ∷ groups) group each is = (each.0, each-push groups group each.1 is)

  -- the text of the group, where its gate is the area's next
  pub record IsNext (area : Area) (groups : List (List E)) (group : List E) (gate : ℕ) (text : List ℕ) : Type 0 where
    pub is_group : IsGroup form group
    pub here : gate ≡ area.start + length (records form groups)
    pub text_is : text ≡ text_behind form group
    pub fits : length (records form groups) + length (record_of form group) < area.room

  module _ (area : Area) (groups : List (List E)) (group : List E) (gate : ℕ) (text : List ℕ) (next : IsNext area groups group gate text) where
    -- a write behind the closed gate leaves the records
    torn_behind : (old new : List ℕ) (n : ℕ) → Spells form area groups old → Torn (gate + 1) n old new → Spells form area groups new
    torn_behind old new n spells torn = record {
      each = spells.each;
      open_records = below old new (gate + 1) n area.start (length (records form groups)) torn (omega (arith, next.here)) ∙ spells.open_records;
      gate = λ is. spells.gate (sym (byte_below old new (gate + 1) n (area.start + length (records form groups)) open_gate torn (omega (arith, next.here))) ∙ is);
      within = spells.within;
    }

    length_here : length text ≡ record_head + length (payload_of form group)
    length_here = ap length next.text_is ∙ length_text group

    module _ (old new : List ℕ) (spells : Spells form area groups old) (shows : HasTextBehind gate text old new) where
      still : bytes_at new area.start (length (records form groups)) ≡ records form groups
      still = below old new gate (length text + 1) area.start (length (records form groups)) shows.torn (omega (arith, next.here)) ∙ spells.open_records

      -- a closed gate hides what stands behind it
      shut : get_or new gate open_gate ≢ open_gate → Spells form area groups new
      shut closed = record { each = spells.each; open_records = still; gate = λ is. closed (ap (λ k. get_or new k open_gate) next.here ∙ is); within = spells.within }

      long_enough : gate < length new
      long_enough =
          let n = ap length shows.text in
          omega (arith, length_here, length-take (length text) (drop (gate + 1) new), length-drop (gate + 1) new)

      body_behind : bytes_at new (gate + 1) (length_size + length (payload_of form group)) ≡ body (payload_of form group)
      body_behind =
          sym (take-take (length_size + length (payload_of form group)) (length text) (drop (gate + 1) new) (omega (arith, length_here)))
          ∙ ap (take (length_size + length (payload_of form group))) (shows.text ∙ next.text_is) ∙ take_at (body (payload_of form group)) (closed_gate ∷ []) (length_size + length (payload_of form group)) (length_body (payload_of form group))

      record_here : get_or new gate open_gate ≡ open_gate → bytes_at new gate (length_size + length (payload_of form group) + 1) ≡ record_of form group
      record_here is = byte_and new gate (length_size + length (payload_of form group)) open_gate long_enough ∙ ap (λ (l : List ℕ). get_or new gate open_gate ∷ l) body_behind ∙ ap (λ k. k ∷ body (payload_of form group)) is

      size : length (records form (groups ++ group ∷ [])) ≡ length (records form groups) + (length_size + length (payload_of form group) + 1)
      size = omega (arith, length_push groups group, length_record group)

      last_byte : get_or new (area.start + length (records form (groups ++ group ∷ []))) open_gate ≡ closed_gate
      last_byte =
          ap (λ k. get_or new k open_gate) (omega (arith, size, next.here))
          ∙ sym (byte_of new (gate + 1) (length text) (length_size + length (payload_of form group)) open_gate (omega (arith, length_here)))
          ∙ ap (λ (l : List ℕ). get_or l (length_size + length (payload_of form group)) open_gate) (shows.text ∙ next.text_is)
          ∙ get_or_at (body (payload_of form group)) closed_gate [] open_gate (length_size + length (payload_of form group)) (length_body (payload_of form group))

      -- an open one shows a whole record
      opened : get_or new gate open_gate ≡ open_gate → Spells form area (groups ++ group ∷ []) new
      opened is =
          record {
            each = each-push groups group spells.each next.is_group;
            open_records =
                ap (λ k. bytes_at new area.start k) size ∙ both new area.start (length (records form groups)) (length_size + length (payload_of form group) + 1)
                ∙ ap (λ (l : List ℕ). l ++ bytes_at new (area.start + length (records form groups)) (length_size + length (payload_of form group) + 1)) still
                ∙ ap (λ k. records form groups ++ bytes_at new k (length_size + length (payload_of form group) + 1)) (sym next.here)
                ∙ ap (λ (l : List ℕ). records form groups ++ l) (record_here is)
                ∙ sym (records-push groups group);
            gate = λ one. let none : closed_gate ≡ open_gate = sym last_byte ∙ one in omega arith;
            within = omega (arith, length_push groups group, next.fits);
          }

      either : Spells form area groups new ⊎ Spells form area (groups ++ group ∷ []) new
      either = ⊎_elim (λ is. inr (opened is)) (λ closed. inl (shut closed)) (cases_eq (get_or new gate open_gate) open_gate)

    module _ (disk : DiskView) (known : AllSpell form disk area groups) (image : List ℕ) where
      -- while the record is published
      pub any_moment : IsPublishing disk gate text image → IsBeforeOrAfter form disk area groups group image
      any_moment is = record {
        before = is.0;
        was = is.1;
        elsewhere = ⊎_elim
            (λ torn. wider is.0 image (gate + 1) (length text) area.start area.room torn (omega (arith, next.here)) (omega (arith, next.here, next.fits, length_here, length_record group)))
            (λ shows. wider is.0 image gate (length text + 1) area.start area.room shows.torn (omega (arith, next.here)) (omega (arith, next.here, next.fits, length_here, length_record group))) is.2;
        spells = ⊎_elim (λ torn. inl (torn_behind is.0 image (length text) (known is.0 is.1) torn)) (λ shows. either is.0 image (known is.0 is.1) shows) is.2;
      }

      -- once it is
      pub at_last : IsPublished disk gate text image → Spells form area (groups ++ group ∷ []) image
      at_last is =
          let spells = known is.before is.was in
          opened is.before image spells is.shows (get_or_default image gate open_gate 0 (long_enough is.before image spells is.shows) ∙ is.is_open)
