-- What an append adds to a journal, and what one record adds to a scan.
use Rattle.std.proofs.Common.{Vec, ◌-◌, ◌≡◌, ℕ, ◌+◌, ◌<◌, List, [], ◌∷◌, ◌++◌, length, take, drop, map, Option, sym, ap, subst, ◌∙◌, arith, append_assoc, length-append}
use Rattle.std.specs.Prelude.{unwrap_or}
use Rattle.std.proofs.lemmas.List.{take_at, map-append}
use Rattle.std.specs.declared.alloc.Global.{Global}
use Rattle.journal.specs.Forms.{EntryForm, IsForm}
use Rattle.journal.specs.Layout.{closed_gate, length_size, record_head}
use Rattle.journal.specs.Spelling.{payload_of, IsGroup, group_of}
use Rattle.journal.specs.Records.{Area, body, record_of, records, text_behind, AllSpell}
use Rattle.disk_trait.specs.Disk.{DiskView}
use Rattle.journal.specs.JournalView.{JournalView, HasRoom, group_in, groups_in}
use Rattle.journal.proofs.AreaLemmas.{IsNext, length_body, length_push}
use Rattle.journal.proofs.Groups.{group_again}

module _ {E : Type 0} (form : EntryForm E) (is_form : IsForm form) where
  payload_of_text : (group : List E) → take (length (text_behind form group) - record_head) (drop length_size (text_behind form group)) ≡ payload_of form group
  payload_of_text group =
      let p = payload_of form group in
      take_at p (closed_gate ∷ []) (length (text_behind form group) - record_head) (omega (arith, length-append (body p) (closed_gate ∷ []), length_body p))

  -- the text of a group spells it
  group_in_text : (group : List E) → IsGroup form group → group_in form (text_behind form group) ≡ group
  group_in_text group is = ap (λ (o : Option (List E)). unwrap_or o []) (ap (group_of form) (payload_of_text group) ∙ group_again form is_form group is)

  -- one text more
  pub appended-push : (scanned : List (Vec E Global)) (appended : List (Vec ℕ Global)) (v : Vec ℕ Global) (group : List E) → IsGroup form group → v.items ≡ text_behind form group
      → groups_in form scanned (appended ++ v ∷ []) ≡ groups_in form scanned appended ++ group ∷ []
  appended-push scanned appended v group is text =
      let found = map (λ (g : Vec E Global). g.items) scanned in
      let one : group_in form v.items ≡ group = ap (group_in form) text ∙ group_in_text group is in
      ap (λ (l : List (List E)). found ++ l) (map-append (λ (t : Vec ℕ Global). group_in form t.items) appended (v ∷ []) ∙ ap (λ (g : List E). groups_in form [] appended ++ g ∷ []) one)
      ∙ sym (append_assoc found (groups_in form [] appended) (group ∷ []))

  -- one scanned group more
  pub scanned-push : (scanned : List (Vec E Global)) (v : Vec E Global) → map (λ (g : Vec E Global). g.items) (scanned ++ v ∷ []) ≡ map (λ (g : Vec E Global). g.items) scanned ++ v.items ∷ []
  scanned-push scanned v = map-append (λ (g : Vec E Global). g.items) scanned (v ∷ [])

  -- a journal with these fields is seen as journal
  module _ (area : Area) (scanned : List (Vec E Global)) (appended : List (Vec ℕ Global)) (end : ℕ) (journal : JournalView E)
      (view_is : record { area = area; groups = groups_in form scanned appended } ≡ journal) (ends : length (records form (groups_in form scanned appended)) ≡ end)
      (group : List E) (is_group : IsGroup form group) (room : HasRoom form journal group) where
    same_area : area ≡ journal.area
    same_area = ap (λ (j : JournalView E). j.area) view_is

    same_groups : groups_in form scanned appended ≡ journal.groups
    same_groups = ap (λ (j : JournalView E). j.groups) view_is

    end_is : length (records form journal.groups) ≡ end
    end_is = ap (λ (gs : List (List E)). length (records form gs)) (sym same_groups) ∙ ends

    -- its end is the place for the text of the group
    pub next_here : (text : List ℕ) → text ≡ text_behind form group → IsNext form journal.area journal.groups group (area.start + end) text
    next_here text is = record { is_group = is_group; here = omega (arith, ap (λ (a : Area). a.start) same_area, end_is); text_is = is; fits = room }

    module _ (v : Vec ℕ Global) (text : v.items ≡ text_behind form group) (log : List (Vec ℕ Global)) (logged : log ≡ appended ++ v ∷ []) where
      -- with the text logged, contracts see one group more
      pub grown : groups_in form scanned log ≡ journal.groups ++ group ∷ []
      grown = ap (groups_in form scanned) logged ∙ appended-push scanned appended v group is_group text ∙ ap (λ (gs : List (List E)). gs ++ group ∷ []) same_groups

      pub end_grown : length (records form (groups_in form scanned log)) ≡ end + length (record_of form group)
      end_grown = ap (λ (gs : List (List E)). length (records form gs)) grown ∙ omega (arith, length_push form journal.groups group, end_is)

      pub end_fits : end + length (record_of form group) < area.room
      end_fits = omega (arith, ap (λ (a : Area). a.room) same_area, end_is, room)

      pub all_grown : (disk : DiskView) → AllSpell form disk journal.area (journal.groups ++ group ∷ []) → AllSpell form disk area (groups_in form scanned log)
      all_grown disk all =
          subst (λ (gs : List (List E)). AllSpell form disk area gs) (sym grown) (subst (λ (a : Area). AllSpell form disk a (journal.groups ++ group ∷ [])) (sym same_area) all)
