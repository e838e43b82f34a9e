-- The parts of bytes that spell a table.
use Rattle.std.proofs.Common.{◌≡◌, ℕ, zero, suc, ◌+◌, ◌*◌, ◌^◌, ◌<◌, false, ltb, List, [], ◌∷◌, ◌++◌, length, get_or, drop, Option, Some, None, refl, sym, ap, ◌∙◌, append_assoc, arith}
use Rattle.std.specs.Int.{w16}
use Rattle.std.specs.List.{flat_map}
use Rattle.std.proofs.lemmas.Bool.{le-ltb}
use Rattle.std.proofs.lemmas.List.{drop-drop, drop_at, get_or-drop, length-append, take_at}
use Rattle.std.proofs.lemmas.List.Concat.{flat_map-cons}
use Rattle.std.proofs.lemmas.Nat.{from_be_bytes-to_be_bytes_2}
use Rattle.std.proofs.lemmas.Option.{none-some, same_Some}
use Rattle.std.proofs.Math.Nat.{mul-suc}
use Rattle.router_table.specs.declared.head.Head.{Head}
use Rattle.router_table.specs.Order.{IsHead}
use Rattle.router_table.specs.MemberForm.{member_at, member_is_form}
use Rattle.router_table.specs.Refusals.{entry_size, head_size}
use Rattle.byte_forms.specs.Forms.{list_text}
use Rattle.router_table.specs.Spelling.{SpellsTable, body_text, digest_of, entry_text, head_text, lists_text, member_text, number, router_text}
use Rattle.router_table.specs.Table.{Table}
use Rattle.router_table.proofs.BodyTexts.{length_head}
use Rattle.router_table.proofs.FormTexts.{length_entry, length_number}
use Rattle.router_table.proofs.Fits.{few_entries, few_members, few_ports, members_fit}
use Rattle.byte_forms.specs.FormLaws.{length_items, list_is_form, u16_is_form}
use Rattle.byte_forms.specs.Reading.{list_at, number_at, u16_of}
use Rattle.table_view.specs.Parts.{PartsOf, cut_at, items_cut, parts_at}

-- ---- fronts

cut_front : (n : ℕ) (x y : List ℕ) → length x ≡ n → cut_at n (x ++ y) ≡ Some (x, y)
cut_front n x y len =
    let long : ltb (length (x ++ y)) n ≡ false = le-ltb _ _ (omega (arith, length-append x y)) in
    rw (long, take_at x y n len, drop_at x y n len) refl

items_front : {X : Type 0} (text : X → List ℕ) (size : ℕ) → ((x : X) → length (text x) ≡ size) → (xs : List X) (t : List ℕ) → length xs < 2 ^ 16
    → items_cut size (list_text text xs ++ t) ≡ Some (length xs, flat_map text xs, t)
unfolding items_cut
items_front text size each xs t few =
    let n = number (length xs) in
    let rest = flat_map text xs ++ t in
    let regrouped : list_text text xs ++ t ≡ n ++ rest = append_assoc n (flat_map text xs) t in
    ap (items_cut size) regrouped ∙ rw (u16_is_form.again (length xs) rest few, cut_front (size * length xs) (flat_map text xs) t (length_items text size each xs)) refl

-- what stands behind the entries
abbrev pub behind_entries : Table → List ℕ
behind_entries a = list_text member_text a.directory ++ digest_of (body_text a)

-- the parts of a table
abbrev pub parts_text : Table → PartsOf
parts_text a = (head_text a.head, length a.ports, flat_map number a.ports, length a.entries, flat_map entry_text a.entries, behind_entries a)

parts_are : (bytes : List ℕ) (a : Table) → SpellsTable bytes a → parts_at bytes ≡ Some (parts_text a)
unfolding parts_at body_text lists_text
parts_are bytes a spelled =
    let ok = spelled.fits in
    let digest = digest_of (body_text a) in
    let head = head_text a.head in
    let ports = list_text number a.ports in
    let entries = list_text entry_text a.entries in
    let directory = list_text member_text a.directory in
    let regrouped : body_text a ++ digest ≡ head ++ (ports ++ (entries ++ (directory ++ digest))) =
    append_assoc head (ports ++ (entries ++ directory)) digest ∙ ap (λ (b : List ℕ). head ++ b) (append_assoc ports (entries ++ directory) digest ∙ ap (λ (b : List ℕ). ports ++ b) (append_assoc entries directory digest)) in
    ap parts_at (spelled.text ∙ regrouped)
    ∙ rw (
      cut_front head_size head (ports ++ (entries ++ (directory ++ digest))) (length_head a.head ok.head),
      items_front number 2 length_number a.ports (entries ++ (directory ++ digest)) (few_ports a ok),
      items_front entry_text entry_size length_entry a.entries (directory ++ digest) (few_entries a ok),
    ) refl

pub its_parts : (bytes : List ℕ) (a : Table) (p : PartsOf) → SpellsTable bytes a → parts_at bytes ≡ Some p → p ≡ parts_text a
its_parts bytes a p spelled found = same_Some {A = PartsOf} p (parts_text a) (sym found ∙ parts_are bytes a spelled)

pub has_parts : (bytes : List ℕ) (a : Table) → SpellsTable bytes a → parts_at bytes ≡ None → ⊥
has_parts bytes a spelled none = none-some _ (sym none ∙ parts_are bytes a spelled)

-- ---- numbers

pub u16_behind : (bytes : List ℕ) (n at : ℕ) → u16_of bytes (n + at) ≡ u16_of (drop n bytes) at
u16_behind bytes n at =
    let there : n + (at + 1) ≡ n + at + 1 = omega arith in
    let second : get_or (drop n bytes) (at + 1) 0 ≡ get_or bytes (n + at + 1) 0 = get_or-drop n bytes (at + 1) 0 ∙ ap (λ k. get_or bytes k 0) there in
    rw (get_or-drop n bytes at 0, second) refl

pub nodes_in : (h : Head) → IsHead h → u16_of (head_text h) 16 ≡ h.nodes
unfolding head_text router_text
nodes_in h ok = from_be_bytes-to_be_bytes_2 h.nodes ok.nodes

pub node_in : (h : Head) → IsHead h → u16_of (head_text h) 18 ≡ h.node
unfolding head_text router_text
node_in h ok = from_be_bytes-to_be_bytes_2 h.node (omega (arith, ok.node, ok.nodes))

-- ---- what stands in the parts

-- the head that is read out of the parts
pub head_read : (bytes : List ℕ) (p : PartsOf) (a : Table) → parts_at bytes ≡ Some p → SpellsTable bytes a → (o : Option Head) → ((h : Head) → IsHead h → p.0 ≡ head_text h → o ≡ Some h) → o ≡ Some a.head
head_read bytes p a found spelled o read = read a.head spelled.fits.head (ap (λ (q : PartsOf). q.0) (its_parts bytes a p spelled found))

module _ (bytes : List ℕ) (p : PartsOf) (a : Table) (found : parts_at bytes ≡ Some p) (spelled : SpellsTable bytes a) where
  pub members_read : list_at member_at p.5 ≡ Some (a.directory, digest_of (body_text a))
  members_read = ap (λ (q : PartsOf). list_at member_at q.5) (its_parts bytes a p spelled found) ∙ (list_is_form member_is_form).again a.directory (digest_of (body_text a)) (few_members a spelled.fits, members_fit a spelled.fits)

  pub count_read : number_at w16 p.5 ≡ Some (length a.directory, flat_map member_text a.directory ++ digest_of (body_text a))
  count_read =
      let regrouped = append_assoc (number (length a.directory)) (flat_map member_text a.directory) (digest_of (body_text a)) in
      ap (λ (q : PartsOf). number_at w16 q.5) (its_parts bytes a p spelled found) ∙ ap (number_at w16) regrouped ∙ u16_is_form.again (length a.directory) (flat_map member_text a.directory ++ digest_of (body_text a)) (few_members a spelled.fits)

-- ---- items of one size

pub item_front : {X : Type 0} (text : X → List ℕ) (size : ℕ) → ((x : X) → length (text x) ≡ size) → (xs : List X) (i : ℕ) (d : X) → i < length xs
    → drop (size * i) (flat_map text xs) ≡ text (get_or xs i d) ++ flat_map text (drop (suc i) xs)
item_front text size each [] i d lt = absurd (omega (arith, lt))
item_front text size each (x ∷ xs) zero d lt =
    let none : size * 0 ≡ 0 = omega arith in
    ap (λ k. drop k (flat_map text (x ∷ xs))) none ∙ flat_map-cons text x xs
item_front text size each (x ∷ xs) (suc i) d lt =
    let there : size * suc i ≡ size + size * i = omega (arith, mul-suc size i) in
    let past : drop size (flat_map text (x ∷ xs)) ≡ flat_map text xs = ap (λ (t : List ℕ). drop size t) (flat_map-cons text x xs) ∙ drop_at (text x) (flat_map text xs) size (each x) in
    ap (λ k. drop k (flat_map text (x ∷ xs))) there ∙ sym (drop-drop (size * i) size (flat_map text (x ∷ xs))) ∙ ap (λ (t : List ℕ). drop (size * i) t) past ∙ item_front text size each xs i d (omega (arith, lt))

-- the number that an item begins with
pub u16_item : {X : Type 0} (text : X → List ℕ) (size : ℕ) → ((x : X) → length (text x) ≡ size) → (xs : List X) (i : ℕ) (d : X) → i < length xs
    → (n : ℕ) (tail : List ℕ) → n < 2 ^ 16 → text (get_or xs i d) ≡ number n ++ tail → u16_of (flat_map text xs) (size * i) ≡ n
u16_item text size each xs i d lt n tail fits is =
    let rest = flat_map text (drop (suc i) xs) in
    let at : size * i ≡ size * i + 0 = omega arith in
    ap (λ k. u16_of (flat_map text xs) k) at ∙ u16_behind (flat_map text xs) (size * i) 0
    ∙ ap (λ (t : List ℕ). u16_of t 0) (item_front text size each xs i d lt ∙ ap (λ (t : List ℕ). t ++ rest) is ∙ append_assoc (number n) tail rest) ∙ from_be_bytes-to_be_bytes_2 n fits
