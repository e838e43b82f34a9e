-- The form of tables that were written, and that these are read, each as the one table that it is of.
use Rattle.std.proofs.Common.{◌≡◌, ℕ, suc, ◌-◌, ◌*◌, ◌^◌, ◌<◌, ◌≤◌, false, ltb, List, [], ◌∷◌, ◌++◌, length, take, drop, Some, refl, sym, ap, subst, ◌∙◌, append_assoc, arith}
use Rattle.std.specs.Int.{w16, from_be_bytes}
use Rattle.std.specs.List.{flat_map}
use Rattle.std.proofs.lemmas.Bool.{le-ltb}
use Rattle.std.proofs.lemmas.List.{drop_at, length-append, take-append-drop, take_at}
use Rattle.std.proofs.lemmas.List.Concat.{flat_map-cons}
use Rattle.std.proofs.lemmas.Nat.{from_be_bytes-to_be_bytes_2}
use Rattle.sha2.proofs.Facts256.{length-sha256}
use Rattle.schemes.specs.declared.parts.Listed.{Listed}
use Rattle.byte_forms.specs.Forms.{list_text}
use Rattle.byte_forms.specs.FormLaws.{length_items}
use Rattle.router_table.specs.declared.tree_entry.TreeEntry.{TreeEntry}
use Rattle.router_table.specs.declared.refused.ReadRefused.{ReadRefused}
use Rattle.router_table.specs.declared.refused.ReadRefused.TheVariants.{NoTable, UnknownVersion, CutShort, TooLong, Damaged, NotInOrder, Memory}
use Rattle.router_table.specs.Laws.{OneTable, TablesAreRead}
use Rattle.router_table.specs.Order.{IsTable}
use Rattle.router_table.specs.Reading.{IsTableIn}
use Rattle.router_table.specs.Refusals.{HasDigest, HasLetters, HasVersion, IsBodyOf, IsBodyRefused, IsLong, IsRefusedFor, IsShort, behind, behind_body, behind_directory, behind_items, behind_members, body_in, digest_in, digest_size, entry_size, head_size}
use Rattle.router_table.specs.Spelling.{SpellsTable, body_text, digest_of, entry_text, head_text, lists_text, member_text, number}
use Rattle.router_table.specs.Table.{Table}
use Rattle.router_table.proofs.Fits.{few_ports, few_entries, few_members}
use Rattle.router_table.proofs.BodyTexts.{length_head, one_body}

-- ---- sizes

behind_front : (n : ℕ) (a b : List ℕ) → length a ≡ n → behind n (a ++ b) ≡ Some b
behind_front n a b len =
    let long : ltb (length (a ++ b)) n ≡ false = le-ltb _ _ (omega (arith, length-append a b)) in
    rw (long, drop_at a b n len) refl

number_front : (n : ℕ) (b : List ℕ) → n < 2 ^ 16 → from_be_bytes w16 (take 2 (number n ++ b)) ≡ n
number_front n b lt = ap (from_be_bytes w16) (take_at (number n) b 2 refl) ∙ from_be_bytes-to_be_bytes_2 n lt

items_behind : {X : Type 0} (text : X → List ℕ) (size : ℕ) → ((x : X) → length (text x) ≡ size) → (xs : List X) (t : List ℕ) → length xs < 2 ^ 16 → behind_items size (list_text text xs ++ t) ≡ Some t
unfolding behind_items
items_behind text size each xs t few =
    let n = number (length xs) in
    let rest = flat_map text xs ++ t in
    let regrouped : list_text text xs ++ t ≡ n ++ rest = append_assoc n (flat_map text xs) t in
    ap (behind_items size) regrouped
    ∙ rw (behind_front 2 n rest refl, number_front (length xs) rest few) (behind_front (size * length xs) (flat_map text xs) t (length_items text size each xs))

pub length_number : (n : ℕ) → length (number n) ≡ 2
length_number n = refl

pub length_entry : (e : TreeEntry) → length (entry_text e) ≡ entry_size
length_entry e = refl

length_numbers : (ns : List ℕ) → length (flat_map number ns) ≡ 2 * length ns
length_numbers ns = length_items number 2 length_number ns

members_behind : (ms : List Listed) (t : List ℕ) → behind_members (length ms) (flat_map member_text ms ++ t) ≡ Some t
unfolding behind_members
members_behind [] t = refl
members_behind (m ∷ ms) t =
    let front : List ℕ = number m.node ++ (number m.label.first ++ (length m.label.lights ∷ [])) in
    let ports = flat_map number m.label.lights in
    let rest = flat_map member_text ms ++ t in
    let regrouped : flat_map member_text (m ∷ ms) ++ t ≡ front ++ (ports ++ rest) =
    ap (λ (b : List ℕ). b ++ t) (flat_map-cons member_text m ms) ∙ append_assoc (member_text m) (flat_map member_text ms) t in
    ap (behind_members (suc (length ms))) regrouped
    ∙ rw (behind_front 5 front (ports ++ rest) refl, behind_front (2 * length m.label.lights) ports rest (length_numbers m.label.lights)) (members_behind ms t)

directory_behind : (ms : List Listed) (t : List ℕ) → length ms < 2 ^ 16 → behind_directory (list_text member_text ms ++ t) ≡ Some t
unfolding behind_directory
directory_behind ms t few =
    let n = number (length ms) in
    let rest = flat_map member_text ms ++ t in
    let regrouped : list_text member_text ms ++ t ≡ n ++ rest = append_assoc n (flat_map member_text ms) t in
    ap behind_directory regrouped ∙ rw (behind_front 2 n rest refl, number_front (length ms) rest few) (members_behind ms t)

-- what stands behind a body
pub body_behind : (a : Table) (t : List ℕ) → IsTable a → behind_body (body_text a ++ t) ≡ Some t
unfolding behind_body body_text lists_text
body_behind a t ok =
    let head = head_text a.head in
    let ports = list_text number a.ports in
    let entries = list_text entry_text a.entries in
    let directory = list_text member_text a.directory in
    let regrouped : body_text a ++ t ≡ head ++ (ports ++ (entries ++ (directory ++ t))) =
    append_assoc head (ports ++ (entries ++ directory)) t ∙ ap (λ (b : List ℕ). head ++ b) (append_assoc ports (entries ++ directory) t ∙ ap (λ (b : List ℕ). ports ++ b) (append_assoc entries directory t)) in
    ap behind_body regrouped
    ∙ rw (
      behind_front head_size head (ports ++ (entries ++ (directory ++ t))) (length_head a.head ok.head),
      items_behind number 2 length_number a.ports (entries ++ (directory ++ t)) (few_ports a ok),
      items_behind entry_text entry_size length_entry a.entries (directory ++ t) (few_entries a ok),
    ) (directory_behind a.directory t (few_members a ok))

-- ---- digests

pub length_digest : (bytes : List ℕ) → length (digest_of bytes) ≡ digest_size
unfolding digest_of
length_digest bytes = length-sha256 bytes

pub body_in_both : (body digest : List ℕ) → length digest ≡ digest_size → (body_in (body ++ digest) ≡ body) × (digest_in (body ++ digest) ≡ digest)
body_in_both body digest len =
    let at : length body ≡ length (body ++ digest) - digest_size = omega (arith, length-append body digest) in
    (take_at body digest _ at, drop_at body digest _ at)

pub body_of_text : (bytes : List ℕ) (a : Table) → SpellsTable bytes a → (body_in bytes ≡ body_text a) × (digest_in bytes ≡ digest_of (body_text a))
body_of_text bytes a spelled =
    let both = body_in_both (body_text a) (digest_of (body_text a)) (length_digest (body_text a)) in
    (ap body_in spelled.text ∙ both.0, ap digest_in spelled.text ∙ both.1)

-- ---- what is written is read

behind_text : (bytes : List ℕ) (a : Table) → SpellsTable bytes a → behind_body bytes ≡ Some (digest_of (body_text a))
behind_text bytes a spelled = ap behind_body spelled.text ∙ body_behind a (digest_of (body_text a)) spelled.fits

letters_text : (bytes : List ℕ) (a : Table) → SpellsTable bytes a → HasLetters bytes
unfolding body_text head_text
letters_text bytes a spelled = record { long = subst (λ (t : List ℕ). 8 ≤ length t) (sym spelled.text) (omega arith); front = ap (λ (t : List ℕ). take 6 t) spelled.text }

version_text : (bytes : List ℕ) (a : Table) → SpellsTable bytes a → HasVersion bytes
unfolding body_text head_text
version_text bytes a spelled = ap (λ (t : List ℕ). take 2 (drop 6 t)) spelled.text

digest_text : (bytes : List ℕ) (a : Table) → SpellsTable bytes a → HasDigest bytes
digest_text bytes a spelled = (let both = body_of_text bytes a spelled in both.1 ∙ ap digest_of (sym both.0))

pub tables_are_read : TablesAreRead
tables_are_read bytes a NoTable spelled refused = absurd (refused (letters_text bytes a spelled))
tables_are_read bytes a UnknownVersion spelled refused = absurd (refused.1 (version_text bytes a spelled))
tables_are_read bytes a CutShort spelled refused = absurd (omega (arith, length_digest (body_text a), subst IsShort (behind_text bytes a spelled) refused.2))
tables_are_read bytes a TooLong spelled refused = absurd (omega (arith, length_digest (body_text a), subst IsLong (behind_text bytes a spelled) refused.2))
tables_are_read bytes a Damaged spelled refused = absurd (refused.3 (digest_text bytes a spelled))
tables_are_read bytes a NotInOrder spelled refused = absurd (refused.1 a spelled)
tables_are_read bytes a Memory spelled refused = refl

-- ---- one table

pub one_table : OneTable
one_table bytes a b sa sb = sym (one_body a b sa.fits sb.fits (sym (body_of_text bytes a sa).0 ∙ (body_of_text bytes b sb).0))

-- ---- what was refused

pub body_refused : (bytes body : List ℕ) (e : ReadRefused) → IsBodyOf bytes body → IsBodyRefused body e → IsRefusedFor bytes e
body_refused bytes body NotInOrder is none = (is.form, λ a spelled. none a spelled.fits (is.same ∙ (body_of_text bytes a spelled).0))
body_refused bytes body Memory is none = tt
body_refused bytes body e is none = absurd none

pub order_refused : (bytes body : List ℕ) (f : Table) → IsBodyOf bytes body → IsTableIn body f → (IsTable f → ⊥) → IsRefusedFor bytes NotInOrder
order_refused bytes body f is read none = (is.form, λ a spelled. none (subst IsTable (read.only a spelled.fits (is.same ∙ (body_of_text bytes a spelled).0)) spelled.fits))

-- ---- what was read

pub is_spelled : (bytes body : List ℕ) (f : Table) → IsBodyOf bytes body → IsTableIn body f → IsTable f → SpellsTable bytes f
is_spelled bytes body f is read fits = record {
  fits = fits;
  text =
      sym (take-append-drop (length bytes - digest_size) bytes)
      ∙ ap (λ (t : List ℕ). body_in bytes ++ t) is.form.digest
      ∙ ap (λ (t : List ℕ). t ++ digest_of t) (sym is.same ∙ read.text);
}
