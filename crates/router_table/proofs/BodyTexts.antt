-- Heads, lists and bodies: what was read is what was written, and what was written is read again.
use Rattle.std.proofs.Common.{◌≡◌, ◌≢◌, ℕ, ◌^◌, ◌<◌, ◌≤◌, List, ◌++◌, length, take, drop, Option, Some, None, MatchOption, refl, sym, ap, subst, ◌∙◌, arith, inl, inr}
use Rattle.std.specs.Int.{w16, w64, to_be_bytes}
use Rattle.std.proofs.lemmas.Bool.{cases_eq, ne_eqb}
use Rattle.std.proofs.lemmas.List.{drop_at, take_at, take-append-drop, take-take}
use Rattle.std.proofs.lemmas.Option.{same_Some}
use Rattle.schemes.specs.declared.packet.Address.{Address}
use Rattle.schemes.specs.declared.packet.Home.{Home}
use Rattle.schemes.proofs.Basics.Options.{not_none}
use Rattle.packet_bytes.specs.declared.wire.WireRefused.{WireRefused}
use Rattle.packet_bytes.specs.Layout.{address_size}
use Rattle.packet_bytes.specs.Refusals.{address_refusal}
use Rattle.packet_bytes.specs.Spelling.{IsHome, SpellsAddress, address_text}
use Rattle.packet_bytes.proofs.Spellings.{addresses_are_read, one_address}
use Rattle.byte_forms.specs.Forms.{IsBytes}
use Rattle.byte_forms.specs.FormLaws.{IsBytes-drop, bind_some, u16_is_form, u64_is_form, whole_again, whole_takes}
use Rattle.byte_forms.specs.Reading.{Fails, number_at}
use Rattle.byte_forms.specs.declared.read_error.ReadError.{ReadError}
use Rattle.byte_forms.specs.declared.read_error.ReadError.TheVariants.{Malformed, Memory as NoMemory}
use Rattle.router_table.specs.declared.head.Head.{Head}
use Rattle.router_table.specs.Order.{IsHead, IsHomeAmong, IsTable}
use Rattle.router_table.specs.Reading.{IsHeadIn, IsHeadWith, IsTableIn, Lists, lists_at, lists_is_form, numbers_at}
use Rattle.router_table.specs.Refusals.{IsBodyRefused, head_size, refusal_by}
use Rattle.router_table.specs.Spelling.{number, letters, version, router_text, head_text, lists_text, body_text}
use Rattle.router_table.specs.Table.{Table, address_of}
use Rattle.router_table.proofs.Fits.{lists_fit}

-- ---- heads

home_fits : (nodes : ℕ) (o : Option Home) → nodes < 2 ^ 16 → IsHomeAmong nodes o → IsHome o
home_fits nodes None lt ok = tt
home_fits nodes (Some at) lt ok = (omega (arith, ok.0), ok.1)

-- the address of a head is spelled where its text stands
pub spells : (h : Head) → IsHead h → SpellsAddress (address_text (address_of h)) (address_of h)
spells h ok = record { fits = record { generation = ok.generation; node = omega (arith, ok.node, ok.nodes); home = home_fits h.nodes h.home ok.nodes ok.home }; text = refl }

sized : (bytes : List ℕ) → address_refusal bytes ≡ None → length bytes ≡ address_size
sized bytes none = elim (cases_eq (length bytes) address_size) [
  | inl same ↦ same
  | inr ne ↦ absurd (let k = rw (ne_eqb (length bytes) address_size ne) at none in cc)
]

length_address : (h : Head) → IsHead h → length (address_text (address_of h)) ≡ 42
length_address h ok = sized (address_text (address_of h)) (addresses_are_read _ (address_of h) (spells h ok))

abbrev Numbers : Type 0
Numbers = ℕ × ℕ × ℕ × List ℕ

abbrev numbers_text : ℕ → ℕ → ℕ → List ℕ → List ℕ
numbers_text generation nodes node rest = to_be_bytes w64 generation ++ (number nodes ++ (number node ++ rest))

numbers_take : (bytes : List ℕ) (x : Numbers) → IsBytes bytes → numbers_at bytes ≡ Some x → bytes ≡ numbers_text x.0 x.1 x.2 x.3
unfolding numbers_at
numbers_take bytes x ok e =
    let a = bind_some (number_at w64 bytes) _ x e in
    let b = bind_some (number_at w16 a.0.1) _ x a.2 in
    let c = bind_some (number_at w16 b.0.1) _ x b.2 in
    let ta = u64_is_form.takes bytes a.0 ok a.1 in
    let tb = u16_is_form.takes a.0.1 b.0 ta.0.rest_fits b.1 in
    let tc = u16_is_form.takes b.0.1 c.0 tb.0.rest_fits c.1 in
    subst (λ (y : Numbers). bytes ≡ numbers_text y.0 y.1 y.2 y.3) (same_Some (a.0.0, b.0.0, c.0.0, c.0.1) x c.2)
    (ta.0.parts ∙ ap (λ (t : List ℕ). to_be_bytes w64 a.0.0 ++ t) (tb.0.parts ∙ ap (λ (t : List ℕ). number b.0.0 ++ t) tc.0.parts))

numbers_again : (g n x : ℕ) (rest : List ℕ) → g < 2 ^ 64 → n < 2 ^ 16 → x < 2 ^ 16 → numbers_at (numbers_text g n x rest) ≡ Some (g, n, x, rest)
unfolding numbers_at
numbers_again g n x rest lg ln lx = rw (u64_is_form.again g (number n ++ (number x ++ rest)) lg, u16_is_form.again n (number x ++ rest) ln, u16_is_form.again x rest lx) refl

pub router_again : (h : Head) → IsHead h → numbers_at (router_text h) ≡ Some (h.generation, h.nodes, h.node, address_text (address_of h))
unfolding router_text
router_again h ok = numbers_again h.generation h.nodes h.node (address_text (address_of h)) ok.generation ok.nodes (omega (arith, ok.node, ok.nodes))

pub no_numbers : (bytes : List ℕ) → numbers_at bytes ≡ None → (h : Head) → IsHead h → bytes ≢ router_text h
no_numbers bytes none h ok same = not_none (ap numbers_at same ∙ router_again h ok) none

module _ (bytes : List ℕ) (g n x : ℕ) (rest : List ℕ) (found : numbers_at bytes ≡ Some (g, n, x, rest)) where
  -- a head in order whose text this is has these numbers, and its address stands behind them
  its_parts : (h : Head) → IsHead h → bytes ≡ router_text h → (h ≡ record { generation = g; nodes = n; node = x; home = h.home }) × SpellsAddress rest (address_of h)
  its_parts h ok same =
      let e : (h.generation, h.nodes, h.node, address_text (address_of h)) ≡ (g, n, x, rest) = same_Some {A = Numbers} _ _ (sym (router_again h ok) ∙ ap numbers_at (sym same) ∙ found) in
      (λ i. record { generation = (e i).0; nodes = (e i).1; node = (e i).2; home = h.home }, subst (λ (t : List ℕ). SpellsAddress t (address_of h)) (ap (λ (y : Numbers). y.3) e) (spells h ok))

  pub no_address : (refused : WireRefused) → address_refusal rest ≡ Some refused → (h : Head) → IsHead h → bytes ≢ router_text h
  no_address refused is_refused h ok same = not_none is_refused (addresses_are_read rest (address_of h) (its_parts h ok same).1)

  module _ (a : Address) (spelled : SpellsAddress rest a) where
    its_address : (h : Head) → IsHead h → bytes ≡ router_text h → address_of h ≡ a
    its_address h ok same = one_address rest (address_of h) a (its_parts h ok same).1 spelled

    other_address : (a.generation ≡ g → a.node ≡ x → ⊥) → (h : Head) → IsHead h → bytes ≢ router_text h
    other_address other h ok same =
        let is = sym (its_address h ok same) in
        let parts = (its_parts h ok same).0 in
        other (ap (λ (b : Address). b.generation) is ∙ ap (λ (k : Head). k.generation) parts) (ap (λ (b : Address). b.node) is ∙ ap (λ (k : Head). k.node) parts)

    its_text : (h : Head) → IsBytes bytes → IsHeadWith g n x a h → bytes ≡ router_text h
    unfolding router_text
    its_text h ok with =
        let same : router_text h ≡ numbers_text g n x (address_text (record { generation = g; node = x; home = a.home })) = ap router_text with.same_head in
        let address : record { generation = g; node = x; home = a.home } ≡ a = λ i. record { generation = sym with.same_generation i; node = sym with.same_node i; home = a.home } in
        numbers_take bytes (g, n, x, rest) ok found ∙ ap (numbers_text g n x) (spelled.text ∙ ap address_text (sym address)) ∙ sym same

    pub its_head : (h : Head) → IsHeadWith g n x a h → (k : Head) → IsHead k → bytes ≡ router_text k → k ≡ h
    its_head h with k ok same =
        let p = (its_parts k ok same).0 in
        let made : k ≡ record { generation = g; nodes = n; node = x; home = a.home } = λ i. record { generation = (p i).generation; nodes = (p i).nodes; node = (p i).node; home = (its_address k ok same i).home } in
        made ∙ sym with.same_head

    -- what is answered of an address that was read
    pub head_read : (o : Option Head) → IsBytes bytes → MatchOption o (a.generation ≡ g → a.node ≡ x → ⊥) (IsHeadWith g n x a) → MatchOption o ((h : Head) → IsHead h → bytes ≢ router_text h) (IsHeadIn bytes)
    head_read None ok other = other_address other
    head_read (Some h) ok with = record { text = its_text h ok with; only = its_head h with }

pub length_router : (h : Head) → IsHead h → length (router_text h) ≡ 54
unfolding router_text
length_router h ok = omega (arith, length_address h ok)

pub length_head : (h : Head) → IsHead h → length (head_text h) ≡ head_size
unfolding head_text
length_head h ok = omega (arith, length_router h ok)

-- ---- lists

lists_take : (bytes : List ℕ) (x : Lists) → IsBytes bytes → lists_at bytes ≡ Some x → bytes ≡ lists_text x.0 x.1 x.2
unfolding lists_at lists_text
lists_take bytes x ok e = (whole_takes lists_is_form bytes x ok e).0

pub lists_again : (a : Table) → IsTable a → lists_at (lists_text a.ports a.entries a.directory) ≡ Some (a.ports, a.entries, a.directory)
unfolding lists_at lists_text
lists_again a ok = whole_again lists_is_form (a.ports, a.entries, a.directory) (lists_fit a ok)

-- ---- bodies

-- a body in its parts
pub body_parts : (a : Table) → IsTable a → (take head_size (body_text a) ≡ head_text a.head) × (drop head_size (body_text a) ≡ lists_text a.ports a.entries a.directory)
unfolding body_text
body_parts a ok =
    let long = length_head a.head ok.head in
    let lists = lists_text a.ports a.entries a.directory in
    (take_at (head_text a.head) lists head_size long, drop_at (head_text a.head) lists head_size long)

pub head_front : (h : Head) → (take 8 (head_text h) ≡ letters ++ version) × (drop 8 (head_text h) ≡ router_text h)
unfolding head_text
head_front h = (refl, refl)

router_in : (a : Table) → IsTable a → drop 8 (take head_size (body_text a)) ≡ router_text a.head
router_in a ok = ap (λ (t : List ℕ). drop 8 t) (body_parts a ok).0 ∙ (head_front a.head).1

lists_in : (a : Table) → IsTable a → lists_at (drop head_size (body_text a)) ≡ Some (a.ports, a.entries, a.directory)
lists_in a ok = ap lists_at (body_parts a ok).1 ∙ lists_again a ok

-- where no head stands in front, or no lists behind it, no table in order has the body
pub no_head : (body : List ℕ) → ((h : Head) → IsHead h → drop 8 (take head_size body) ≢ router_text h) → (a : Table) → IsTable a → body ≢ body_text a
no_head body none a ok same = none a.head ok.head (ap (λ (t : List ℕ). drop 8 (take head_size t)) same ∙ router_in a ok)

pub no_lists : (body : List ℕ) → lists_at (drop head_size body) ≡ None → (a : Table) → IsTable a → body ≢ body_text a
no_lists body none a ok same = not_none (ap (λ (t : List ℕ). lists_at (drop head_size t)) same ∙ lists_in a ok) none

-- of lists that weren't read
pub lists_refused : (body rest : List ℕ) (failed : ReadError) → rest ≡ drop head_size body → Fails failed (lists_at rest) → IsBodyRefused body (refusal_by failed)
lists_refused body rest Malformed same none = no_lists body (ap lists_at (sym same) ∙ none)
lists_refused body rest NoMemory same none = tt

-- the body of a head and lists that were read
body_text_read : (body : List ℕ) (a : Table) → IsBytes body → take 8 body ≡ letters ++ version → head_size ≤ length body → drop 8 (take head_size body) ≡ router_text a.head
    → lists_at (drop head_size body) ≡ Some (a.ports, a.entries, a.directory) → body ≡ body_text a
unfolding body_text head_text
body_text_read body a ok front long router lists =
    let head = take head_size body in
    let first : take 8 head ≡ letters ++ version = take-take 8 head_size body (omega arith) ∙ front in
    let text : head ≡ head_text a.head = sym (take-append-drop 8 head) ∙ ap (λ (t : List ℕ). t ++ drop 8 head) first ∙ ap (λ (t : List ℕ). (letters ++ version) ++ t) router in
    sym (take-append-drop head_size body) ∙ ap (λ (t : List ℕ). t ++ drop head_size body) text ∙ ap (λ (t : List ℕ). head_text a.head ++ t) (lists_take (drop head_size body) (a.ports, a.entries, a.directory) (IsBytes-drop head_size body ok) lists)

-- and no other table in order has it
body_only : (body : List ℕ) (a : Table) → ((h : Head) → IsHead h → drop 8 (take head_size body) ≡ router_text h → h ≡ a.head) → lists_at (drop head_size body) ≡ Some (a.ports, a.entries, a.directory)
    → (b : Table) → IsTable b → body ≡ body_text b → b ≡ a
body_only body a head lists b fits same =
    let heads = head b.head fits.head (ap (λ (t : List ℕ). drop 8 (take head_size t)) same ∙ router_in b fits) in
    let all : (b.ports, b.entries, b.directory) ≡ (a.ports, a.entries, a.directory) = same_Some {A = Lists} _ _ (sym (ap (λ (t : List ℕ). lists_at (drop head_size t)) same ∙ lists_in b fits) ∙ lists) in
    λ i. record { head = heads i; ports = (all i).0; entries = (all i).1; directory = (all i).2 }

pub body_read : (body front rest : List ℕ) (a : Table) → IsBytes body → take 8 body ≡ letters ++ version → head_size ≤ length body → front ≡ take head_size body → rest ≡ drop head_size body
    → IsHeadIn (drop 8 front) a.head → lists_at rest ≡ Some (a.ports, a.entries, a.directory) → IsTableIn body a
body_read body front rest a ok first long front_is rest_is head lists =
    let router = subst (λ (t : List ℕ). IsHeadIn (drop 8 t) a.head) front_is head in
    let found = ap lists_at (sym rest_is) ∙ lists in
    record { text = body_text_read body a ok first long router.text found; only = body_only body a router.only found }

-- so tables in order with one body are one
pub one_body : (a b : Table) → IsTable a → IsTable b → body_text a ≡ body_text b → b ≡ a
one_body a b oka okb same = body_only (body_text a) a (λ h ok e. its_head (router_text a.head) a.head.generation a.head.nodes a.head.node (address_text (address_of a.head)) (router_again a.head oka.head)
    (address_of a.head) (spells a.head oka.head) a.head (record { same_head = refl; same_generation = refl; same_node = refl }) h ok (sym (router_in a oka) ∙ e)) (lists_in a oka) b okb same
