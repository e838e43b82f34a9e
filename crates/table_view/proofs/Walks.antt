-- A directory that is walked from its first member.
use Rattle.std.proofs.Common.{◌≡◌, ℕ, zero, suc, ◌+◌, ◌-◌, ◌*◌, ◌<◌, ◌≤◌, false, ltb, List, [], ◌∷◌, length, take, drop, Option, Some, None, refl, sym, ap, subst, ◌∙◌, arith, inl, inr}
use Rattle.std.specs.Prelude.{option_map}
use Rattle.std.specs.Int.{w16, from_be_bytes}
use Rattle.std.proofs.lemmas.Bool.{cases_lt, eq-eqb, le-leb, le-ltb, lt-ltb, ne_eqb}
use Rattle.std.proofs.lemmas.List.{drop-drop, length-drop}
use Rattle.std.proofs.lemmas.Option.{none-some, same_Some}
use Rattle.schemes.specs.declared.parts.Listed.{Listed}
use Rattle.packet_bytes.specs.Layout.{most_ports}
use Rattle.router_table.specs.Items.{item_at}
use Rattle.byte_forms.specs.Reading.{byte_at, items_at, list_at, number_at, short_at}
use Rattle.router_table.specs.MemberForm.{label_at, member_at}
use Rattle.table_view.specs.Parts.{cut_at, member_head_at}
use Rattle.table_view.proofs.Lists.{next_of}

-- so many ports are found where there are so many bytes, and behind them stands what stands behind those
ports_cut : (n : ℕ) (bytes : List ℕ) → (ports : List ℕ) × (items_at (number_at w16) n bytes ≡ option_map (λ (x : List ℕ × List ℕ). (ports, x.1)) (cut_at (2 * n) bytes))
unfolding items_at
ports_cut zero bytes = (let all : ltb (length bytes) 0 ≡ false = le-ltb _ _ (omega arith) in ([], rw all refl))
ports_cut (suc n) bytes =
    let others = ports_cut n (drop 2 bytes) in
    let behind : drop (2 * n) (drop 2 bytes) ≡ drop (2 * suc n) bytes = drop-drop (2 * n) 2 bytes ∙ ap (λ k. drop k bytes) (omega arith) in (
      from_be_bytes w16 (take 2 bytes) ∷ others.0,
      elim (cases_lt (length bytes) (2 * suc n)) [
        | inl lt ↦ elim (cases_lt (length bytes) 2) [ inl none ↦ rw (lt-ltb _ _ lt, lt-ltb _ _ none) refl | inr one ↦ rw (lt-ltb _ _ lt, le-ltb _ _ one, others.1, lt-ltb (length (drop 2 bytes)) (2 * n) (omega (arith, lt, length-drop 2 bytes))) refl ]
        | inr le ↦ rw (le-ltb _ _ le, le-ltb (length bytes) 2 (omega (arith, le)), others.1, le-ltb (length (drop 2 bytes)) (2 * n) (omega (arith, le, length-drop 2 bytes)), behind) refl
      ],
    )

-- a member whose ports are so many bytes
pub head_cut : (bytes label ports rest : List ℕ) (node first count : ℕ) → number_at w16 bytes ≡ Some (node, label) → number_at w16 label ≡ Some (first, ports) → byte_at ports ≡ Some (count, rest) → count ≤ most_ports
    → (cut : Option (List ℕ × List ℕ)) → cut_at (2 * count) rest ≡ cut → member_head_at bytes ≡ option_map (λ (x : List ℕ × List ℕ). (node, x.1)) cut
unfolding member_at label_at short_at
head_cut bytes label ports rest node first count a b c few None is = rw (a, b, c, le-leb 0 count (omega arith), le-leb count most_ports few, (ports_cut count rest).1, is) refl
head_cut bytes label ports rest node first count a b c few (Some x) is = rw (a, b, c, le-leb 0 count (omega arith), le-leb count most_ports few, (ports_cut count rest).1, is) refl

abbrev pub found_in : ℕ → List Listed → Option Listed
found_in node ms = item_at (λ m. m.node) node ms

-- some members are left to read, and the answer is among them
pub record IsLeft (count counter node : ℕ) (bytes : List ℕ) (ms : List Listed) (rest : List ℕ) : Type 0 where
  pub left : List Listed
  pub read : items_at member_at (count - counter) bytes ≡ Some (left, rest)
  pub same : found_in node ms ≡ found_in node left

module _ (bytes : List ℕ) (ms : List Listed) (rest : List ℕ) (is : list_at member_at bytes ≡ Some (ms, rest)) where
  pub has_number : number_at w16 bytes ≡ None → ⊥
  unfolding list_at
  has_number none = (let nothing : list_at member_at bytes ≡ None = rw none refl in none-some _ (sym nothing ∙ is))

  pub at_first : (count node : ℕ) (members : List ℕ) → number_at w16 bytes ≡ Some (count, members) → IsLeft count 0 node members ms rest
  unfolding list_at
  at_first count node members found =
      let all : list_at member_at bytes ≡ items_at member_at count members = rw found refl in
      let e : count ≡ count - 0 = omega arith in
      record { left = ms; read = subst (λ n. items_at member_at n members ≡ Some (ms, rest)) e (sym all ∙ is); same = refl }

module _ (count counter node : ℕ) (bytes : List ℕ) (ms : List Listed) (rest : List ℕ) (lt : counter < count) (is : IsLeft count counter node bytes ms rest) where
  next : (x : Listed × List ℕ) × (others : List Listed) × (member_at bytes ≡ Some x) × (items_at member_at (count - (counter + 1)) x.1 ≡ Some (others, rest)) × (is.left ≡ x.0 ∷ others)
  next = (let e : count - counter ≡ suc (count - (counter + 1)) = omega (arith, lt) in next_of member_at (count - (counter + 1)) bytes is.left rest (subst (λ n. items_at member_at n bytes ≡ Some (is.left, rest)) e is.read))

  pub has_member : member_at bytes ≡ None → ⊥
  has_member none = none-some _ (sym none ∙ next.2)

  head_there : member_head_at bytes ≡ Some (next.0.0.node, next.0.1)
  head_there = rw next.2 refl

  pub has_head : member_head_at bytes ≡ None → ⊥
  has_head none = none-some _ (sym none ∙ head_there)

  its_head : (n : ℕ) (after : List ℕ) → member_head_at bytes ≡ Some (n, after) → ◌≡◌ {A = ℕ × List ℕ} (n, after) (next.0.0.node, next.0.1)
  its_head n after found = same_Some {A = ℕ × List ℕ} _ _ (sym found ∙ head_there)

  pub is_found : (n : ℕ) (after : List ℕ) (m : Listed × List ℕ) → member_head_at bytes ≡ Some (n, after) → n ≡ node → member_at bytes ≡ Some m → found_in node ms ≡ Some m.0
  is_found n after m head here found =
      let key : next.0.0.node ≡ node = sym (ap (λ (x : ℕ × List ℕ). x.0) (its_head n after head)) ∙ here in
      is.same ∙ ap (found_in node) next.4 ∙ rw (eq-eqb next.0.0.node node key) (ap (λ (x : Listed × List ℕ). Some x.0) (same_Some _ _ (sym next.2 ∙ found)))

  pub goes_on : (n : ℕ) (after : List ℕ) → member_head_at bytes ≡ Some (n, after) → (n ≡ node → ⊥) → IsLeft count (counter + 1) node after ms rest
  goes_on n after found other =
      let e = its_head n after found in
      record {
        left = next.1;
        read = ap (λ (x : ℕ × List ℕ). items_at member_at (count - (counter + 1)) x.1) e ∙ next.3;
        same = is.same ∙ ap (found_in node) next.4 ∙ rw (ne_eqb next.0.0.node node (λ h. other (ap (λ (x : ℕ × List ℕ). x.0) e ∙ h))) refl;
      }

-- no member is left
pub is_none : (count counter node : ℕ) (bytes : List ℕ) (ms : List Listed) (rest : List ℕ) → count ≤ counter → IsLeft count counter node bytes ms rest → found_in node ms ≡ None
unfolding items_at
is_none count counter node bytes ms rest le is =
    let e : count - counter ≡ 0 = omega (arith, le) in
    let last : Some ([], bytes) ≡ Some (is.left, rest) = subst (λ n. items_at member_at n bytes ≡ Some (is.left, rest)) e is.read in
    is.same ∙ sym (ap (λ (x : List Listed × List ℕ). found_in node x.0) (same_Some {A = List Listed × List ℕ} ([], bytes) (is.left, rest) last))
