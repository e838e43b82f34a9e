-- What a table more keeps of a shelf.
use Rattle.std.proofs.Common.{◌≡◌, inl, inr, ℕ, zero, suc, ◌-◌, ◌<◌, length, drop, take, Some, Result, Ok, Err, List, [], ◌∷◌, refl, sym, subst, arith, length-drop}
use Rattle.std.specs.List.{All, AllPairs, remove}
use Rattle.std.proofs.lemmas.Bool.{cases_order, eq-eqb, lt-ltb, le-ltb, ne_eqb}
use Rattle.std.proofs.lemmas.List.Elements.{All-nil, All-cons, All-head, All-tail, All-append, All-drop, All-take}
use Rattle.std.proofs.lemmas.List.Edits.{length-remove}
use Rattle.std.proofs.lemmas.List.Kept.{AllPairs-cons}
use Rattle.std.proofs.lemmas.List.Quantifiers.{all_pairs_remove}
use Rattle.router_table.specs.Table.{Table}
use Rattle.std.specs.Prelude.{OnOk, OnErr}
use Rattle.router_lines.specs.declared.shelf.LoadRefused.{LoadRefused}
use Rattle.router_lines.specs.Shelves.{IsOf, IsOlder, IsPut, IsShelf, Shelf, most_tables, newest, table_in, with_table}

older_tail : (b : Table) (bs : List Table) → AllPairs IsOlder (b ∷ bs) → AllPairs IsOlder bs
older_tail b bs h = λ i j d lt within. h (suc i) (suc j) d (omega arith) (omega arith)

older_head : (b : Table) (bs : List Table) → AllPairs IsOlder (b ∷ bs) → All (IsOlder b) bs
older_head b bs h = λ k d within. h zero (suc k) d (omega arith) (omega arith)

older_drop : (n : ℕ) (bs : List Table) → AllPairs IsOlder bs → AllPairs IsOlder (drop n bs)
older_drop zero bs h = h
older_drop (suc n) [] h = h
older_drop (suc n) (b ∷ bs) h = older_drop n bs (older_tail b bs h)

module _ (a : Table) where
  -- where a table goes, by the first one that is there
  by_first : (Q : List Table → Type 0) (b : Table) (bs : List Table) → (IsOlder b a → Q (b ∷ with_table a bs)) → (b.head.generation ≡ a.head.generation → Q (a ∷ bs)) → (IsOlder a b → Q (a ∷ b ∷ bs)) → Q (with_table a (b ∷ bs))
  by_first Q b bs behind for before = elim (cases_order b.head.generation a.head.generation) [
    | inl e ↦ rw (le-ltb b.head.generation a.head.generation (omega (arith, e)), eq-eqb b.head.generation a.head.generation e) (for e)
    | inr (inl lt) ↦ rw (lt-ltb b.head.generation a.head.generation lt) (behind lt)
    | inr (inr gt) ↦ rw (le-ltb b.head.generation a.head.generation (omega (arith, gt)), ne_eqb b.head.generation a.head.generation (λ e. omega (arith, gt, e))) (before gt)
  ]

  all_with : (P : Table → Type 0) (bs : List Table) → P a → All P bs → All P (with_table a bs)
  all_with P [] p h = All-cons P a [] p (All-nil P)
  all_with P (b ∷ bs) p h =
      by_first (All P) b bs
      (λ _. All-cons P b (with_table a bs) (All-head P b bs h) (all_with P bs p (All-tail P b bs h)))
      (λ _. All-cons P a bs p (All-tail P b bs h))
      (λ _. All-cons P a (b ∷ bs) p h)

  older_with : (bs : List Table) → AllPairs IsOlder bs → AllPairs IsOlder (with_table a bs)
  older_with [] h = λ i j d lt within. absurd (omega arith)
  older_with (b ∷ bs) h =
      by_first (AllPairs IsOlder) b bs
      (λ lt. AllPairs-cons IsOlder b (with_table a bs) (all_with (IsOlder b) bs lt (older_head b bs h)) (older_with bs (older_tail b bs h)))
      (λ e. AllPairs-cons IsOlder a bs (λ k d within. let up = older_head b bs h k d within in omega (arith, e, up)) (older_tail b bs h))
      (λ lt. AllPairs-cons IsOlder a (b ∷ bs) (All-cons (IsOlder a) b bs lt (λ k d within. let up = older_head b bs h k d within in omega (arith, lt, up))) h)

  some_with : (bs : List Table) → 0 < length (with_table a bs)
  some_with [] = omega arith
  some_with (b ∷ bs) = by_first (λ ts. 0 < length ts) b bs (λ _. omega arith) (λ _. omega arith) (λ _. omega arith)

  -- the table stands there
  pub found_with : (bs : List Table) → table_in (with_table a bs) a.head.generation ≡ Some a
  found_with [] = rw (eq-eqb a.head.generation a.head.generation refl) refl
  found_with (b ∷ bs) =
      by_first (λ ts. table_in ts a.head.generation ≡ Some a) b bs
      (λ lt. rw (ne_eqb b.head.generation a.head.generation (λ e. omega (arith, lt, e))) (found_with bs))
      (λ _. rw (eq-eqb a.head.generation a.head.generation refl) refl)
      (λ _. rw (eq-eqb a.head.generation a.head.generation refl) refl)

  -- the newest of them are a shelf
  pub kept : (s : Shelf) → IsShelf s → a.head.node ≡ s.node → IsShelf (record { node = s.node; tables = newest (with_table a s.tables) })
  kept s is same =
      let all = with_table a s.tables in
      let long = length-drop (length all - most_tables) all in
      record {
        some = omega (arith, some_with s.tables, long);
        few = omega (arith, long);
        node = All-drop (IsOf s.node) (length all - most_tables) all (all_with (IsOf s.node) s.tables same is.node);
        older = older_drop (length all - most_tables) all (older_with s.tables is.older);
      }

  -- so are those among which it was put, and those that are as they were where it wasn't
  pub kept_put : (s : Shelf) (new : List Table) (r : Result (Unit {0}) LoadRefused) → IsShelf s → a.head.node ≡ s.node → OnOk r (IsPut s.tables a new) → OnErr r (new ≡ s.tables) → IsShelf (record { node = s.node; tables = new })
  kept_put s new (Ok u) is same put left = subst (λ (ts : List Table). IsShelf (record { node = s.node; tables = ts })) (sym put.newest) (kept s is same)
  kept_put s new (Err e) is same put left = subst (λ (ts : List Table). IsShelf (record { node = s.node; tables = ts })) (sym left) is

  -- a table alone is one
  pub one_table : IsShelf (record { node = a.head.node; tables = a ∷ [] })
  one_table = record {
    some = omega arith;
    few = omega arith;
    node = All-cons (IsOf a.head.node) a [] refl (All-nil (IsOf a.head.node));
    older = λ i j d lt within. absurd (omega arith);
  }

-- what holds of all holds of all but one
all_removed : (P : Table → Type 0) (bs : List Table) (place : ℕ) → All P bs → All P (remove bs place)
all_removed P bs place h = All-append P (take place bs) (drop (suc place) bs) (All-take P place bs h) (All-drop P (suc place) bs h)

-- a shelf without one of several tables is one
pub without_one : (s : Shelf) (place : ℕ) → IsShelf s → place < length s.tables → 1 < length s.tables → IsShelf (record { node = s.node; tables = remove s.tables place })
without_one s place is within several =
    let less = length-remove s.tables place within in
    record {
      some = omega (arith, less, several);
      few = omega (arith, less, is.few);
      node = all_removed (IsOf s.node) s.tables place is.node;
      older = all_pairs_remove IsOlder s.tables place within is.older;
    }
