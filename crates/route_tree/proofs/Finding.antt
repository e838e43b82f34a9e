-- What the table of places says of a member's parent, and how it is filled.
use Rattle.std.proofs.Common.{◌≡◌, ◌≢◌, ℕ, ◌+◌, ◌<◌, ◌≤◌, inl, inr, List, length, get_or, set, length-set, sym, ap, ◌∙◌, arith, below_more}
use Rattle.std.proofs.lemmas.Bool.{cases_eq}
use Rattle.std.proofs.lemmas.List.{get_or-set_same, get_or-set_other}
use Rattle.std.specs.Prelude.{Option, Some, None, slice_index}
use Rattle.route_tree.specs.Members.{HasParentBefore}
use Rattle.route_tree.specs.Growth.{IsEachOnce}
use Rattle.route_tree.specs.Places.{place_of, Finds, HasPlaces, HasPlacesTo}
use Rattle.route_tree.specs.Slots.{StandsAt}
use Rattle.route_tree.specs.declared.member.Member.{Member}
use Rattle.route_tree.proofs.Waiting.{clash, some_same, no_member}

-- the parent's place, by a table of the first members
parent_found : (ms : List Member) (n at : ℕ) (table : List (Option ℕ)) (m : Member) (x : ℕ) → Finds ms n table → at ≤ n → (h : HasParentBefore ms at m) → m.parent ≡ Some x → place_of table x ≡ Some h.0
parent_found ms n at table m x f l h e =
    ap (place_of table) (some_same (sym e ∙ h.1.1 no_member)) ∙ f.there h.0 no_member (let w = h.1.0 in omega (arith, w, l))

pub surely_found : (ms : List Member) (n at : ℕ) (table : List (Option ℕ)) (m : Member) (x : ℕ) → Finds ms n table → at ≤ n → HasParentBefore ms at m → m.parent ≡ Some x → place_of table x ≡ None → ⊥
surely_found ms n at table m x f l h e g = clash (sym g ∙ parent_found ms n at table m x f l h e)

-- the parent's place, by a table of all members
pub stands : (ms : List Member) (at x : ℕ) (table : List ℕ) (m : Member) → HasPlaces ms table → at < length ms → HasParentBefore ms at m → m.parent ≡ Some x → (x < length table) × StandsAt ms at m.parent (slice_index table x)
stands ms at x table m f l h e =
    let w = h.1.0 in
    let node : x ≡ (get_or ms h.0 no_member).node = some_same (sym e ∙ h.1.1 no_member) in
    let same : slice_index table x ≡ h.0 = ap (slice_index table) node ∙ f.there h.0 no_member (omega (arith, w, l)) in
    let fit = f.fits h.0 no_member (omega (arith, w, l)) in (
      omega (arith, node, fit),
      record {
        before = omega (arith, w, same);
        is = λ d. h.1.1 d ∙ ap (λ k. Some (get_or ms k d).node) (sym same);
      },
    )

-- one more member's place in the table
pub places_more : (ms : List Member) (i n : ℕ) (table : List ℕ) → IsEachOnce ms → HasPlacesTo ms i table → i < length ms → ((d : Member) → n ≡ (get_or ms i d).node) → HasPlacesTo ms (i + 1) (set table n i)
places_more ms i n table once f l is =
    let e = is no_member in
    let fit = f.fits i no_member l in
    record {
      fits = λ k d h. (let a = f.fits k d h in omega (arith, a, length-set table n i));
      there = λ k d. below_more (λ k. slice_index (set table n i) (get_or ms k d).node ≡ k) i
          (λ k h. get_or-set_other table n (get_or ms k d).node i 0 (λ q. (let s = once k i d d (omega (arith, h, l)) l (q ∙ is d) in omega (arith, s, h))) ∙ f.there k d h)
          (ap (slice_index (set table n i)) (sym (is d)) ∙ get_or-set_same table n i 0 (omega (arith, fit, e))) k;
    }

-- one more member's place, where no earlier one has its node n
pub finds_more : (ms : List Member) (i n : ℕ) (table : List (Option ℕ)) → Finds ms i table → i < length ms → ((d : Member) → n ≡ (get_or ms i d).node)
    → ((k : ℕ) (d : Member) → k < i → (get_or ms k d).node ≢ n) → Finds ms (i + 1) (set table n (Some i))
finds_more ms i n table f l is other = record {
  fits = λ k d h. (let a = f.fits k d h in omega (arith, a, length-set table n (Some i)));
  there = λ k d. below_more (λ k. place_of (set table n (Some i)) (get_or ms k d).node ≡ Some k) i
      (λ k h. get_or-set_other table n (get_or ms k d).node (Some i) None (other k d h) ∙ f.there k d h)
      (ap (place_of (set table n (Some i))) (sym (is d)) ∙ here) k;
  before = λ x k g. elim (cases_eq x n) [
    | inl e ↦ (let w = found x k e g in omega (arith, w))
    | inr h ↦ (let w = f.before x k (old x k h g) in omega (arith, w))
  ];
  only = λ x k d g. elim (cases_eq x n) [
    | inl e ↦ ap (λ j. (get_or ms j d).node) (sym (found x k e g)) ∙ (sym (is d) ∙ sym e)
    | inr h ↦ f.only x k d (old x k h g)
  ];
}
  where
    here : place_of (set table n (Some i)) n ≡ Some i
    here = (let e = is no_member in let a = f.fits i no_member l in get_or-set_same table n (Some i) None (omega (arith, a, e)))

    found : (x k : ℕ) → x ≡ n → place_of (set table n (Some i)) x ≡ Some k → i ≡ k
    found x k e g = some_same (sym here ∙ (sym (ap (place_of (set table n (Some i))) e) ∙ g))

    old : (x k : ℕ) → x ≢ n → place_of (set table n (Some i)) x ≡ Some k → place_of table x ≡ Some k
    old x k h g = sym (get_or-set_other table n x (Some i) None h) ∙ g
