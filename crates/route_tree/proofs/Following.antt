-- Whether a member may follow those before it, by the table of their places.
use Rattle.std.proofs.Common.{◌≡◌, ◌≢◌, ℕ, ◌<◌, ◌≤◌, inl, inr, Bool, true, false, List, length, get_or, refl, sym, ap, subst, ◌∙◌, arith}
use Rattle.std.specs.Prelude.{Option, Some, None, IsTrue, is_some}
use Rattle.std.proofs.lemmas.Bool.{cases_order, false≢true, true≢false}
use Rattle.std.proofs.lemmas.List.{get_or_default}
use Rattle.route_tree.specs.Members.{AreMembers, HasBoth, IsNext, IsRoot}
use Rattle.route_tree.specs.Places.{place_of, Finds}
use Rattle.route_tree.specs.declared.member.TheConstants.{MOST_MEMBERS}
use Rattle.route_tree.specs.declared.member.Member.{Member}
use Rattle.route_tree.proofs.Waiting.{clash, no_member}
use Rattle.route_tree.proofs.Finding.{surely_found}

-- a test that says whether there is an answer
pub by_answer : {N : Type 0} (o : Option ℕ) (r : Bool) → r ≡ is_some o → ((k : ℕ) → o ≡ Some k → N) → (o ≡ None → N → ⊥) → (IsTrue r → N) × (N → IsTrue r)
by_answer None r e f g = (λ t. absurd (false≢true (sym e ∙ t)), λ n. absurd (g refl n))
by_answer (Some k) r e f g = ((λ t. f k refl), (λ n. e))

pub refused : {N : Type 0} → (N → ⊥) → (IsTrue false → N) × (N → IsTrue false)
refused g = (λ t. absurd (false≢true t), λ n. absurd (g n))

pub some_of : (o : Option ℕ) (r : Bool) → r ≡ is_some o → r ≡ true → (k : ℕ) × (o ≡ Some k)
some_of None r e t = absurd (false≢true (sym e ∙ t))
some_of (Some k) r e t = (k, refl)

pub none_of : (o : Option ℕ) (r : Bool) → r ≡ is_some o → r ≡ false → o ≡ None
none_of None r e t = refl
none_of (Some k) r e t = absurd (true≢false (sym e ∙ t))

module _ (ms : List Member) (at : ℕ) (table : List (Option ℕ)) (f : Finds ms at table) where
  pub is_not_fresh : (k : ℕ) → place_of table (get_or ms at no_member).node ≡ Some k → IsNext ms at → ⊥
  is_not_fresh k e n = n.fresh k no_member no_member (f.before (get_or ms at no_member).node k e) (f.only (get_or ms at no_member).node k no_member e)

  pub is_fresh : at < length ms → place_of table (get_or ms at no_member).node ≡ None → (j : ℕ) (d e : Member) → j < at → (get_or ms j d).node ≢ (get_or ms at e).node
  is_fresh l q j d e h = λ s.
      clash (sym q ∙ (ap (place_of table) (ap (λ (m : Member). m.node) (get_or_default ms at no_member e l) ∙ sym s) ∙ f.there j d h))

  pub is_next_from : at < length ms → 0 < at → place_of table (get_or ms at no_member).node ≡ None → HasBoth (get_or ms at no_member)
      → (p k : ℕ) → (get_or ms at no_member).parent ≡ Some p → place_of table p ≡ Some k → IsNext ms at
  is_next_from l z q b p k e g = record {
    fresh = is_fresh l q;
    root = λ h. absurd (omega arith);
    ports = λ _ d. subst HasBoth (get_or_default ms at no_member d l) b;
    parent = λ _ d. (k, (f.before p k g, λ c. (ap (λ (m : Member). m.parent) (get_or_default ms at d no_member l) ∙ e ∙ ap (λ z. Some z) (sym (f.only p k c g)))));
  }

  pub parent_not_found : 0 < at → (p : ℕ) → (get_or ms at no_member).parent ≡ Some p → place_of table p ≡ None → IsNext ms at → ⊥
  parent_not_found z p e g n = surely_found ms at at table (get_or ms at no_member) p f (omega arith) (n.parent z no_member) e g

-- members of a tree follow one another
pub nexts_of : (ms : List Member) → AreMembers ms → (k : ℕ) → k < length ms → IsNext ms k
nexts_of ms a k l = record {
  fresh = λ j d e h s. (let w = a.once j k d e (omega arith) l s in omega (arith, w, h));
  root = λ z d. subst (λ i. IsRoot (get_or ms i d)) (sym z) (a.root d);
  ports = λ z d. a.ports k d z l;
  parent = λ z d. a.parents k d z l;
}

pub members_from : (ms : List Member) → 0 < length ms → length ms ≤ MOST_MEMBERS → ((k : ℕ) → k < length ms → IsNext ms k) → AreMembers ms
members_from ms some few next = record {
  some = some;
  few = few;
  once = λ i j d e l h s. elim (cases_order i j) [
    | inl q ↦ q
    | inr (inl b) ↦ absurd ((next j h).fresh i d e b s)
    | inr (inr b) ↦ absurd ((next i l).fresh j e d b (sym s))
  ];
  root = λ d. (next 0 some).root refl d;
  ports = λ k d z l. (next k l).ports z d;
  parents = λ k d z l. (next k l).parent z d;
}
