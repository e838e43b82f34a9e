-- A node's entries are as many as the trees that it's in.
use Rattle.std.proofs.Common.{◌≡◌, ℕ, zero, suc, ◌<◌, ◌==◌, refl, subst, arith, List, [], ◌∷◌, length}
use Rattle.std.specs.Prelude.{Some, IsSome, slice_index_or}
use Rattle.std.specs.List.{Contains}
use Rattle.std.proofs.lemmas.Bool.{cond_both, eqb-true, eqb-false, false≢true}
use Rattle.schemes.specs.declared.parts.Parts.{Parts}
use Rattle.schemes.specs.Entry.{Entry}
use Rattle.schemes.specs.Tables.{entries_at, first_entry, roots_of}
use Rattle.schemes.specs.Checks.{k1}
use Rattle.schemes.specs.Laws.{AreTreesOf}
use Rattle.schemes.proofs.Basics.Searches.{keys_length}
use Rattle.schemes.proofs.Serving.SchemeLaws.{trees_law}

entry_contains : (r : ℕ) (es : List Entry) → IsSome (first_entry r es) → Contains (roots_of es) r
entry_contains r [] g = absurd (false≢true g)
entry_contains r (e ∷ es) g =
    cond_both (e.root == r) (Some e) (first_entry r es) (λ z. IsSome z → Contains (e.root ∷ roots_of es) r)
    (λ t k. (0, omega arith, eqb-true e.root r t)) (λ _ k. (let c = entry_contains r es k in (suc c.0, omega (arith, c.1), c.2))) g

contains_entry : (r : ℕ) (es : List Entry) (k : ℕ) → k < length (roots_of es) → slice_index_or (roots_of es) k r ≡ r → IsSome (first_entry r es)
contains_entry r [] k l q = absurd (omega (arith, l))
contains_entry r (e ∷ es) zero l q = cond_both (e.root == r) (Some e) (first_entry r es) IsSome (λ _. refl) (λ f. absurd (eqb-false e.root r f q))
contains_entry r (e ∷ es) (suc k) l q = cond_both (e.root == r) (Some e) (first_entry r es) IsSome (λ _. refl) (λ _. contains_entry r es k (omega (arith, l)) q)

pub trees_of : (p : Parts) (x : ℕ) → x < p.nodes → AreTreesOf p x (length (entries_at p x))
trees_of p x i m s h =
    let es = entries_at p x in (
      roots_of es,
      (
        (h k1).roots_ascend x (subst (λ n. x < n) (h k1).nodes i),
        (
          keys_length (λ (e : Entry). e.root) es,
          λ r.
              (λ c. (trees_law m p s h x r).0 (contains_entry r es c.0 c.1 c.2), λ t. entry_contains r es ((trees_law m p s h x r).1 t)),
        ),
      ),
    )
