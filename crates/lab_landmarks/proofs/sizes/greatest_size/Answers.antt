use Rattle.std.proofs.Common.{◌≡◌, ◌⊎◌, inl, inr, ap, sym, ◌∙◌, ℕ, ◌+◌, ◌<◌, ◌≤◌, max, subst, arith}
use Rattle.std.proofs.lemmas.Bool.{cases_lt}
use Rattle.lab_landmarks.specs.Sizes.{table_size}
use Rattle.lab_landmarks.proofs.sizes.greatest_size.Goals as goal

-- none of the numbers below the next one is greater
within_more : (size : ℕ → ℕ) (n g : ℕ) → ((x : ℕ) → x < n → size x ≤ g) → (x : ℕ) → x < n + 1 → size x ≤ max g (size n)
within_more size n g within x less = elim (cases_lt x n) [
  | inl before ↦ let le = within x before in omega (arith, le)
  | inr past ↦ let same : x ≡ n = omega (arith, less, past) in subst (λ y. size y ≤ max g (size n)) (sym same) (omega arith)
]

-- and one of them is as great
one_more : (size : ℕ → ℕ) (n g : ℕ) → (g ≡ 0) ⊎ ((x : ℕ) × ((x < n) × (size x ≡ g)))
    → (max g (size n) ≡ 0) ⊎ ((x : ℕ) × ((x < n + 1) × (size x ≡ max g (size n))))
one_more size n g one = elim (cases_lt g (size n)) [
  | inl less ↦ inr (n, (omega arith, omega (arith, less)))
  | inr le ↦ elim one [
    | inl none ↦ inl (omega (arith, none, le))
    | inr at ↦ inr (at.0, ((let before = at.1.0 in omega (arith, before)), (let is = at.1.1 in omega (arith, is, le))))
  ]
]

pub loop-node-preserved : goal.loop-node-preserved
loop-node-preserved c =
    let size = table_size c.args.scheme.now in
    let n = c.loop-node.node in
    let is : c.max-greatest.result ≡ max c.loop-node.greatest (size n) = c.max-greatest.ensures ∙ ap (max c.loop-node.greatest) c.table_size.ensures in
    record {
      within = λ x less. subst (λ g. size x ≤ g) (sym is) (within_more size n c.loop-node.greatest c.loop-node.invariant.within x less);
      one = subst (λ g. (g ≡ 0) ⊎ ((x : ℕ) × ((x < n + 1) × (size x ≡ g)))) (sym is) (one_more size n c.loop-node.greatest c.loop-node.invariant.one);
    }
