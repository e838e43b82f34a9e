-- What calls that take leave, one after another.
use Rattle.std.proofs.Common.{◌≡◌, inl, inr, ⊎_elim, ◌<◌, ◌++◌, ℕ, List, [], Option, refl, sym, ◌∙◌, subst, arith}
use Rattle.requests.specs.declared.request.Request.{Request}
use Rattle.intake.specs.Turns.{AreFrom, AreOfEditors}
use Rattle.intake.specs.Ends.{Taking, HasAll, AreAll, HasTaken}

-- where nothing was done nothing was taken
pub taken_none : (t : Taking) → HasTaken t t
taken_none t = record { first = refl; made = refl; ended = refl; all = inl (refl, refl) }

-- a call behind others that did not find the queue empty
pub taken_more : (old mid new : Taking) → mid.empties ≡ old.empties → HasTaken old mid → HasTaken mid new → HasTaken old new
taken_more old mid new same first second = record {
  first = second.first ∙ first.first;
  made = second.made ∙ first.made;
  ended = second.ended ∙ first.ended;
  all = ⊎_elim
      (λ (none : (new.got ≡ mid.got) × (new.empties ≡ mid.empties)). ⊎_elim
      (λ (before : (mid.got ≡ old.got) × (mid.empties ≡ old.empties)). inl (none.0 ∙ before.0, none.1 ∙ before.1))
      (λ (some : (waits : List Request) × (AreAll mid (mid.got ++ waits) × (old.empties < mid.empties → waits ≡ []))).
      inr (some.0, (kept mid new second none.0 some.0 some.1.0, λ less. absurd (let e = none.1 in omega (arith, less, e, same)))))
      first.all)
      (λ (some : (waits : List Request) × (AreAll new (new.got ++ waits) × (mid.empties < new.empties → waits ≡ []))). inr (some.0, (some.1.0, λ less. some.1.1 (omega (arith, less, same)))))
      second.all;
}
  where
    kept : (mid new : Taking) → HasTaken mid new → new.got ≡ mid.got → (waits : List Request) → AreAll mid (mid.got ++ waits) → AreAll new (new.got ++ waits)
    kept mid new h got waits all =
        subst (λ (x : Option (ℕ × List Request) × (ℕ × (ℕ × List Request))). (HasAll x.0 (x.1.1.1 ++ waits) × AreFrom x.1.0 (x.1.1.1 ++ waits)) × AreOfEditors x.1.1.0 (x.1.1.1 ++ waits)) (λ i. (sym h.ended i, (sym h.first i, (sym h.made i, sym got i)))) all
