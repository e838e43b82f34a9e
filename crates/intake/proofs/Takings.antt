-- What a call leaves that takes.
use Rattle.std.proofs.Common.{arith, ◌≡◌, [], Option, Some, None, refl, inr, sym, subst, append-nil}
use Rattle.std.specs.Prelude.{MatchOption}
use Rattle.intake.specs.Ends.{Taking, AreAll, AreAllWithWaiting, CountsEmpty, HasTaken}

pub has_taken : {A : Type 0} (old new : Taking) (r : Option A) → new.first ≡ old.first → new.made ≡ old.made → new.ended ≡ old.ended → CountsEmpty old.empties new.empties r
    → MatchOption r (AreAll new new.got) (λ _. AreAllWithWaiting new) → HasTaken old new
has_taken old new None first made ended empty all = record {
  first = first;
  made = made;
  ended = ended;
  all = inr ([], (subst (AreAll new) (sym (append-nil new.got)) all, λ _. refl));
}
has_taken old new (Some r) first made ended empty all = record {
  first = first;
  made = made;
  ended = ended;
  all = inr (all.0, (all.1, λ less. absurd (let e : new.empties ≡ old.empties = empty in omega (arith, less, e))));
}
