-- What is left to say of a submit that was put, and of one that found the queue full.
use Rattle.std.proofs.Common.{◌≡◌, ℕ, List, [], ◌∷◌, ◌++◌, map, Option, Some, None, Result, Ok, Err, IfErr, OnOk, refl, inr}
use Rattle.std.specs.List.{last_or}
use Rattle.generations.specs.Beginnings.{Beginning}
use Rattle.requests.specs.declared.request.Request.{Request}
use Rattle.intake.specs.declared.outcome.SubmitRefused.{SubmitRefused}
use Rattle.intake.specs.declared.outcome.SubmitRefused.TheVariants.{QueueFull}
use Rattle.intake.specs.Turns.{last_asked}
use Rattle.intake.specs.Editors.{Editing, refusal_by, IsRefused}

last_push : (o : Option ℕ) (rs : List Request) (r : Request) → last_or o (map (λ (x : Request). x.ticket) (rs ++ r ∷ [])) ≡ Some r.ticket
last_push o [] r = refl
last_push o (q ∷ rs) r = last_push (Some q.ticket) rs r

-- the last ticket is that of the request that was put last
pub asked_push : (rs : List Request) (r : Request) → last_asked (rs ++ r ∷ []) ≡ Some r.ticket
asked_push rs r = last_push None rs r

-- what holds anyway holds where the answer is Ok
pub on_ok : {A E P : Type 0} (r : Result A E) → P → OnOk r P
on_ok (Ok a) p = p
on_ok (Err e) p = tt

-- a change that the board lets in is refused by a full queue alone
pub full_refused : {A B : Type 0} (seen : Beginning) (e : Editing) (ticket : ℕ) (Back : B → Type 0) (r : Result A (SubmitRefused × B)) → refusal_by seen e ticket ≡ None
    → IfErr r (λ x. (x.0 ≡ QueueFull) × Back x.1) → IfErr r (λ x. IsRefused seen e ticket x.0)
full_refused seen e ticket Back (Ok a) none full = tt
full_refused seen e ticket Back (Err x) none full = inr (inr (full.0, none))
