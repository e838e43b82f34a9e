-- What is posted tells no count above the store's.
use Rattle.std.proofs.Common.{◌≡◌, ◌≤◌, ◌+◌, ℕ, zero, suc, Bool, Option, List, [], ◌∷◌, ◌++◌, length, ap, sym, ◌∙◌, subst, arith}
use Rattle.std.specs.List.{range_with_len, AllByRecursion}
use Rattle.generations.specs.declared.posting.Notice.{Notice}
use Rattle.generations.specs.Notices.{counts_of, marks_in}
use Rattle.generations.specs.Lawful.{AreCounted}
use Rattle.generations.proofs.Lawfulness.{marks_append, counts_append}
use Rattle.committer.specs.Outboxes.{Outgoing, all_of}
use Rattle.requests.specs.declared.request.Request.{Request}
use Rattle.layout_2.specs.State.{State}
use Rattle.committer.specs.Ties.{IsTied}
use Rattle.committer.specs.Rounds.{TellsUpTo}

all_first : (P : ℕ → Type 0) (xs ys : List ℕ) → AllByRecursion P (xs ++ ys) → AllByRecursion P xs
all_first P [] ys all = tt
all_first P (x ∷ xs) ys all = (all.0, all_first P xs ys all.1)

range_below : (a n most : ℕ) → a + n ≤ most + 1 → AllByRecursion (λ c. c ≤ most) (range_with_len a n)
range_below a zero most fits = tt
range_below a (suc n) most fits = (omega (arith, fits), range_below (a + 1) n most (omega (arith, fits)))

-- counts that go on from the start end at the last one
tells_all : (start most : ℕ) (log : List Notice) → AreCounted start (counts_of (marks_in log)) → start + length (counts_of (marks_in log)) ≡ most → TellsUpTo most log
tells_all start most log counted is = subst (AllByRecursion (λ told. told ≤ most)) (sym counted) (range_below (start + 1) (length (counts_of (marks_in log))) most (omega (arith, is)))

-- so it is of what is posted, what is due aside
posted_tells : (start most : ℕ) (o : Outgoing) → AreCounted start (counts_of (marks_in (all_of o))) → start + length (counts_of (marks_in (all_of o))) ≡ most → TellsUpTo most o.posted
posted_tells start most o counted is =
    let split : counts_of (marks_in (all_of o)) ≡ counts_of (marks_in o.posted) ++ counts_of (marks_in o.due) = ap counts_of (marks_append o.posted o.due) ∙ counts_append (marks_in o.posted) (marks_in o.due) in
    all_first (λ told. told ≤ most) (counts_of (marks_in o.posted)) (counts_of (marks_in o.due)) (subst (AllByRecursion (λ told. told ≤ most)) split (tells_all start most (all_of o) counted is))

pub tied_tells : (newest : Option ℕ) (held got : List Request) (state : State) (down : Bool) (o : Outgoing) → IsTied o.opening (all_of o) newest held got state down → TellsUpTo state.count o.posted
tied_tells newest held got state down o t = posted_tells o.opening.count state.count o t.lawful.counts t.counted
