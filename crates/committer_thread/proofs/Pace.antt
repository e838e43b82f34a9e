-- How what a committer posts goes with the pace of its rebuilds.
use Rattle.std.proofs.Common.{◌≡◌, ◌+◌, ◌++◌, ◌∷◌, [], ℕ, Bool, List, Option, Some, length, refl, sym, ap, ◌∙◌, subst, append-nil}
use Rattle.std.specs.Option.{option_map}
use Rattle.requests.specs.declared.request.Request.{Request}
use Rattle.layout_2.specs.State.{State}
use Rattle.checkpoint.specs.StoreWords.{state_of}
use Rattle.generations.specs.declared.posting.Mark.{Mark}
use Rattle.generations.specs.declared.posting.Notice.{Notice}
use Rattle.generations.specs.declared.posting.Notice.TheVariants.{Marked, Built}
use Rattle.generations.specs.Notices.{counts_of, marks_in, newest_in}
use Rattle.generations.specs.Beginnings.{Beginning}
use Rattle.generations.specs.Lawful.{IsLawful}
use Rattle.generations.proofs.Lawfulness.{count_as_told}
use Rattle.generations.proofs.Numbers.{now_newest, same_newest}
use Rattle.schemes.specs.declared.parts.Parts.{Parts}
use Rattle.committer.specs.declared.committer.Committer.{Committer}
use Rattle.committer.specs.Answers.{HasCommitted, asked_group}
use Rattle.committer.specs.CommitterWords.{posts_of, store_of}
use Rattle.committer.specs.Outboxes.{Outgoing, paid, with_posted}
use Rattle.committer.specs.Rounds.{with_marks_of}
use Rattle.committer.specs.Ties.{IsTied}
use Rattle.packet_ways.specs.Standing.{Counts}
use Rattle.service_actors.specs.Stands.{HasNewest}
use Rattle.committer_thread.specs.Pace.{IsShown, IsUpToDate}

-- what an outbox has posted
abbrev board_of : Outgoing → Beginning
board_of o = record { opening = o.opening; log = o.posted }

-- ---- how the board stands

-- the count of what is posted is the store's, where nothing is due
pub counts_now : (o : Outgoing) (newest : _) (held got : List Request) (state : State) (down : Bool) → IsTied o.opening (o.posted ++ o.due) newest held got state down → o.due ≡ [] → Counts (board_of o) state.count
counts_now o newest held got state down tied none =
    let all : o.posted ++ o.due ≡ o.posted = ap (λ (l : List Notice). o.posted ++ l) none ∙ append-nil o.posted in
    count_as_told o.opening.starts o.opening.count o.posted (subst (λ (l : List Notice). IsLawful o.opening.starts o.opening.count l) all tied.lawful)
    ∙ (ap (λ (l : List Notice). o.opening.count + length (counts_of (marks_in l))) (sym all) ∙ tied.counted)

-- ---- a round

-- the newest of what is posted
abbrev Shows : Option ℕ → Outgoing → Type 0
Shows number o = (o.due ≡ []) × HasNewest (board_of o) number

shows_paid : (number : Option ℕ) (o : Outgoing) → Shows number o → Shows number (paid o)
shows_paid number o is = (refl, ap (λ (l : List Notice). option_map (λ g. g.0) (newest_in l)) (ap (λ (l : List Notice). o.posted ++ l) is.0 ∙ append-nil o.posted) ∙ is.1)

shows_marked : (number : Option ℕ) (o : Outgoing) (marks : List Mark) → Shows number o → Shows number (with_posted o (Marked marks))
shows_marked number o marks is = (refl, ap (option_map (λ g. g.0)) (same_newest o.posted (Marked marks) refl) ∙ is.1)

shows_round : (number : Option ℕ) (requests : List Request) (marks : List Mark) (o : Outgoing) → Shows number o → Shows number (with_marks_of requests marks o)
shows_round number [] marks o is = is
shows_round number (r ∷ rs) marks o is = shows_marked number o marks is

shown_so : {D R : Type 0} {V : _} → (number : Option ℕ) (c : Committer D R V) (o : Outgoing) → posts_of c ≡ o → Shows number o → IsShown number c
shown_so number c o same is =
    let so : Shows number (posts_of c) = subst (λ (p : Outgoing). Shows number p) (sym same) is in
    record { nothing_due = so.0; newest = so.1 }

-- a round leaves the newest generation
pub shown_round : {D R : Type 0} {V : _} → (number : Option ℕ) (accepted : ℕ) (old new : Committer D R V) → IsShown number old → HasCommitted (asked_group old new) new accepted → IsShown number new
shown_round number accepted old new is done = shown_so number new _ done.posts (shows_round number _ _ (paid (posts_of old)) (shows_paid number (posts_of old) (is.nothing_due, is.newest)))

-- ---- a rebuild

-- one that is posted behind all is the newest
pub shown_posted : {D R : Type 0} {V : _} → (old new : Committer D R V) (number : ℕ) (scheme : Parts) → posts_of new ≡ with_posted (posts_of old) (Built number scheme) → IsShown (Some number) new
shown_posted old new number scheme posted =
    shown_so (Some number) new (with_posted (posts_of old) (Built number scheme)) posted (refl, ap (option_map (λ g. g.0)) (now_newest (posts_of old).posted number scheme))

-- and so where it was announced
pub shown_announced : {D R : Type 0} {V : _} → (old new : Committer D R V) (number : ℕ) (scheme : Parts) → number ≡ (state_of (store_of new)).count → posts_of new ≡ with_posted (posts_of old) (Built number scheme) → IsUpToDate new
shown_announced old new number scheme same posted = subst (λ (n : ℕ). IsShown (Some n) new) same (shown_posted old new number scheme posted)

-- ---- what is due

pub up_to_date : {D R : Type 0} {V : _} → (c : Committer D R V) (newest : Option ℕ) → IsShown newest c → newest ≡ Some (state_of (store_of c)).count → IsUpToDate c
up_to_date c newest is same = subst (λ (n : Option ℕ). IsShown n c) same is
