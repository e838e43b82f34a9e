-- What is said of calls, one behind another.
use Rattle.std.proofs.Common.{◌≡◌, ◌≢◌, ◌⊎◌, ◌++◌, ◌∷◌, ◌<◌, ◌≤◌, List, [], length, drop, Bool, true, false, MatchBool, Result, Err, IsErrAnd, IsErrOf, refl, arith, ap, sym, ◌∙◌, subst, append-nil, inl, inr}
use Rattle.generations.proofs.Keeping.{drop_front, drop_whole}
use Rattle.requests.specs.declared.request.Request.{Request}
use Rattle.generations.specs.declared.posting.Mark.{Mark}
use Rattle.generations.specs.declared.posting.Notice.{Notice}
use Rattle.generations.specs.declared.posting.Notice.TheVariants.{Marked}
use Rattle.intake.specs.Ends.{Taking, HasTaken}
use Rattle.group_commit.specs.Limits.{most_held}
use Rattle.committer.specs.declared.committer.Committer.{Committer}
use Rattle.committer.specs.Outboxes.{Outgoing, paid, with_posted, with_due}
use Rattle.committer.specs.Rounds.{with_marks_of}
use Rattle.committer.specs.CommitterWords.{store_of, held_of, taker_of, got_of, empties_of, posts_of, taken, held_or_taken}
use Rattle.committer.specs.Answers.{Group, Takes, StaysPut, IsAtRest, held_group, asked_group, settled_group}
use Rattle.committer.proofs.Taking.{taken_none}
use Rattle.committer.proofs.Telling.{tied_tells}

-- ---- what is taken

-- nothing was taken
pub takes_none : (held : List Request) (t : Taking) → Takes held t t
takes_none held t = record {
  front = sym (ap (λ l. t.got ++ l) (drop_whole t.got) ∙ append-nil t.got);
  few = let none : length (drop (length t.got) t.got) ≡ 0 = ap length (drop_whole t.got) in omega (arith, none);
  queue = refl;
  held_first = λ some. drop_whole t.got;
  taken = taken_none t;
}

-- these were taken
pub now_taken : (got now got' : List Request) → got' ≡ got ++ now → drop (length got) got' ≡ now
now_taken got now got' front = ap (drop (length got)) front ∙ drop_front got now

pub takes_now : (held : List Request) (old new : Taking) (now : List Request) → held ≡ [] → new.got ≡ old.got ++ now → length now ≤ most_held → new.queue ≡ old.queue → HasTaken old new → Takes held old new
takes_now held old new now none front few queue taken =
    let is = now_taken old.got now new.got front in
    record {
      front = front ∙ ap (λ l. old.got ++ l) (sym is);
      few = subst (λ (l : List Request). length l ≤ most_held) (sym is) few;
      queue = queue;
      held_first = λ some. absurd (some none);
      taken = taken;
    }

-- a call behind it took nothing
pub takes_on : (held : List Request) (old mid new : Taking) → new ≡ mid → Takes held old mid → Takes held old new
takes_on held old mid new same takes = subst (λ (t : Taking). Takes held old t) (sym same) takes

-- ---- the group of a round

-- what a round took up is the group that it commits
pub group_is : {D R : Type 0} {V : _} → (old mid new : Committer D R V) → store_of mid ≡ store_of old → posts_of mid ≡ paid (posts_of old) → held_of mid ≡ held_or_taken old mid → taker_of new ≡ taker_of mid
    → held_group mid ≡ asked_group old new
group_is old mid new store posts held same i = record {
  requests = (held ∙ ap (λ (t : Taking). held_of old ++ drop (length (got_of old)) t.got) (sym same)) i;
  before = posts i;
  store = store i;
}

-- the marks of a group that has a request are posted
pub marks_of_some : (group : List Request) (marks : List Mark) (o o' : Outgoing) (p : Notice) → group ≢ [] → p ≡ Marked marks → o' ≡ with_posted o p → o' ≡ with_marks_of group marks o
marks_of_some [] marks o o' p some said is = absurd (some refl)
marks_of_some (r ∷ rs) marks o o' p some said is = is ∙ ap (with_posted o) said

-- what was told is posted or due
pub told_either : (o o' : Outgoing) (p said : Notice) (b : Bool) → p ≡ said → MatchBool b (o' ≡ with_posted o p) (o' ≡ with_due o p) → (o' ≡ with_posted o said) ⊎ (o' ≡ with_due o said)
told_either o o' p said true is told = inl (told ∙ ap (with_posted o) is)
told_either o o' p said false is told = inr (told ∙ ap (with_due o) is)

-- of none nothing is
pub marks_of_none : (group : List Request) (marks : List Mark) (o : Outgoing) → group ≡ [] → o ≡ with_marks_of group marks o
marks_of_none [] marks o none = refl
marks_of_none (r ∷ rs) marks o none = absurd cc

-- what a call ends by that ends by another's refusal, that other call ended by too
pub refused_too : {A B E : Type 0} (r : Result A E) (e f : E) → IsErrAnd r (λ x. x ≡ e) → IsErrOf r f → ◌≡◌ {A = Result B E} (Err e) (Err f)
refused_too {A = A} {E = E} r e f by is = ap Err (sym (subst (λ (r : Result A E). IsErrAnd r (λ x. x ≡ e)) is by))

-- where nothing is held or taken, nothing was taken
pub none_taken : (held now : List Request) → held ++ now ≡ [] → 0 ≡ length now
none_taken [] now none = sym (ap length none)
none_taken (r ∷ rs) now none = absurd cc

-- ---- between two calls

pub at_rest : {D R : Type 0} {V : _} → (c : Committer D R V) → IsAtRest c
at_rest c = record { whole = c.whole; tells = tied_tells _ _ _ _ _ c.outbox c.tied }

-- ---- a round's answers, by those of its commit

-- it took fewer than it may
pub fewer_on : {D R : Type 0} {V : _} → (old mid new : Committer D R V) → taker_of new ≡ taker_of mid
    → (length (taken old mid) < most_held → (held_of old ≢ []) ⊎ (empties_of old < empties_of mid)) → length (taken old new) < most_held → (held_of old ≢ []) ⊎ (empties_of old < empties_of new)
fewer_on old mid new same fewer = subst (λ (t : Taking). length (drop (length (got_of old)) t.got) < most_held → (held_of old ≢ []) ⊎ (empties_of old < t.empties)) (sym same) fewer

-- where nothing is accepted nothing is written
pub idle_on : {D R : Type 0} {V : _} → (mid new : Committer D R V) (group : Group D V) → held_group mid ≡ group → ((settled_group (held_group mid)).accepted ≡ [] → store_of new ≡ store_of mid)
    → (settled_group group).accepted ≡ [] → store_of new ≡ group.store
idle_on {D = D} {V = V} mid new group is idle = subst (λ (g : Group D V). (settled_group g).accepted ≡ [] → store_of new ≡ g.store) is idle

-- nothing was taken or committed, twice
pub put_twice : {D R : Type 0} {V : _} → (old mid new : Committer D R V) → StaysPut old mid → StaysPut mid new → StaysPut old new
put_twice old mid new first second = record { store = second.store ∙ first.store; held = second.held ∙ first.held; taker = second.taker ∙ first.taker; begun = second.begun ∙ first.begun }
