-- The one list of requests goes on as they are taken and settled, and as a generation is announced.
use Rattle.std.proofs.Common.{◌≡◌, ◌≢◌, ⊎_elim, ◌<◌, ◌≤◌, ℕ, zero, suc, Bool, true, false, MatchBool, List, [], ◌∷◌, ◌++◌, length, length-drop, take, drop, Option, Some, ◌+◌, ◌-◌, refl, ap, sym, ◌∙◌, subst, append-nil, arith}
use Rattle.std.specs.Prelude.{nat_lt, IsErr, IsErrOf, OnOk, Result, Ok, Err}
use Rattle.std.specs.Option.{option_map}
use Rattle.std.proofs.lemmas.Bool.{ltb-false, ltb-true}
use Rattle.std.proofs.Math.Seq.{take-length}
use Rattle.layout_2.specs.State.{State, AreInTurn, asked}
use Rattle.requests.specs.Tickets.{worn_limit, Rises}
use Rattle.requests.specs.declared.request.Request.{Request}
use Rattle.schemes.specs.declared.parts.Parts.{Parts}
use Rattle.schemes.specs.Tables.{tables}
use Rattle.schemes.specs.Service.{Serves}
use Rattle.generations.specs.declared.posting.Notice.{Notice}
use Rattle.generations.specs.declared.posting.Notice.TheVariants.{Marked, Failed, Built}
use Rattle.generations.specs.Beginnings.{Opening}
use Rattle.generations.proofs.Keeping.{drop_front, drop_whole}
use Rattle.intake.specs.Turns.{AreWithin}
use Rattle.group_commit.specs.Settling.{settle}
use Rattle.request_lists.specs.declared.builds.Builds.{Builds}
use Rattle.request_lists.specs.declared.builds.Builds.TheVariants.{Beside}
use Rattle.request_lists.specs.Lists.{AreListed, IsAhead}
use Rattle.request_lists.proofs.Steps.{listed_first, listed_filled, listed_marks, listed_down, listed_built, listed_earlier}
use Rattle.committer.specs.Outboxes.{Outgoing, all_of, paid, with_posted, with_due}
use Rattle.committer.specs.Rebuilds.{IsNumbered}
use Rattle.committer.specs.declared.committer.Committer.{Committer}
use Rattle.committer.specs.declared.refused.RebuildRefused.{RebuildRefused}
use Rattle.committer.specs.declared.refused.RebuildRefused.TheVariants.{Board}
use Rattle.checkpoint.specs.StoreWords.{is_down, state_of}
use Rattle.committer.specs.Answers.{IsDueOrDropped, StaysPut}
use Rattle.committer.specs.CommitterWords.{got_of, held_of, posts_of, store_of}
use Rattle.committer.specs.Listed.{IsListed, IsListedFrom}
use Rattle.committer.specs.Ties.{IsTied}
use Rattle.committer.proofs.Logs.{all_posted, all_due}

-- ---- the same list

-- of equal parts the same is listed
pub relisted : {builds : Builds} → (first : State) (posts posts' : Outgoing) (held held' got got' : List Request) (state state' : State) (down down' : Bool)
    → posts'.opening ≡ posts.opening → all_of posts' ≡ all_of posts → held' ≡ held → got' ≡ got → state' ≡ state → down' ≡ down
    → IsListed builds first posts held got state down → IsListed builds first posts' held' got' state' down'
relisted {builds} first posts posts' held held' got got' state state' down down' o l h g s d is = record {
  begins = (ap (λ (x : Opening). x.starts) o ∙ is.begins.0, ap (λ (x : Opening). x.count) o ∙ is.begins.1);
  done = is.done;
  rest = h ∙ (is.rest ∙ ap (drop is.done) (sym g));
  lists = subst (λ (x : List Notice × (List Request × (State × Bool))). AreListed builds first x.0 x.1.0 is.done (length x.1.0) x.1.1.0 x.1.1.1) (λ i. (sym l i, (sym g i, (sym s i, sym d i)))) is.lists;
}

-- what is due may be paid, or not
paid_all : (o o' : Outgoing) (b : Bool) → MatchBool b (o' ≡ paid o) ((o' ≡ o) × (o.due ≢ [])) → (o'.opening ≡ o.opening) × (all_of o' ≡ all_of o)
paid_all o o' true is = (ap (λ (x : Outgoing). x.opening) is, ap all_of is ∙ append-nil (o.posted ++ o.due))
paid_all o o' false is = (ap (λ (x : Outgoing). x.opening) is.0, ap all_of is.0)

pub paid_listed : {builds : Builds} → (first : State) (posts posts' : Outgoing) (b : Bool) (held got : List Request) (state : State) (down : Bool) → MatchBool b (posts' ≡ paid posts) ((posts' ≡ posts) × (posts.due ≢ []))
    → IsListed builds first posts held got state down → IsListed builds first posts' held got state down
paid_listed first posts posts' b held got state down pays is =
    let same = paid_all posts posts' b pays in relisted first posts posts' held held got got state state down down same.0 same.1 refl refl refl refl is

-- one notice more
told_all : (o o' : Outgoing) (p : Notice) (b : Bool) → o.due ≡ [] → MatchBool b (o' ≡ with_posted o p) (o' ≡ with_due o p) → (o'.opening ≡ o.opening) × (all_of o' ≡ all_of o ++ p ∷ [])
told_all o o' p true none is = (ap (λ (x : Outgoing). x.opening) is, ap all_of is ∙ all_posted o p none)
told_all o o' p false none is = (ap (λ (x : Outgoing). x.opening) is, ap all_of is ∙ all_due o p none)

-- ---- the list goes on

-- at the beginning
pub begun_listed : {builds : Builds} → (state : State) (posts : Outgoing) (opening : Opening) (held got : List Request) (down : Bool) → posts ≡ record { opening = opening; posted = []; due = [] } → opening.starts ≡ state.tickets → opening.count ≡ state.count → held ≡ [] → got ≡ []
    → IsListed builds state posts held got state down
begun_listed state posts opening held got down is starts count none nothing =
    relisted state (record { opening = opening; posted = []; due = [] }) posts [] held [] got state state down down (ap (λ (x : Outgoing). x.opening) is) (ap all_of is) none nothing refl refl
    (record {
      begins = (starts, count);
      done = 0;
      rest = refl;
      lists = listed_first state down;
    })

-- where nothing is held, all is settled
all_done : (n : ℕ) (got : List Request) → n ≤ length got → drop n got ≡ [] → n ≡ length got
all_done n [] le e = omega (arith, le)
all_done zero (r ∷ rs) le e = absurd cc
all_done (suc n) (r ∷ rs) le e = let rest = all_done n rs (omega (arith, le)) e in omega (arith, rest)

within_both : (xs ys : List Request) → AreWithin xs → AreWithin ys → AreWithin (xs ++ ys)
within_both [] ys a b = b
within_both (x ∷ xs) ys a b = (a.0, within_both xs ys a.1 b)

pub within_more : (held held' : List Request) (r : Request) → held' ≡ held ++ r ∷ [] → AreWithin held → r.ticket ≤ worn_limit → AreWithin held'
within_more held held' r is all fits = subst (λ (rs : List Request). AreWithin rs) (sym is) (within_both held (r ∷ []) all (fits, tt))

pub within_none : (held : List Request) → held ≡ [] → AreWithin held
within_none held none = subst (λ (rs : List Request). AreWithin rs) (sym none) tt

-- requests were taken where nothing was held
pub taken_listed : {builds : Builds} → (first : State) (posts : Outgoing) (held now got got' : List Request) (state : State) (down : Bool) → IsListed builds first posts held got state down
    → held ≡ [] → got' ≡ got ++ now → Rises posts.opening.starts (asked got') → AreWithin now → IsListed builds first posts now got' state down
taken_listed {builds} first posts held now got got' state down is none front rises within =
    let done : is.done ≡ length got = all_done is.done got is.lists.started (sym is.rest ∙ none) in
    let turn : AreInTurn first.tickets (got ++ now) = (subst (λ (x : List ℕ × List Request). Rises x.0 (asked x.1)) (λ i. (is.begins.0 i, front i)) rises, within_both got now is.lists.in_turn.1 within) in
    let more : IsListed builds first posts now (got ++ now) state down = record {
      begins = is.begins;
      done = is.done;
      rest = sym (ap (λ (n : ℕ). drop n (got ++ now)) done ∙ drop_front got now);
      lists = listed_filled first (all_of posts) got now is.done state down is.lists turn;
    } in
    relisted first posts posts now now (got ++ now) got' state state down down refl refl refl front refl refl more

-- .. behind what was paid
pub filled_now : {builds : Builds} → (first : State) (posts : Outgoing) (held now got got' : List Request) (state state' : State) (down down' : Bool) (starts : List ℕ) → IsListed builds first posts held got state down
    → held ≡ [] → got' ≡ got ++ now → Rises starts (asked got') → starts ≡ posts.opening.starts → AreWithin now → state' ≡ state → down' ≡ down
    → IsListed builds first posts now got' state' down'
filled_now {builds} first posts held now got got' state state' down down' starts is none front rises same within s d =
    let filled : IsListed builds first posts now got' state down = taken_listed first posts held now got got' state down is none front (subst (λ (ts : List ℕ). Rises ts (asked got')) same rises) within in
    relisted first posts posts now now got' got' state state' down down' refl refl refl refl s d filled

-- what is held was committed, and its marks are posted or due
pub committed_listed : {builds : Builds} → (first : State) (posts posts' : Outgoing) (p : Notice) (b : Bool) (held held' got got' : List Request) (state state' : State) (down down' : Bool) → IsListed builds first posts held got state down → down ≡ false → posts.due ≡ []
    → p ≡ Marked (settle state held).marks → MatchBool b (posts' ≡ with_posted posts p) (posts' ≡ with_due posts p) → held' ≡ [] → got' ≡ got → state' ≡ (settle state held).state → down' ≡ false → IsListed builds first posts' held' got' state' down'
committed_listed {builds} first posts posts' p b held held' got got' state state' down down' is up none said say h g s d =
    let told : (posts'.opening ≡ posts.opening) × (all_of posts' ≡ all_of posts ++ p ∷ []) = told_all posts posts' p b none say in
    let rest : drop is.done (take (length got) got) ≡ held = ap (drop is.done) (take-length got) ∙ sym is.rest in
    let marked : AreListed builds first (all_of posts ++ Marked (settle state held).marks ∷ []) got (length got) (length got) (settle state held).state down =
    subst (λ (rs : List Request). AreListed builds first (all_of posts ++ Marked (settle state rs).marks ∷ []) got (length got) (length got) (settle state rs).state down) rest
    (listed_marks first (all_of posts) got is.done (length got) state down is.lists up) in
    record {
      begins = (ap (λ (x : Opening). x.starts) told.0 ∙ is.begins.0, ap (λ (x : Opening). x.count) told.0 ∙ is.begins.1);
      done = length got';
      rest = h ∙ sym (drop_whole got');
      lists = subst (λ (x : List Notice × (List Request × (State × Bool))). AreListed builds first x.0 x.1.0 (length x.1.0) (length x.1.0) x.1.1.0 x.1.1.1)
          (λ i. (sym (told.1 ∙ ap (λ (q : Notice). all_of posts ++ q ∷ []) said) i, (sym g i, (sym s i, (up ∙ sym d) i)))) marked;
    }

-- the device failed, and that is posted or due
pub failed_listed : {builds : Builds} → (first : State) (posts posts' : Outgoing) (p : Notice) (b : Bool) (held held' got got' : List Request) (state state' : State) (down down' : Bool) → IsListed builds first posts held got state down → down ≡ false → posts.due ≡ []
    → p ≡ Failed → MatchBool b (posts' ≡ with_posted posts p) (posts' ≡ with_due posts p) → held' ≡ held → got' ≡ got → state' ≡ state → down' ≡ true → IsListed builds first posts' held' got' state' down'
failed_listed {builds} first posts posts' p b held held' got got' state state' down down' is up none said say h g s d =
    let told : (posts'.opening ≡ posts.opening) × (all_of posts' ≡ all_of posts ++ p ∷ []) = told_all posts posts' p b none say in
    record {
      begins = (ap (λ (x : Opening). x.starts) told.0 ∙ is.begins.0, ap (λ (x : Opening). x.count) told.0 ∙ is.begins.1);
      done = is.done;
      rest = h ∙ (is.rest ∙ ap (drop is.done) (sym g));
      lists = subst (λ (x : List Notice × (List Request × (State × Bool))). AreListed builds first x.0 x.1.0 is.done (length x.1.0) x.1.1.0 x.1.1.1)
          (λ i. (sym (told.1 ∙ ap (λ (q : Notice). all_of posts ++ q ∷ []) said) i, (sym g i, (sym s i, sym d i)))) (listed_down first (all_of posts) got is.done (length got) state down is.lists up);
    }

-- a generation of the state is posted or due
pub announced_listed : {builds : Builds} → (first : State) (posts posts' : Outgoing) (b : Bool) (number : ℕ) (scheme : Parts) (held got : List Request) (state : State) (down : Bool) → IsListed builds first posts held got state down → down ≡ false → posts.due ≡ []
    → number ≡ state.count → (IsNumbered number (all_of posts) → ⊥) → scheme.generation ≡ number → Serves state.graph (tables scheme)
    → MatchBool b (posts' ≡ with_posted posts (Built number scheme)) (posts' ≡ with_due posts (Built number scheme)) → IsListed builds first posts' held got state down
announced_listed {builds} first posts posts' b number scheme held got state down is up none same news named serves say =
    let told : (posts'.opening ≡ posts.opening) × (all_of posts' ≡ all_of posts ++ Built number scheme ∷ []) = told_all posts posts' (Built number scheme) b none say in
    record {
      begins = (ap (λ (x : Opening). x.starts) told.0 ∙ is.begins.0, ap (λ (x : Opening). x.count) told.0 ∙ is.begins.1);
      done = is.done;
      rest = is.rest;
      lists = subst (λ (l : List Notice). AreListed builds first l got is.done (length got) state down) (sym (told.1 ∙ ap (λ (n : ℕ). all_of posts ++ Built n scheme ∷ []) same))
          (listed_built first (all_of posts) got is.done (length got) state down scheme is.lists up (λ e. news (e ∙ ap Some (sym same))) (named ∙ same) serves);
    }

-- a generation was offered: it is posted, it is due, or nothing changed
pub offered_listed : {builds : Builds} {D R : Type 0} {V : _} → (first : State) (old new : Committer D R V) (number : ℕ) (scheme : Parts) (r : Result ℕ RebuildRefused) → StaysPut old new
    → OnOk r (posts_of new ≡ with_posted (posts_of old) (Built number scheme)) → (IsErr r → IsErrOf r Board) → (IsErrOf r Board → IsDueOrDropped (Built number scheme) old new)
    → is_down (store_of old) ≡ false → (posts_of old).due ≡ [] → number ≡ (state_of (store_of old)).count → (IsNumbered number (all_of (posts_of old)) → ⊥) → scheme.generation ≡ number → Serves (state_of (store_of old)).graph (tables scheme)
    → IsListedFrom builds first old → IsListedFrom builds first new
offered_listed {builds} first old new number scheme r stays posted only kept up none same news named serves is = by r posted only kept
  where
    put : (posts : Outgoing) → posts_of new ≡ posts → IsListed builds first posts (held_of old) (got_of old) (state_of (store_of old)) (is_down (store_of old)) → IsListedFrom builds first new
    put posts so listed =
        relisted first posts (posts_of new) (held_of old) (held_of new) (got_of old) (got_of new) (state_of (store_of old)) (state_of (store_of new)) (is_down (store_of old)) (is_down (store_of new))
        (ap (λ (x : Outgoing). x.opening) so) (ap all_of so) stays.held (λ i. (stays.taker i).got) (ap (λ s. state_of s) stays.store) (ap (λ s. is_down s) stays.store) listed

    told : (b : Bool) (posts : Outgoing) → posts_of new ≡ posts → MatchBool b (posts ≡ with_posted (posts_of old) (Built number scheme)) (posts ≡ with_due (posts_of old) (Built number scheme)) → IsListedFrom builds first new
    told b posts so say =
        put posts so (announced_listed first (posts_of old) posts b number scheme (held_of old) (got_of old) (state_of (store_of old)) (is_down (store_of old)) is up none same news named serves say)

    by : (r : Result ℕ RebuildRefused) → OnOk r (posts_of new ≡ with_posted (posts_of old) (Built number scheme)) → (IsErr r → IsErrOf r Board) → (IsErrOf r Board → IsDueOrDropped (Built number scheme) old new) → IsListedFrom builds first new
    by (Ok n) posted only kept = told true (with_posted (posts_of old) (Built number scheme)) posted refl
    by (Err e) posted only kept =
        ⊎_elim (λ (so : posts_of new ≡ posts_of old). put (posts_of old) so is)
        (λ (so : posts_of new ≡ with_due (posts_of old) (Built number scheme)). told false (with_due (posts_of old) (Built number scheme)) so refl) (kept (only refl))

-- a number that no generation has, and that the store has reached, is above the newest one
pub news_ahead : (opening : Opening) (log : List Notice) (newest : Option ℕ) (held got : List Request) (state : State) (down : Bool) (number : ℕ) → IsTied opening log newest held got state down → number ≡ state.count → (IsNumbered number log → ⊥)
    → IsAhead number log
news_ahead opening log newest held got state down number t same news g at = by (nat_lt g.0 number) refl
  where
    by : (test : Bool) → nat_lt g.0 number ≡ test → g.0 < number
    by true is = ltb-true g.0 number is
    by false is =
        let past = ltb-false g.0 number is in
        let few = t.behind g at in
        let equal : g.0 ≡ number = omega (arith, past, few, same) in
        absurd (news (ap (option_map (λ (x : ℕ × Parts). x.0)) at ∙ ap Some equal))

-- so many are settled at most
settled_few : (at done : ℕ) (held got : List Request) → done ≤ length got → held ≡ drop done got → at + length held ≤ length got → at ≤ done
settled_few at done held got few rest within =
    let many : length held ≡ length got - done = ap (λ (l : List Request). length l) rest ∙ length-drop done got in
    omega (arith, few, within, many)

-- a generation of an earlier state is posted or due
pub earlier_listed : (first : State) (posts posts' : Outgoing) (b : Bool) (number at : ℕ) (scheme : Parts) (held got : List Request) (state : State) (down : Bool) → IsListed Beside first posts held got state down → down ≡ false → posts.due ≡ []
    → IsAhead number (all_of posts) → at + length held ≤ length got → number ≡ (settle first (take at got)).state.count → scheme.generation ≡ number → Serves (settle first (take at got)).state.graph (tables scheme)
    → MatchBool b (posts' ≡ with_posted posts (Built number scheme)) (posts' ≡ with_due posts (Built number scheme)) → IsListed Beside first posts' held got state down
earlier_listed first posts posts' b number at scheme held got state down is up none ahead within counts named serves say =
    let told : (posts'.opening ≡ posts.opening) × (all_of posts' ≡ all_of posts ++ Built number scheme ∷ []) = told_all posts posts' (Built number scheme) b none say in
    let few : at ≤ is.done = settled_few at is.done held got is.lists.started is.rest within in
    record {
      begins = (ap (λ (x : Opening). x.starts) told.0 ∙ is.begins.0, ap (λ (x : Opening). x.count) told.0 ∙ is.begins.1);
      done = is.done;
      rest = is.rest;
      lists = subst (λ (l : List Notice). AreListed Beside first l got is.done (length got) state down) (sym told.1)
          (listed_earlier first (all_of posts) got is.done (length got) state down at number scheme is.lists up few counts ahead named serves);
    }
