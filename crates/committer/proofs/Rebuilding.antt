-- What a rebuild leaves as the newest generation.
use Rattle.std.proofs.Common.{◌≡◌, ◌⊎◌, ℕ, Bool, List, Option, Some, None, Result, Ok, Err, refl, ap, sym, ◌∙◌, subst, inl, inr, ⊎_elim}
use Rattle.std.specs.Prelude.{IfOk, OnOk}
use Rattle.std.specs.Option.{option_map}
use Rattle.layout_2.specs.State.{State}
use Rattle.requests.specs.declared.request.Request.{Request}
use Rattle.graph_edits.specs.Edges.{Network}
use Rattle.checkpoint.specs.StoreWords.{state_of}
use Rattle.schemes.specs.declared.parts.Parts.{Parts}
use Rattle.schemes.specs.Tables.{tables}
use Rattle.schemes.specs.Service.{Serves}
use Rattle.generations.specs.declared.posting.Notice.{Notice}
use Rattle.generations.specs.declared.posting.Notice.TheVariants.{Built}
use Rattle.generations.specs.Beginnings.{Opening}
use Rattle.generations.specs.Notices.{newest_in}
use Rattle.scheme_builds.specs.Schemes.{IsSchemeOf}
use Rattle.committer.specs.declared.committer.Committer.{Committer}
use Rattle.committer.specs.declared.refused.RebuildRefused.{RebuildRefused}
use Rattle.committer.specs.Answers.{FindsDue, HasRebuilt}
use Rattle.committer.specs.CommitterWords.{store_of, posts_of}
use Rattle.committer.specs.Outboxes.{Outgoing, all_of, paid, with_posted, with_due}
use Rattle.committer.specs.Ties.{IsTied}
use Rattle.committer.specs.Rebuilds.{IsBuilt, IsNumbered, IsOwed, IsServed}
use Rattle.generations.proofs.Numbers.{now_newest}

-- the newest generation, where it has the store's count, serves the store's graph
pub newest_serves : (opening : Opening) (log : List Notice) (newest : Option ℕ) (held got : List Request) (state : State) (down : Bool) (number : ℕ) (log' : List Notice) → IsTied opening log newest held got state down
    → newest ≡ Some number → number ≡ state.count → log' ≡ log → IsServed state log'
newest_serves opening log newest held got state down number log' t is same logs =
    let by : (o : Option (ℕ × Parts)) → newest_in log ≡ o → IsServed state log = λ o. elim o as (λ o. newest_in log ≡ o → IsServed state log) [
      | None ↦ λ e. absurd (let no : Some number ≡ None = sym is ∙ (t.newest_is ∙ ap (option_map (λ g. g.0)) e) in cc)
      | Some g ↦ λ e.
          let have : Some number ≡ Some g.0 = sym is ∙ (t.newest_is ∙ ap (option_map (λ g. g.0)) e) in
          let at : g.0 ≡ state.count = (let i : g.0 ≡ number = cc in i) ∙ same in
          (g.1, (e ∙ ap (λ (n : ℕ). Some (n, g.1)) at, t.serves g e at))
    ] in
    subst (λ (l : List Notice). IsServed state l) (sym logs) (by (newest_in log) refl)

-- a generation of the store's count that was posted serves the store's graph
pub posted_serves : (state : State) (o o' : Outgoing) (scheme : Parts) (number : ℕ) → number ≡ state.count → Serves state.graph (tables scheme) → o' ≡ with_posted o (Built number scheme) → IsServed state o'.posted
posted_serves state o o' scheme number same serves is =
    subst (λ (x : Outgoing). IsServed state x.posted) (sym is) (scheme, (now_newest o.posted number scheme ∙ ap (λ (n : ℕ). Some (n, scheme)) same, ∣ serves ∣₁))

-- a scheme of the graph under the store's count
pub scheme_is : (words : List ℕ) (graph : Network) (state : State) (scheme : Parts) (number : ℕ) → graph ≡ state.graph → number ≡ state.count → IsSchemeOf graph words number scheme → IsSchemeOf state.graph words state.count scheme
scheme_is words graph state scheme number g n good = subst (λ (x : Network × ℕ). IsSchemeOf x.0 words x.1 scheme) (λ i. (g i, n i)) good

pub built_is : (words : List ℕ) (state : State) (o mid o' : Outgoing) (scheme : Parts) (number : ℕ) → mid ≡ paid o → number ≡ state.count → IsSchemeOf state.graph words state.count scheme → o' ≡ with_posted mid (Built number scheme)
    → (o' ≡ paid o) ⊎ IsBuilt words state o o'
built_is words state o mid o' scheme number paid_is same good is = inr (scheme, (good, is ∙ (λ i. with_posted (paid_is i) (Built (same i) scheme))))

pub owed_is : (words : List ℕ) (state : State) (o mid o' : Outgoing) (scheme : Parts) (number : ℕ) → mid ≡ paid o → number ≡ state.count → IsSchemeOf state.graph words state.count scheme
    → (o' ≡ mid) ⊎ (o' ≡ with_due mid (Built number scheme)) → (o' ≡ paid o) ⊎ IsOwed words state o o'
owed_is words state o mid o' scheme number paid_is same good is =
    ⊎_elim (λ (e : o' ≡ mid). inl (e ∙ paid_is)) (λ (e : o' ≡ with_due mid (Built number scheme)). inr (scheme, (good, e ∙ (λ i. with_due (paid_is i) (Built (same i) scheme))))) is

-- a generation was due, and it is posted
pub rebuilt : {D R : Type 0} {V : _} → (words : List ℕ) (old mid new : Committer D R V) (scheme : Parts) (number : ℕ) (r : Result ℕ RebuildRefused) → FindsDue old mid (Some number)
    → IsSchemeOf (state_of (store_of old)).graph words (state_of (store_of old)).count scheme → IfOk r (λ n. n ≡ number) → OnOk r (posts_of new ≡ with_posted (posts_of mid) (Built number scheme)) → IfOk r (HasRebuilt words old new)
rebuilt words old mid new scheme number (Ok n) found good is posted =
    let s = state_of (store_of old) in
    record {
      number = is ∙ found.number;
      serves = posted_serves s (posts_of mid) (posts_of new) scheme number found.number good.serves posted;
      posts = built_is words s (posts_of old) (posts_of mid) (posts_of new) scheme number found.posts found.number good posted;
      no_news = λ same. absurd (found.old_news (subst (λ (n : ℕ). IsNumbered n (all_of (posts_of old))) (sym found.number) same));
    }
rebuilt words old mid new scheme number (Err refused) found good is posted = tt
