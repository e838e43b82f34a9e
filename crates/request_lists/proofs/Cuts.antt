-- Durable generations of a list of notices that grows.
use Rattle.std.proofs.Common.{◌≡◌, ◌⊎◌, inl, inr, ⊎_elim, ℕ, List, [], ◌∷◌, ◌++◌, length, take, refl, sym, ap, ◌∙◌, subst, arith, append-nil, length-append}
use Rattle.std.proofs.lemmas.List.{take-append-le}
use Rattle.schemes.specs.declared.parts.Parts.{Parts}
use Rattle.schemes.specs.Tables.{tables}
use Rattle.schemes.specs.Service.{Serves}
use Rattle.requests.specs.declared.request.Request.{Request}
use Rattle.layout_2.specs.State.{State}
use Rattle.generations.specs.declared.posting.Mark.{Mark}
use Rattle.generations.specs.declared.posting.Notice.{Notice}
use Rattle.generations.specs.declared.posting.Notice.TheVariants.{Built}
use Rattle.generations.specs.Notices.{generation_of, marks_in}
use Rattle.group_commit.specs.Settling.{settle}
use Rattle.request_lists.specs.declared.builds.Builds.{Builds}
use Rattle.request_lists.specs.declared.builds.Builds.TheVariants.{InTurn, Beside}
use Rattle.request_lists.specs.Durable.{HaveMarks, IsDurable, AreDurable}

-- ---- the marks before a generation

-- just its own
pub just_marks : (builds : Builds) (marks told : List Mark) → told ≡ marks → HaveMarks builds marks told
just_marks InTurn marks told is = is
just_marks Beside marks told is = ([], append-nil marks ∙ sym is)

-- at least its own
pub at_least : (builds : Builds) (marks told : List Mark) → HaveMarks builds marks told → HaveMarks Beside marks told
at_least InTurn marks told is = just_marks Beside marks told is
at_least Beside marks told is = is

-- ---- one list more

no_middle : {A : Type 0} (before : List A) (q : A) (after : List A) → length (before ++ q ∷ after) ≡ 0 → ⊥
no_middle before q after e = absurd (let l = length-append before (q ∷ after) in omega (arith, l, e))

-- a list with one more that is cut before an element is cut before the last one, or before one that stood there already
pub cut_push : {A : Type 0} (log : List A) (p : A) (before : List A) (q : A) (after : List A) → log ++ p ∷ [] ≡ before ++ q ∷ after → ((log ≡ before) × (p ≡ q)) ⊎ ((rest : List A) × (log ≡ before ++ q ∷ rest))
cut_push [] p [] q after e = inl (refl, cc)
cut_push {A} [] p (b ∷ before) q after e = absurd (no_middle before q after (let rest : [] ≡ before ++ q ∷ after = cc in sym (ap (λ (l : List A). length l) rest)))
cut_push {A} (x ∷ log) p [] q after e = inr (log, (let same : x ≡ q = cc in ap (λ (y : A). y ∷ log) same))
cut_push {A} (x ∷ log) p (b ∷ before) q after e =
    let head : x ≡ b = cc in
    let rest : log ++ p ∷ [] ≡ before ++ q ∷ after = cc in
    ⊎_elim (λ (h : (log ≡ before) × (p ≡ q)). inl ((let l = h.0 in cc), h.1))
    (λ (h : (rest : List A) × (log ≡ before ++ q ∷ rest)). inr (h.0, (let l = h.1 in cc)))
    (cut_push log p before q after rest)

-- before any posting
pub durable_none : {builds : Builds} → (first : State) (asked : List Request) → AreDurable builds first asked []
durable_none first asked before after number scheme e = absurd (no_middle before (Built number scheme) after (sym (ap (λ (l : List Notice). length l) e)))

-- one posting more
pub durable_push : {builds : Builds} → (first : State) (asked : List Request) (log : List Notice) (p : Notice) → AreDurable builds first asked log → ((number : ℕ) (scheme : Parts) → p ≡ Built number scheme → IsDurable builds first asked log number scheme)
    → AreDurable builds first asked (log ++ p ∷ [])
durable_push {builds} first asked log p all one before after number scheme e =
    ⊎_elim (λ (h : (log ≡ before) × (p ≡ Built number scheme)). subst (λ (l : List Notice). IsDurable builds first asked l number scheme) h.0 (one number scheme h.1))
    (λ (h : (rest : List Notice) × (log ≡ before ++ Built number scheme ∷ rest)). all before h.0 number scheme h.1)
    (cut_push log p before (Built number scheme) after e)

-- a posting of no generation
pub durable_same : {builds : Builds} → (first : State) (asked : List Request) (log : List Notice) (p : Notice) → AreDurable builds first asked log → generation_of p ≡ [] → AreDurable builds first asked (log ++ p ∷ [])
durable_same first asked log p all none = durable_push first asked log p all (λ number scheme e. absurd (let f : (number, scheme) ∷ [] ≡ [] = sym (ap generation_of e) ∙ none in cc))

-- more requests
pub durable_more : {builds : Builds} → (first : State) (asked more : List Request) (log : List Notice) → AreDurable builds first asked log → AreDurable builds first (asked ++ more) log
durable_more {builds} first asked more log all before after number scheme e =
    let h = all before after number scheme e in
    let same : take h.at (asked ++ more) ≡ take h.at asked = take-append-le h.at asked more h.within in
    record {
      at = h.at;
      within = let w = h.within in let l = length-append asked more in omega (arith, w, l);
      marks = subst (λ (l : List Request). HaveMarks builds (settle first l).marks (marks_in before)) (sym same) h.marks;
      number_is = h.number_is ∙ ap (λ (l : List Request). (settle first l).state.count) (sym same);
      named = h.named;
      serves = subst (λ (l : List Request). Serves (settle first l).state.graph (tables scheme)) (sym same) h.serves;
    }

-- built in turn or beside
pub durable_beside : (builds : Builds) (first : State) (asked : List Request) (log : List Notice) → AreDurable builds first asked log → AreDurable Beside first asked log
durable_beside builds first asked log all before after number scheme e =
    let h = all before after number scheme e in
    record {
      at = h.at;
      within = h.within;
      marks = at_least builds (settle first (take h.at asked)).marks (marks_in before) h.marks;
      number_is = h.number_is;
      named = h.named;
      serves = h.serves;
    }
