-- Each move keeps the rule of the intake.
use Rattle.std.proofs.Common.{◌≡◌, ◌≢◌, ◌⊎◌, ℕ, zero, suc, ◌+◌, ◌<◌, ◌≤◌, ◌==◌, Bool, true, false, true≢false, cond, List, [], ◌∷◌, ◌++◌, length, filter, map, set, sym, refl, ap, ◌∙◌, subst, inl, inr, ⊎_elim, append_assoc, arith, eq-eqb, le_refl}
use Rattle.std.proofs.lemmas.List.{append-nil, map-append}
use Rattle.std.proofs.lemmas.List.Elements.{filter-append}
use Rattle.std.proofs.lemmas.Bool.{cases_lt}
use Rattle.std.proofs.lemmas.Bool.Decides.{nat_tests}
use mathlib.Core.Option.{Option, none, some, some-ne-none}
use lib.ListN.{get_elem?}
use Rattle.crossbeam_queue.specs.Fifo.{Pushes, Pops, Forks, Merges, Learns}
use Rattle.crossbeam_queue.proofs.Lists.{at_set}
use Rattle.requests.specs.Tickets.{sessions, worn_limit, last_of, raise, tickets_after, Rises}
use Rattle.requests.specs.Requests.{asked_by}
use Rattle.requests.specs.declared.request.Request.{Request}
use Rattle.requests.proofs.TicketLemmas.{same_at, other_at, set_wide, rises_first, rises_next, either_same}
use Rattle.intake.specs.declared.queue.View.{View}
use Rattle.intake.specs.Turns.{of, last_or_start, idle, taker, opener, editor, taken, missed, both, IsSeat, FitsEditor, FitsTaker, AreWithin, KnowsAll, LacksEditor, LetsCount, Holds}

ne_test : (a b : ℕ) → a ≢ b → (a == b) ≡ false
ne_test a b n = grind (arith, nat_tests)

eq_test : (a b : ℕ) → a ≡ b → (a == b) ≡ true
eq_test a b e = eq-eqb a b e

-- what a session put, with one more request of its own
pub of_own : (rs : List Request) (r : Request) (s : ℕ) → r.session ≡ s → of s (rs ++ r ∷ []) ≡ of s rs ++ r ∷ []
of_own rs r s own =
    let t : (r.session == s) ≡ true = eq_test r.session s own in
    let one : filter (λ (x : Request). x.session == s) (r ∷ []) ≡ r ∷ [] = rw t in
    filter-append (λ (x : Request). x.session == s) rs (r ∷ []) ∙ ap (λ l. of s rs ++ l) one

-- and with one more of another
pub of_other : (rs : List Request) (r : Request) (s : ℕ) → r.session ≢ s → of s (rs ++ r ∷ []) ≡ of s rs
of_other rs r s other =
    let t : (r.session == s) ≡ false = ne_test r.session s other in
    let one : filter (λ (x : Request). x.session == s) (r ∷ []) ≡ [] = rw t in
    filter-append (λ (x : Request). x.session == s) rs (r ∷ []) ∙ (ap (λ l. of s rs ++ l) one ∙ append-nil (of s rs))

-- a list with one more stands as it did, or at its end
at_last : (l : List View) (a u : View) (j : ℕ) → get_elem? (l ++ a ∷ []) j ≡ some u → (get_elem? l j ≡ some u) ⊎ ((j ≡ length l) × (a ≡ u))
at_last [] a u zero e = inr (refl, cc)
at_last [] a u (suc j) e = absurd (some-ne-none u (sym e))
at_last (x ∷ xs) a u zero e = inl e
at_last (x ∷ xs) a u (suc j) e = ⊎_elim (λ p. inl p) (λ (t : (j ≡ length xs) × (a ≡ u)). inr (ap suc t.0, t.1)) (at_last xs a u j e)

-- ---- tickets

start_more : (start : ℕ) (r : Request) (rs : List Request) → last_or_start start (r ∷ rs) ≡ last_or_start r.ticket rs
start_more start r [] = refl
start_more start r (q ∷ rs) = start_more start q rs ∙ sym (start_more r.ticket q rs)

-- a session's last ticket is its last own request's, or its start
pub own_last : (ts : List ℕ) (rs : List Request) (s : ℕ) → s < length ts → last_of (tickets_after ts (map asked_by rs)) s ≡ last_or_start (last_of ts s) (of s rs)
own_last ts [] s within = refl
own_last ts (r ∷ rs) s within =
    let rest : last_of (tickets_after (raise ts (asked_by r)) (map asked_by rs)) s ≡ last_or_start (last_of (raise ts (asked_by r)) s) (of s rs) = own_last (raise ts (asked_by r)) rs s (let w = set_wide ts r.session r.ticket in omega (arith, w, within)) in
    ⊎_elim
    (λ (e : r.session ≡ s).
    let t : (r.session == s) ≡ true = eq_test r.session s e in
    let here : last_of (raise ts (asked_by r)) s ≡ r.ticket = ap (λ (k : ℕ). last_of (raise ts (asked_by r)) k) (sym e) ∙ same_at ts r.session r.ticket (omega (arith, e, within)) in
    let own : of s (r ∷ rs) ≡ r ∷ of s rs = ap (λ (b : Bool). cond b (r ∷ of s rs) (of s rs)) t in
    rest ∙ (ap (λ (n : ℕ). last_or_start n (of s rs)) here ∙ (sym (start_more (last_of ts s) r (of s rs)) ∙ ap (last_or_start (last_of ts s)) (sym own))))
    (λ (n : r.session ≡ s → ⊥).
    let t : (r.session == s) ≡ false = ne_test r.session s n in
    let here : last_of (raise ts (asked_by r)) s ≡ last_of ts s = other_at ts r.session s r.ticket (λ e. n (sym e)) in
    let own : of s (r ∷ rs) ≡ of s rs = ap (λ (b : Bool). cond b (r ∷ of s rs) (of s rs)) t in
    rest ∙ (ap (λ (n : ℕ). last_or_start n (of s rs)) here ∙ ap (last_or_start (last_of ts s)) (sym own)))
    (either_same r.session s)

-- one request more rises where its ticket is above its session's last one
pub asks_next : (ts : List ℕ) (rs : List Request) (r : Request) → Rises ts (map asked_by rs) → r.session < sessions → r.session < length ts → last_or_start (last_of ts r.session) (of r.session rs) < r.ticket → Rises ts (map asked_by (rs ++ r ∷ []))
asks_next ts rs r rises there within above =
    subst (Rises ts) (sym (map-append asked_by rs (r ∷ []))) (rises_next ts (map asked_by rs) r.session r.ticket rises there (let e = own_last ts rs r.session within in omega (arith, e, above)))

-- the first requests rise where all do
pub asks_first : (ts : List ℕ) (xs ys : List Request) → Rises ts (map asked_by (xs ++ ys)) → Rises ts (map asked_by xs)
asks_first ts xs ys rises = rises_first ts (map asked_by xs) (map asked_by ys) (subst (Rises ts) (map-append asked_by xs ys) rises)

-- one request more within the limit
within_more : (rs : List Request) (r : Request) → AreWithin rs → r.ticket ≤ worn_limit → AreWithin (rs ++ r ∷ [])
within_more [] r all here = (here, tt)
within_more (q ∷ rs) r all here = (all.0, within_more rs r all.1 here)

-- the one behind some is within it too
within_next : (rs : List Request) (r : Request) (items : List Request) → AreWithin (rs ++ r ∷ items) → r.ticket ≤ worn_limit
within_next [] r items all = all.0
within_next (q ∷ rs) r items all = within_next rs r items all.1

-- where no session has a request there is none
none_asked : (rs : List Request) → ((s : ℕ) → of s rs ≡ []) → rs ≡ []
none_asked [] h = refl
none_asked (r ∷ rs) h =
    let t : (r.session == r.session) ≡ true = eq_test r.session r.session refl in
    let own : of r.session (r ∷ rs) ≡ r ∷ of r.session rs = ap (λ (b : Bool). cond b (r ∷ of r.session rs) (of r.session rs)) t in
    absurd (let e = h r.session in let f : r ∷ of r.session rs ≡ [] = sym own ∙ e in cc)

-- ---- the passes

abbrev Fits : ℕ → List ℕ → (ℕ → Option ℕ) → List Request → List Request → ℕ → View → Type 0
Fits reader starts seat got all pass v = FitsEditor starts seat all pass v × FitsTaker reader starts seat got all pass v

abbrev All : (ℕ → View → Type 0) → List View → Type 0
All F views = (pass : ℕ) (v : View) → get_elem? views pass ≡ some v → F pass v

all_set : (F : ℕ → View → Type 0) (views : List View) (pass : ℕ) (w : View) → F pass w → ((j : ℕ) (u : View) → j ≢ pass → get_elem? views j ≡ some u → F j u) → All F (set views pass w)
all_set F views pass w mine others j u e = ⊎_elim (λ (x : (j ≡ pass) × (w ≡ u)). subst (λ (y : ℕ × View). F y.0 y.1) (λ i. (sym x.0 i, x.1 i)) mine)
    (λ (x : (j ≢ pass) × (get_elem? views j ≡ some u)). others j u x.0 x.1) (at_set views pass j w u e)

-- an editor's fact, and the taker's, along an equation between the lists of all requests
along : (reader : ℕ) (starts : List ℕ) (seat : ℕ → Option ℕ) (got xs ys : List Request) (pass : ℕ) (v : View) → xs ≡ ys → Fits reader starts seat got xs pass v → Fits reader starts seat got ys pass v
along reader starts seat got xs ys pass v e f = subst (λ (l : List Request). Fits reader starts seat got l pass v) e f

pub puts : (n pass : ℕ) (v : View) (r : Request) → v.sends ≡ true → r.session ≡ v.session → last_or_start v.start v.put < r.ticket → r.ticket ≤ worn_limit → Pushes Holds n pass v r (λ w. w ≡ editor v.session v.start (v.put ++ r ∷ []))
puts n pass v r sends own ticket fits items views _ h at =
    let w : View = editor v.session v.start (v.put ++ r ∷ []) in
    let all = h.3 ++ items in
    let same : all ++ r ∷ [] ≡ h.3 ++ (items ++ r ∷ []) = append_assoc h.3 items (r ∷ []) in
    let mine = (h.4 pass v at).0 sends in
    let grown : v.put ++ r ∷ [] ≡ of v.session (all ++ r ∷ []) = ap (λ l. l ++ r ∷ []) mine.1 ∙ sym (of_own all r v.session own) in
    let here : Fits h.0 h.1 h.2 h.3 (all ++ r ∷ []) pass w = ((λ _. (mine.0, grown, mine.2)), λ t. absurd (true≢false (sym t))) in
    let there : (j : ℕ) (u : View) → j ≢ pass → get_elem? views j ≡ some u → Fits h.0 h.1 h.2 h.3 (all ++ r ∷ []) j u = λ j u away e. (
      (λ s. let f = (h.4 j u e).0 s in
          (f.0, f.1 ∙ sym (of_other all r u.session (λ (x : r.session ≡ u.session). away (let k : some j ≡ some pass = sym f.0 ∙ (ap h.2 (sym x ∙ own) ∙ mine.0) in cc))), f.2)),
      λ t. let f = (h.4 j u e).1 t in
          (f.0, f.1, f.2, λ s le. let g = f.3 s le in (g.0, of_other all r s (λ (x : r.session ≡ s). some-ne-none pass (sym mine.0 ∙ (ap h.2 (sym own ∙ x) ∙ g.0))) ∙ g.1)),
    ) in
    let last : last_or_start (last_of h.1 r.session) (of r.session all) ≡ last_or_start v.start v.put = ap (λ (s : ℕ). last_or_start (last_of h.1 s) (of s all)) own ∙ (ap (λ (n : ℕ). last_or_start n (of v.session all)) (sym mine.2.1.1) ∙ ap (last_or_start v.start) (sym mine.1)) in
    let seat = mine.2 in (
      w,
      (
        h.0,
        h.1,
        h.2,
        h.3,
        all_set (Fits h.0 h.1 h.2 h.3 (h.3 ++ (items ++ r ∷ []))) views pass w (along h.0 h.1 h.2 h.3 (all ++ r ∷ []) (h.3 ++ (items ++ r ∷ [])) pass w same here)
            (λ j u away e. along h.0 h.1 h.2 h.3 (all ++ r ∷ []) (h.3 ++ (items ++ r ∷ [])) j u same (there j u away e)),
        subst (λ (l : List Request). Rises h.1 (map asked_by l)) same (asks_next h.1 all r h.5 (omega (arith, own, seat.0)) (omega (arith, own, seat.1.0)) (omega (arith, last, ticket))),
        subst AreWithin same (within_more all r h.6 fits),
      ),
      refl,
    )

pub takes : (pass : ℕ) (v : View) → v.takes ≡ true → Pops Holds pass v (λ r w. (w ≡ taken v r) × Rises w.starts (map asked_by w.got) × (r.ticket ≤ worn_limit) × ((waits : List Request) × KnowsAll w (w.got ++ waits)))
takes pass v may r items views h at =
    let w : View = taken v r in
    let got = h.3 ++ r ∷ [] in
    let same : h.3 ++ r ∷ items ≡ got ++ items = sym (append_assoc h.3 (r ∷ []) items) in
    let mine = (h.4 pass v at).1 may in
    let here : Fits h.0 h.1 h.2 got (h.3 ++ r ∷ items) pass w = ((h.4 pass v at).0, λ _. (mine.0, ap (λ l. l ++ r ∷ []) mine.1, mine.2, mine.3)) in
    let there : (j : ℕ) (u : View) → j ≢ pass → get_elem? views j ≡ some u → Fits h.0 h.1 h.2 got (h.3 ++ r ∷ items) j u =
    λ j u away e. ((h.4 j u e).0, λ t. absurd (away (((h.4 j u e).1 t).0 ∙ sym mine.0))) in
    let rises : Rises h.1 (map asked_by (got ++ items)) = subst (λ (l : List Request). Rises h.1 (map asked_by l)) same h.5 in
    let whole : h.3 ++ r ∷ items ≡ w.got ++ items = same ∙ ap (λ l. (l ++ r ∷ []) ++ items) (sym mine.1) in
    let none : (s : ℕ) → LacksEditor v.first v.made s → of s (w.got ++ items) ≡ [] = λ s lacks. sym (ap (of s) whole) ∙ (mine.3 s lacks).1 in
    let known : KnowsAll w (w.got ++ items) = (((λ sends. ((h.4 pass v at).0 sends).1 ∙ ap (of v.session) whole), λ s less. none s (inl less)), λ s le. none s (inr le)) in (
      w,
      (
        h.0,
        h.1,
        h.2,
        got,
        all_set (Fits h.0 h.1 h.2 got (got ++ items)) views pass w (along h.0 h.1 h.2 got (h.3 ++ r ∷ items) (got ++ items) pass w same here)
            (λ j u away e. along h.0 h.1 h.2 got (h.3 ++ r ∷ items) (got ++ items) j u same (there j u away e)),
        rises,
        subst AreWithin same h.6,
      ),
      (
        refl,
        subst (λ (l : List Request). Rises v.starts (map asked_by l)) (ap (λ l. l ++ r ∷ []) (sym mine.1)) (subst (λ (ts : List ℕ). Rises ts (map asked_by got)) (sym mine.2) (asks_first h.1 got items rises)),
        within_next h.3 r items h.6,
        (items, known),
      ),
    )

abbrev seated : (ℕ → Option ℕ) → ℕ → ℕ → ℕ → Option ℕ
seated seat made n s = cond (s == made) (some n) (seat s)

seated_new : (seat : ℕ → Option ℕ) (made n : ℕ) → seated seat made n made ≡ some n
seated_new seat made n = let t : (made == made) ≡ true = eq_test made made refl in rw t

seated_old : (seat : ℕ → Option ℕ) (made n s : ℕ) → s ≢ made → seated seat made n s ≡ seat s
seated_old seat made n s other = let t : (s == made) ≡ false = ne_test s made other in rw t

-- a session that lacks an editor behind the next one's lacked it before, and isn't the next one
lacks_before : (first made s : ℕ) → LacksEditor first (made + 1) s → LacksEditor first made s
lacks_before first made s lacks = ⊎_elim (λ (less : s < first). inl less) (λ (le : made + 1 ≤ s). inr (omega (arith, le))) lacks

lacks_other : (first made s : ℕ) → first ≤ made → LacksEditor first (made + 1) s → s ≢ made
lacks_other first made s ordered lacks is = ⊎_elim (λ (less : s < first). omega (arith, ordered, less, is)) (λ (le : made + 1 ≤ s). omega (arith, le, is)) lacks

pub seats : (pass : ℕ) (v : View) → v.takes ≡ true → v.first ≤ v.made → v.made < sessions → v.made < length v.starts → Forks Holds pass v (taker v.first (v.made + 1) v.starts v.got) (editor v.made (last_of v.starts v.made) [])
seats pass v may ordered there_is within items views h at =
    let l : View = taker v.first (v.made + 1) v.starts v.got in
    let e' : View = editor v.made (last_of v.starts v.made) [] in
    let vs = set views pass l in
    let n = length vs in
    let all = h.3 ++ items in
    let seat : ℕ → Option ℕ = seated h.2 v.made n in
    let mine = (h.4 pass v at).1 may in
    let free = mine.3 v.made (inr (le_refl v.made)) in
    let sits : IsSeat h.1 e' = (there_is, (subst (λ (ts : List ℕ). v.made < length ts) mine.2 within, ap (λ (ts : List ℕ). last_of ts v.made) mine.2)) in
    let here : Fits h.0 h.1 seat h.3 all pass l = (
      (λ s. absurd (true≢false (sym s))),
      λ _. (mine.0, mine.1, mine.2, λ s lacks. let g = mine.3 s (lacks_before v.first v.made s lacks) in (seated_old h.2 v.made n s (lacks_other v.first v.made s ordered lacks) ∙ g.0, g.1)),
    ) in
    let there : (j : ℕ) (u : View) → j ≢ pass → get_elem? views j ≡ some u → Fits h.0 h.1 seat h.3 all j u = λ j u away e. (
      (λ s. let f = (h.4 j u e).0 s in (seated_old h.2 v.made n u.session (λ (x : u.session ≡ v.made). some-ne-none j (sym f.0 ∙ (ap h.2 x ∙ free.0))) ∙ f.0, f.1, f.2)),
      λ t. absurd (away (((h.4 j u e).1 t).0 ∙ sym mine.0)),
    ) in
    let old : All (Fits h.0 h.1 seat h.3 all) vs = all_set (Fits h.0 h.1 seat h.3 all) views pass l here there in (
      h.0,
      h.1,
      seat,
      h.3,
      λ j u e. ⊎_elim (old j u)
          (λ (t : (j ≡ length vs) × (e' ≡ u)). subst (λ (y : ℕ × View). Fits h.0 h.1 seat h.3 all y.0 y.1) (λ i. (sym t.0 i, t.1 i)) ((λ _. (seated_new h.2 v.made n, sym free.1, sits)), λ x. absurd (true≢false (sym x))))
          (at_last vs e' u j e),
      h.5,
      h.6,
    )

begins_at : (pass : ℕ) (v : View) → get_elem? (opener [] 0 ∷ []) pass ≡ some v → Fits 0 [] (λ s. none) [] ([] ++ []) pass v
begins_at zero v at = let is : opener [] 0 ≡ v = cc in subst (λ (u : View). Fits 0 [] (λ s. none) [] ([] ++ []) 0 u) is ((λ s. absurd (true≢false (sym s))), λ _. (refl, refl, refl, λ s le. (refl, refl)))
begins_at (suc j) v at = absurd (some-ne-none v (sym at))

pub begins : Holds [] (opener [] 0 ∷ [])
begins = (0, [], (λ s. none), [], (λ pass v at. begins_at pass v at), tt, tt)

-- before there is an editor, the next session may be left without one
pub skips : (pass : ℕ) (v : View) → v.takes ≡ true → v.first ≡ v.made → Forks Holds pass v (taker (v.made + 1) (v.made + 1) v.starts v.got) idle
skips pass v may none_made items views h at =
    let l : View = taker (v.made + 1) (v.made + 1) v.starts v.got in
    let vs = set views pass l in
    let all = h.3 ++ items in
    let mine = (h.4 pass v at).1 may in
    let free : (s : ℕ) → (h.2 s ≡ none) × (of s all ≡ []) = λ s. mine.3 s (⊎_elim (λ (less : s < v.made). inl (omega (arith, less, none_made))) (λ (le : v.made ≤ s). inr le) (cases_lt s v.made)) in
    let here : Fits h.0 h.1 h.2 h.3 all pass l = ((λ s. absurd (true≢false (sym s))), λ _. (mine.0, mine.1, mine.2, λ s lacks. free s)) in
    let there : (j : ℕ) (u : View) → j ≢ pass → get_elem? views j ≡ some u → Fits h.0 h.1 h.2 h.3 all j u = λ j u away e. h.4 j u e in
    let old : All (Fits h.0 h.1 h.2 h.3 all) vs = all_set (Fits h.0 h.1 h.2 h.3 all) views pass l here there in (
      h.0,
      h.1,
      h.2,
      h.3,
      (λ j u e. ⊎_elim (old j u)
          (λ (t : (j ≡ length vs) × (idle ≡ u)). subst (λ (y : View). Fits h.0 h.1 h.2 h.3 all j y) t.1 ((λ s. absurd (true≢false (sym s))), λ x. absurd (true≢false (sym x))))
          (at_last vs idle u j e)),
      h.5,
      h.6,
    )

-- before there is an editor, the starts may still be told
pub tells : (pass : ℕ) (v : View) (starts : List ℕ) (next : ℕ) → v.takes ≡ true → v.made ≡ 0 → v.got ≡ [] → Forks Holds pass v (opener starts next) idle
tells pass v starts next may none_made none_got items views h at =
    let l : View = opener starts next in
    let vs = set views pass l in
    let all = h.3 ++ items in
    let mine = (h.4 pass v at).1 may in
    let free : (s : ℕ) → (h.2 s ≡ none) × (of s all ≡ []) = λ s. mine.3 s (inr (omega (arith, none_made))) in
    let empty : all ≡ [] = none_asked all (λ s. (free s).1) in
    let here : Fits h.0 starts h.2 h.3 all pass l = (
      (λ s. absurd (true≢false (sym s))),
      λ _. (mine.0, sym none_got ∙ mine.1, refl, λ s le. free s),
    ) in
    let there : (j : ℕ) (u : View) → j ≢ pass → get_elem? views j ≡ some u → Fits h.0 starts h.2 h.3 all j u = λ j u away e. (
      (λ s. let f = (h.4 j u e).0 s in absurd (some-ne-none j (sym f.0 ∙ (free u.session).0))),
      λ t. absurd (away (((h.4 j u e).1 t).0 ∙ sym mine.0)),
    ) in
    let old : All (Fits h.0 starts h.2 h.3 all) vs = all_set (Fits h.0 starts h.2 h.3 all) views pass l here there in (
      h.0,
      starts,
      h.2,
      h.3,
      (λ j u e. ⊎_elim (old j u)
          (λ (t : (j ≡ length vs) × (idle ≡ u)). subst (λ (y : View). Fits h.0 starts h.2 h.3 all j y) t.1 ((λ s. absurd (true≢false (sym s))), λ x. absurd (true≢false (sym x))))
          (at_last vs idle u j e)),
      subst (λ (l : List Request). Rises starts (map asked_by l)) (sym empty) tt,
      subst AreWithin (sym empty) tt,
    )

pub merges : (pass : ℕ) (v : View) (other : ℕ) (u : View) → v.takes ≡ true → u.sends ≡ true → Merges Holds pass v other u (both v u) idle
merges pass v other u may is items views h at two at' =
    let w : View = both v u in
    let all = h.3 ++ items in
    let was : get_elem? views other ≡ some u = ⊎_elim (λ (x : (other ≡ pass) × (w ≡ u)). absurd (two x.0)) (λ (x : (other ≢ pass) × (get_elem? views other ≡ some u)). x.1) (at_set views pass other w u at') in
    let theirs = (h.4 other u was).0 is in
    let mine = (h.4 pass v at).1 may in
    let seat : ℕ → Option ℕ = seated h.2 u.session pass in
    let here : Fits h.0 h.1 seat h.3 all pass w = (
      (λ _. (seated_new h.2 u.session pass, theirs.1, theirs.2)),
      λ _. (mine.0, mine.1, mine.2, λ s le. let g = mine.3 s le in (seated_old h.2 u.session pass s (λ (x : s ≡ u.session). some-ne-none other (sym theirs.0 ∙ (ap h.2 (sym x) ∙ g.0))) ∙ g.0, g.1)),
    ) in
    let Now : ℕ → View → Type 0 = λ j y. j ≢ other → Fits h.0 h.1 seat h.3 all j y in
    let now : All Now (set views pass w) = all_set Now views pass w (λ _. here) (λ j y away e apart. (
      (λ s. let f = (h.4 j y e).0 s in (seated_old h.2 u.session pass y.session (λ (x : y.session ≡ u.session). apart (let k : some j ≡ some other = sym f.0 ∙ (ap h.2 x ∙ theirs.0) in cc)) ∙ f.0, f.1, f.2)),
      λ t. absurd (away (((h.4 j y e).1 t).0 ∙ sym mine.0)),
    )) in
    (h.0, h.1, seat, h.3, all_set (Fits h.0 h.1 seat h.3 all) (set views pass w) other idle ((λ s. absurd (true≢false (sym s))), λ t. absurd (true≢false (sym t))) (λ j y apart e. now j y e apart), h.5, h.6)

pub compares : (pass : ℕ) (v : View) → v.sends ≡ true → v.takes ≡ true → Learns Holds pass v (λ items. v.put ≡ of v.session (v.got ++ items))
compares pass v a b items views h at =
    let f = h.4 pass v at in
    (f.0 a).1 ∙ ap (λ l. of v.session (l ++ items)) (sym (f.1 b).1)

-- the taker knows that all that was put is what was taken and what waits
pub knows : (pass : ℕ) (v : View) → v.takes ≡ true → Learns Holds pass v (λ items. KnowsAll v (v.got ++ items))
knows pass v may items views h at =
    let f = (h.4 pass v at).1 may in
    let none : (s : ℕ) → LacksEditor v.first v.made s → of s (v.got ++ items) ≡ [] = λ s lacks. ap (λ l. of s (l ++ items)) f.1 ∙ (f.3 s lacks).1 in
    (((λ sends. compares pass v sends may items views h at), λ s less. none s (inl less)), λ s le. none s (inr le))

-- an editor's requests are among what was taken and what waits
pub waits : (pass : ℕ) (v : View) → v.sends ≡ true → Learns Holds pass v (λ items. (got : List Request) × (v.put ≡ of v.session (got ++ items)))
waits pass v sends items views h at = (h.3, ((h.4 pass v at).0 sends).1)

-- what of a pass decides whether it fits is as it was
stays : (pass : ℕ) (v l : View) → ((reader : ℕ) (starts : List ℕ) (seat : ℕ → Option ℕ) (got all : List Request) → Fits reader starts seat got all pass v → Fits reader starts seat got all pass l) → Forks Holds pass v l idle
stays pass v l fits items views h at =
    let vs = set views pass l in
    let all = h.3 ++ items in
    let old : All (Fits h.0 h.1 h.2 h.3 all) vs = all_set (Fits h.0 h.1 h.2 h.3 all) views pass l (fits h.0 h.1 h.2 h.3 all (h.4 pass v at)) (λ j u away e. h.4 j u e) in (
      h.0,
      h.1,
      h.2,
      h.3,
      (λ j u e. ⊎_elim (old j u)
          (λ (t : (j ≡ length vs) × (idle ≡ u)). subst (λ (y : View). Fits h.0 h.1 h.2 h.3 all j y) t.1 ((λ s. absurd (true≢false (sym s))), λ x. absurd (true≢false (sym x))))
          (at_last vs idle u j e)),
      h.5,
      h.6,
    )

-- the rule says nothing of a count
pub counts : LetsCount Holds
counts pass v = (stays pass v v (λ reader starts seat got all f. f), stays pass v (missed v) (λ reader starts seat got all f. f))
