-- Tickets that rise.
use Rattle.std.proofs.Common.{◌≡◌, ◌⊎◌, inl, inr, ⊎_elim, ◌<◌, ◌≤◌, ◌+◌, ◌==◌, ◌&&◌, cond, nat_le, ℕ, zero, suc, Bool, true, false, List, [], ◌∷◌, ◌++◌, length, take, drop, set, refl, sym, ap, ◌∙◌, subst, arith, eq-eqb}
use Rattle.std.proofs.lemmas.Bool.{eqb-true}
use Rattle.std.proofs.lemmas.Bool.Decides.{nat_tests}
use Rattle.std.proofs.lemmas.List.{take-append-drop}
use Rattle.std.specs.Coded.{Unit-prop, le_prop}
use Rattle.requests.specs.Tickets.{sessions, last_of, raise, tickets_after, Rises, times, IsLast, NoneOf}

-- ---- one place of the last tickets

pub same_at : (ts : List ℕ) (i v : ℕ) → i < length ts → last_of (set ts i v) i ≡ v
same_at [] i v h = absurd (omega arith)
same_at (x ∷ ts) zero v h = refl
same_at (x ∷ ts) (suc i) v h = same_at ts i v (omega arith)

pub other_at : (ts : List ℕ) (i j v : ℕ) → (j ≡ i → ⊥) → last_of (set ts i v) j ≡ last_of ts j
other_at [] i j v h = refl
other_at (x ∷ ts) zero zero v h = absurd (h refl)
other_at (x ∷ ts) zero (suc j) v h = refl
other_at (x ∷ ts) (suc i) zero v h = refl
other_at (x ∷ ts) (suc i) (suc j) v h = other_at ts i j v (λ e. h (ap suc e))

pub set_wide : (ts : List ℕ) (i v : ℕ) → length (set ts i v) ≡ length ts
set_wide [] i v = refl
set_wide (x ∷ ts) zero v = refl
set_wide (x ∷ ts) (suc i) v = ap suc (set_wide ts i v)

pub raise_wide : (ts : List ℕ) (r : ℕ × ℕ) → length ts ≡ sessions → length (raise ts r) ≡ sessions
raise_wide ts r wide = set_wide ts r.0 r.1 ∙ wide

pub after_wide : (ts : List ℕ) (rs : List (ℕ × ℕ)) → length ts ≡ sessions → length (tickets_after ts rs) ≡ sessions
after_wide ts [] wide = wide
after_wide ts (r ∷ rs) wide = after_wide (raise ts r) rs (raise_wide ts r wide)

pub either_same : (i j : ℕ) → (i ≡ j) ⊎ (i ≡ j → ⊥)
either_same i j = by (i == j) refl
  where
    by : (b : Bool) → (i == j) ≡ b → (i ≡ j) ⊎ (i ≡ j → ⊥)
    by true e = inl (eqb-true i j e)
    by false e = inr (λ h. (let f = eq-eqb i j h in let g : true ≡ false = sym f ∙ e in cc))

pub either_way : (a b : ℕ) → (a ≤ b) ⊎ (b < a)
either_way a b = by (nat_le a b) refl
  where
    by : (t : Bool) → nat_le a b ≡ t → (a ≤ b) ⊎ (b < a)
    by true e = inl (grind (arith, nat_tests))
    by false e = inr (grind (arith, nat_tests))

-- the session's own last ticket after a raise
pub raised : (ts : List ℕ) (r : ℕ × ℕ) (s : ℕ) → length ts ≡ sessions → r.0 < sessions → r.0 ≡ s → last_of (raise ts r) s ≡ r.1
raised ts r s wide h e = ap (λ (k : ℕ). last_of (raise ts r) k) (sym e) ∙ same_at ts r.0 r.1 (omega (arith, wide, h))

pub raise_above : (ts : List ℕ) (r : ℕ × ℕ) (s : ℕ) → length ts ≡ sessions → r.0 < sessions → last_of ts r.0 < r.1 → last_of ts s ≤ last_of (raise ts r) s
raise_above ts r s wide h lt = ⊎_elim
    (λ e. (let a = raised ts r s wide h e in let b : last_of ts r.0 ≡ last_of ts s = ap (last_of ts) e in omega (arith, a, b, lt)))
    (λ n. (let a = other_at ts r.0 s r.1 (λ e. n (sym e)) in omega (arith, a)))
    (either_same r.0 s)

-- ---- how often a ticket stands in a list

abbrev test : ℕ × ℕ → ℕ → ℕ → Bool
test r s t = r.0 == s && r.1 == t

pub is_it : (r : ℕ × ℕ) (s t : ℕ) → ((r.0 ≡ s) × ((r.1 ≡ t) × (test r s t ≡ true))) ⊎ ((r.0 ≡ s → r.1 ≡ t → ⊥) × (test r s t ≡ false))
is_it r s t = by (test r s t) refl
  where
    by : (b : Bool) → test r s t ≡ b → ((r.0 ≡ s) × ((r.1 ≡ t) × (test r s t ≡ true))) ⊎ ((r.0 ≡ s → r.1 ≡ t → ⊥) × (test r s t ≡ false))
    by true e = inl (grind (arith, nat_tests), (grind (arith, nat_tests), e))
    by false e = inr ((λ a b. grind (arith, nat_tests)), e)

times_yes : (r : ℕ × ℕ) (rs : List (ℕ × ℕ)) (s t : ℕ) → test r s t ≡ true → times s t (r ∷ rs) ≡ 1 + times s t rs
times_yes r rs s t e = ap (λ (b : Bool). cond b (1 + times s t rs) (times s t rs)) e

times_no : (r : ℕ × ℕ) (rs : List (ℕ × ℕ)) (s t : ℕ) → test r s t ≡ false → times s t (r ∷ rs) ≡ times s t rs
times_no r rs s t e = ap (λ (b : Bool). cond b (1 + times s t rs) (times s t rs)) e

pub times_append : (s t : ℕ) (xs ys : List (ℕ × ℕ)) → times s t (xs ++ ys) ≡ times s t xs + times s t ys
times_append s t [] ys = omega arith
times_append s t (r ∷ xs) ys = by (test r s t) (times_append s t xs ys)
  where
    by : (b : Bool) → times s t (xs ++ ys) ≡ times s t xs + times s t ys → cond b (1 + times s t (xs ++ ys)) (times s t (xs ++ ys)) ≡ cond b (1 + times s t xs) (times s t xs) + times s t ys
    by true ih = omega (arith, ih)
    by false ih = ih

pub times_none : (s t : ℕ) (rs : List (ℕ × ℕ)) → length rs ≡ 0 → times s t rs ≡ 0
times_none s t [] e = refl
times_none s t (r ∷ rs) e = absurd (omega (arith, e))

pub none_below : (ts : List ℕ) (rs : List (ℕ × ℕ)) (s t : ℕ) → length ts ≡ sessions → Rises ts rs → t ≤ last_of ts s → times s t rs ≡ 0
none_below ts [] s t wide h le = refl
none_below ts (r ∷ rs) s t wide h le =
    let ih = none_below (raise ts r) rs s t (raise_wide ts r wide) h.2 in
    let up = raise_above ts r s wide h.0 h.1 in
    ⊎_elim
    (λ y. absurd (let e : last_of ts r.0 ≡ last_of ts s = ap (last_of ts) y.0 in let lt = h.1 in omega (arith, lt, y.1.0, e, le)))
    (λ n. times_no r rs s t n.1 ∙ ih (omega (arith, le, up)))
    (is_it r s t)

pub at_most : (ts : List ℕ) (rs : List (ℕ × ℕ)) (s t : ℕ) → length ts ≡ sessions → Rises ts rs → times s t rs ≤ 1
at_most ts [] s t wide h = omega arith
at_most ts (r ∷ rs) s t wide h =
    let ih = at_most (raise ts r) rs s t (raise_wide ts r wide) h.2 in
    let none = none_below (raise ts r) rs s t (raise_wide ts r wide) h.2 in
    ⊎_elim
    (λ y. (let a = raised ts r s wide h.0 y.0 in let b = none (omega (arith, a, y.1.0)) in let c = times_yes r rs s t y.1.1 in omega (arith, b, c)))
    (λ n. (let c = times_no r rs s t n.1 in omega (arith, ih, c)))
    (is_it r s t)

pub above : (ts : List ℕ) (rs : List (ℕ × ℕ)) (s t : ℕ) → length ts ≡ sessions → Rises ts rs → 0 < times s t rs → last_of ts s < t
above ts rs s t wide h some = ⊎_elim (λ le. absurd (let e = none_below ts rs s t wide h le in omega (arith, e, some))) (λ lt. lt) (either_way t (last_of ts s))

-- ---- lists in parts

pub after_append : (ts : List ℕ) (xs ys : List (ℕ × ℕ)) → tickets_after ts (xs ++ ys) ≡ tickets_after (tickets_after ts xs) ys
after_append ts [] ys = refl
after_append ts (r ∷ xs) ys = after_append (raise ts r) xs ys

pub rises_first : (ts : List ℕ) (xs ys : List (ℕ × ℕ)) → Rises ts (xs ++ ys) → Rises ts xs
rises_first ts [] ys h = tt
rises_first ts (r ∷ xs) ys h = (h.0, h.1, rises_first (raise ts r) xs ys h.2)

pub rises_both : (ts : List ℕ) (xs ys : List (ℕ × ℕ)) → Rises ts xs → Rises (tickets_after ts xs) ys → Rises ts (xs ++ ys)
rises_both ts [] ys a b = b
rises_both ts (r ∷ xs) ys a b = (a.0, a.1, rises_both (raise ts r) xs ys a.2 b)

pub rises_take : (ts : List ℕ) (n : ℕ) (rs : List (ℕ × ℕ)) → Rises ts rs → Rises ts (take n rs)
rises_take ts n rs h = rises_first ts (take n rs) (drop n rs) (subst (λ (l : List (ℕ × ℕ)). Rises ts l) (sym (take-append-drop n rs)) h)

-- ---- the last ticket is the greatest

pub no_less : (ts : List ℕ) (rs : List (ℕ × ℕ)) (s : ℕ) → length ts ≡ sessions → Rises ts rs → last_of ts s ≤ last_of (tickets_after ts rs) s
no_less ts [] s wide h = omega arith
no_less ts (r ∷ rs) s wide h =
    let ih = no_less (raise ts r) rs s (raise_wide ts r wide) h.2 in
    let up = raise_above ts r s wide h.0 h.1 in
    omega (arith, ih, up)

pub greatest : (ts : List ℕ) (rs : List (ℕ × ℕ)) (s t : ℕ) → length ts ≡ sessions → Rises ts rs → 0 < times s t rs → t ≤ last_of (tickets_after ts rs) s
greatest ts [] s t wide h some = absurd (omega (arith, some))
greatest ts (r ∷ rs) s t wide h some =
    let ih = greatest (raise ts r) rs s t (raise_wide ts r wide) h.2 in
    let low = no_less (raise ts r) rs s (raise_wide ts r wide) h.2 in
    ⊎_elim
    (λ y. (let a = raised ts r s wide h.0 y.0 in omega (arith, a, y.1.0, low)))
    (λ n. ih (let c = times_no r rs s t n.1 in omega (arith, c, some)))
    (is_it r s t)

pub there : (ts : List ℕ) (rs : List (ℕ × ℕ)) (s : ℕ) → length ts ≡ sessions → Rises ts rs → last_of ts s < last_of (tickets_after ts rs) s → 0 < times s (last_of (tickets_after ts rs) s) rs
there ts [] s wide h lt = absurd (omega (arith, lt))
there ts (r ∷ rs) s wide h lt =
    let last = last_of (tickets_after (raise ts r) rs) s in
    let ih = there (raise ts r) rs s (raise_wide ts r wide) h.2 in
    let low = no_less (raise ts r) rs s (raise_wide ts r wide) h.2 in
    ⊎_elim
    (λ le.
    let same : last_of (raise ts r) s ≡ last = omega (arith, le, low) in
    ⊎_elim
    (λ y. (let c = times_yes r rs s last y.1.1 in omega (arith, c)))
    (λ n. ⊎_elim
    (λ e. absurd (n.0 e (sym (raised ts r s wide h.0 e) ∙ same)))
    (λ d. absurd (let k = other_at ts r.0 s r.1 (λ e. d (sym e)) in omega (arith, k, same, lt)))
    (either_same r.0 s))
    (is_it r s last))
    (λ up.
    let k = ih up in
    ⊎_elim (λ y. (let c = times_yes r rs s last y.1.1 in omega (arith, c))) (λ n. (let c = times_no r rs s last n.1 in omega (arith, c, k))) (is_it r s last))
    (either_way last (last_of (raise ts r) s))

pub last_is : (ts : List ℕ) (rs : List (ℕ × ℕ)) (s : ℕ) → length ts ≡ sessions → Rises ts rs → IsLast ts rs s (last_of (tickets_after ts rs) s)
last_is ts rs s wide h = record { no_less = no_less ts rs s wide h; greatest = λ t some. greatest ts rs s t wide h some; there = λ lt. there ts rs s wide h lt }

pub rises_rest : (ts : List ℕ) (xs ys : List (ℕ × ℕ)) → Rises ts (xs ++ ys) → Rises (tickets_after ts xs) ys
rises_rest ts [] ys h = h
rises_rest ts (r ∷ xs) ys h = rises_rest (raise ts r) xs ys h.2

-- ---- none is of this session

pub none_of : (ts : List ℕ) (rs : List (ℕ × ℕ)) (s : ℕ) → length ts ≡ sessions → Rises ts rs → last_of (tickets_after ts rs) s ≤ last_of ts s → NoneOf s rs
none_of ts [] s wide h le = tt
none_of ts (r ∷ rs) s wide h le =
    let low = no_less (raise ts r) rs s (raise_wide ts r wide) h.2 in
    let lt = h.1 in
    let other : r.0 ≡ s → ⊥ = λ e. (let a = raised ts r s wide h.0 e in let b : last_of ts r.0 ≡ last_of ts s = ap (last_of ts) e in absurd (omega (arith, a, b, lt, low, le))) in
    let same = other_at ts r.0 s r.1 (λ e. other (sym e)) in
    (other, none_of (raise ts r) rs s (raise_wide ts r wide) h.2 (omega (arith, same, le)))

-- pairs leave as many last tickets as there were
pub stays_wide : (ts : List ℕ) (rs : List (ℕ × ℕ)) → length (tickets_after ts rs) ≡ length ts
stays_wide ts [] = refl
stays_wide ts (r ∷ rs) = stays_wide (raise ts r) rs ∙ set_wide ts r.0 r.1

-- one pair more
pub rises_next : (ts : List ℕ) (rs : List (ℕ × ℕ)) (s t : ℕ) → Rises ts rs → s < sessions → last_of (tickets_after ts rs) s < t → Rises ts (rs ++ (s, t) ∷ [])
rises_next ts rs s t h within above = rises_both ts rs ((s, t) ∷ []) h (within, above, tt)

-- that pairs rise is one fact
pub rises_prop : (tickets : List ℕ) (pairs : List (ℕ × ℕ)) → IsProp (Rises tickets pairs)
rises_prop tickets [] = Unit-prop
rises_prop tickets (p ∷ ps) =
    let there : IsProp (p.0 < sessions) = le_prop in
    let above : IsProp (last_of tickets p.0 < p.1) = le_prop in
    λ x y i. (there x.0 y.0 i, above x.1 y.1 i, rises_prop (raise tickets p) ps x.2 y.2 i)
