-- Lists that are cut off, and counts that end at a greatest number.
use Rattle.std.proofs.Common.{arith, ◌≡◌, ◌∙◌, refl, sym, ap, ℕ, zero, suc, ◌+◌, ◌-◌, ◌<◌, ◌^◌, List, [], ◌∷◌, ◌++◌, append_assoc, drop, get_or, length, length-append, min, take}
use Rattle.std.specs.List.{fold}
use Rattle.std.proofs.lemmas.List.{drop_more}
use Rattle.std.proofs.lemmas.List.FromFn.{length-map-range_with_len}
use Rattle.crash_trials.specs.declared.stops.Call.{Call}
use Rattle.crash_trials.specs.declared.stops.Stop.{Stop}
use Rattle.crash_trials.specs.Stops.{bytes_of, stop, stops_at, stops_from}

-- what is cut off once is cut off
cut_more : {X : Type 0} → (most : ℕ) (xs ys : List X) → take most (take most xs ++ ys) ≡ take most (xs ++ ys)
cut_more zero xs ys = refl
cut_more (suc n) [] ys = refl
cut_more (suc n) (x ∷ xs) ys = ap (λ l. x ∷ l) (cut_more n xs ys)

-- the stops of one call more
pub one_call_more : (most : ℕ) (calls : List Call) (i : ℕ) (call : Call) (old new : List Stop) → i < length calls → call ≡ get_or calls i call → new ≡ take most (old ++ stops_at (i + 1) call)
    → take most (new ++ stops_from (i + 1 + 1) (drop (i + 1) calls)) ≡ take most (old ++ stops_from (i + 1) (drop i calls))
one_call_more most calls i call old new within at is =
    let here : List Stop = stops_at (i + 1) call in
    let rest : List Stop = stops_from (i + 1 + 1) (drop (i + 1) calls) in
    let more : drop i calls ≡ call ∷ drop (i + 1) calls = drop_more calls i call within ∙ ap (λ (c : Call). c ∷ drop (i + 1) calls) (sym at) in
    ap (λ (l : List Stop). take most (l ++ rest)) is ∙ cut_more most (old ++ here) rest ∙ ap (λ (l : List Stop). take most l) (append_assoc old here rest) ∙ sym (ap (λ (l : List Call). take most (old ++ stops_from (i + 1) l)) more)

-- the stops of one call more, counted up to the greatest number
abbrev pub with_call : ℕ → Call → ℕ
with_call stops call = min (stops + min (bytes_of call + 1) (2 ^ 64 - 1)) (2 ^ 64 - 1)

-- counted call by call, they are counted together
pub counted : (calls : List Call) (number stops all : ℕ) → all ≡ stops + length (stops_from number calls) → fold with_call (min stops (2 ^ 64 - 1)) calls ≡ min all (2 ^ 64 - 1)
counted [] number stops all is = omega arith
counted (call ∷ calls) number stops all is =
    let here : length (stops_at number call) ≡ bytes_of call + 1 = length-map-range_with_len (stop number) 0 (bytes_of call + 1) in
    let next : with_call (min stops (2 ^ 64 - 1)) call ≡ min (stops + (bytes_of call + 1)) (2 ^ 64 - 1) = omega arith in
    ap (λ (n : ℕ). fold with_call n calls) next ∙ counted calls (number + 1) (stops + (bytes_of call + 1)) all (omega (arith, length-append (stops_at number call) (stops_from (number + 1) calls)))
