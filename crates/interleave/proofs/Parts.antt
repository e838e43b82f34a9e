-- A world's lists, its ways as plain data, and its newest generation, from what is stored.
use Rattle.std.proofs.Common.{◌≡◌, ℕ, zero, suc, List, [], ◌∷◌, take, drop, Bool, refl, ◌<◌, map, set, get_or, length, Some, slice_get, sym, ap, ◌∙◌, ◌++◌}
use Rattle.std.specs.Option.{option_map}
use Rattle.std.proofs.lemmas.List.{map-set, set-get_or}
use Rattle.std.proofs.lemmas.Option.{slice_get-map, slice_get-get_or}
use Rattle.requests.specs.declared.request.Request.{Request}
use Rattle.layout_2.specs.State.{State}
use Rattle.generations.specs.declared.posting.Notice.{Notice}
use Rattle.generations.specs.declared.posting.Notice.TheVariants.{Marked, Failed, Built}
use Rattle.generations.proofs.Numbers.{same_newest, now_newest}
use Rattle.event_model.specs.Trips.{Trip}
use Rattle.event_model.specs.Answers.{newest_number}
use Rattle.event_laws.specs.History.{Lists}
use Rattle.interleave.specs.declared.stored.Way.{Way}
use Rattle.interleave.specs.Stores.{trip_of, newer}

pub lists_are : (taken : List Request) (d d2 : ℕ) (g g2 : List (ℕ × ℕ)) (s s2 : State) (w w2 : Bool) → d ≡ d2 → g ≡ g2 → s ≡ s2 → w ≡ w2
    → ◌≡◌ {A = Lists} (record { taken = taken; done = d; groups = g; state = s; down = w }) (record { taken = taken; done = d2; groups = g2; state = s2; down = w2 })
lists_are taken d d2 g g2 s s2 w w2 e1 e2 e3 e4 = λ i. record { taken = taken; done = e1 i; groups = e2 i; state = e3 i; down = e4 i }

-- nothing is left of what was taken behind all that was taken
pub none_left : {A : Type 0} (n : ℕ) (l : List A) → drop n (take n l) ≡ []
none_left zero l = refl
none_left (suc n) [] = refl
none_left (suc n) (x ∷ l) = none_left n l

-- one of them is written
pub next_ways : (ws : List Way) (i : ℕ) (w : Way) (t : Trip) → trip_of w ≡ t → map trip_of (set ws i w) ≡ set (map trip_of ws) i t
next_ways ws i w t e = map-set trip_of ws i w ∙ ap (λ (x : Trip). set (map trip_of ws) i x) e

-- .. with what stands there
pub same_ways : (ws : List Way) (i : ℕ) (v w : Way) → v ≡ get_or ws i v → trip_of w ≡ trip_of v → map trip_of (set ws i w) ≡ map trip_of ws
same_ways ws i v w at e = next_ways ws i w (trip_of v) e ∙ sym (map-set trip_of ws i v) ∙ ap (map trip_of) (ap (λ (x : Way). set ws i x) at ∙ set-get_or ws i v)

-- the one that is read
pub is_there : (ws : List Way) (i : ℕ) (v : Way) (w : Trip) → v ≡ get_or ws i v → i < length ws → slice_get (map trip_of ws) i ≡ Some w → w ≡ trip_of v
is_there ws i v w at within e =
    let one : option_map trip_of (slice_get ws i) ≡ Some w = sym (slice_get-map trip_of ws i) ∙ e in
    let two : option_map trip_of (slice_get ws i) ≡ Some (trip_of v) = ap (option_map trip_of) (slice_get-get_or ws i v within ∙ ap Some (sym at)) in
    let three : Some w ≡ Some (trip_of v) = sym one ∙ two in
    cc

pub newest_push : (log : List Notice) (p : Notice) → newest_number (log ++ p ∷ []) ≡ newer (newest_number log) p
newest_push log (Marked marks) = ap (option_map (λ g. g.0)) (same_newest log (Marked marks) refl)
newest_push log Failed = ap (option_map (λ g. g.0)) (same_newest log Failed refl)
newest_push log (Built number scheme) = ap (option_map (λ g. g.0)) (now_newest log number scheme)
