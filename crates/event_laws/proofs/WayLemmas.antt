-- The ways in a list: each is on its way, and goes on.
use Rattle.std.proofs.Common.{◌≡◌, inl, inr, ℕ, List, [], ◌∷◌, ◌++◌, length, set, Some, slice_get, refl, ap, ◌∙◌, subst, append-nil}
use Rattle.std.proofs.lemmas.Bool.{cases_eq}
use mathlib.Core.List.{IsPrefix}
use Rattle.generations.specs.declared.posting.Notice.{Notice}
use Rattle.generations.proofs.Prefixes.{prefix_trans, prefix_get}
use Rattle.event_model.specs.Trips.{Trip}
use Rattle.event_laws.specs.Ways.{IsOnWay}
use Rattle.event_laws.specs.Later.{GoesOn}
use Rattle.event_laws.proofs.Every.{get_set, get_other}
use Rattle.event_laws.proofs.Shelves.{posted_prefix}

-- with more postings
pub way_prefix : (log longer : List Notice) → IsPrefix log longer → (w : Trip) → IsOnWay log w → IsOnWay longer w
way_prefix log longer prefix w is = record { scheme = is.scheme; posted = posted_prefix log longer w.packet.generation is.scheme prefix is.posted; sent = is.sent; decided = is.decided; rest = is.rest; starts = is.starts; went = is.went; delivered = is.delivered }

-- the way that was put last, and one with more behind it
pub get_push : (ws : List Trip) (w : Trip) → slice_get (ws ++ w ∷ []) (length ws) ≡ Some w
get_push [] w = refl
get_push (x ∷ ws) w = get_push ws w

pub get_more : (ws more : List Trip) (i : ℕ) (w : Trip) → slice_get ws i ≡ Some w → slice_get (ws ++ more) i ≡ Some w
get_more ws more i w e = prefix_get ws (ws ++ more) i w (more, refl) e

-- ---- packets go on

pub same_goes : (w : Trip) → GoesOn w w
same_goes w = record { from = refl; to = refl; generation = refl; visited = ([], append-nil w.visited); gone = λ _. refl }

goes_more : (a b c : Trip) → GoesOn a b → GoesOn b c → GoesOn a c
goes_more a b c x y = record {
  from = y.from ∙ x.from;
  to = y.to ∙ x.to;
  generation = y.generation ∙ x.generation;
  visited = prefix_trans a.visited b.visited c.visited x.visited y.visited;
  gone = λ gone. let same : b ≡ a = x.gone gone in y.gone (ap (λ (w : Trip). w.there) same ∙ gone) ∙ same;
}

-- each of these packets goes on in those
abbrev pub ListGoesOn : List Trip → List Trip → Type 0
ListGoesOn ws vs = (i : ℕ) (old : Trip) → slice_get ws i ≡ Some old → (new : Trip) × ((slice_get vs i ≡ Some new) × GoesOn old new)

pub list_same : (ws : List Trip) → ListGoesOn ws ws
list_same ws i old e = (old, (e, same_goes old))

pub list_more : (us vs ws : List Trip) → ListGoesOn us vs → ListGoesOn vs ws → ListGoesOn us ws
list_more us vs ws a b i old e =
    let one = a i old e in
    let two = b i one.0 one.1.0 in
    (two.0, (two.1.0, goes_more old one.0 two.0 one.1.1 two.1.1))

pub list_push : (ws : List Trip) (w : Trip) → ListGoesOn ws (ws ++ w ∷ [])
list_push ws w i old e = (old, (get_more ws (w ∷ []) i old e, same_goes old))

pub list_set : (ws : List Trip) (j : ℕ) (v w : Trip) → slice_get ws j ≡ Some v → GoesOn v w → ListGoesOn ws (set ws j w)
list_set ws j v w at goes i old e = elim (cases_eq i j) [
  | inl same ↦
      (let is : v ≡ old = cc in
      let now : slice_get (set ws j w) i ≡ Some w = ap (slice_get (set ws j w)) same ∙ get_set ws j v w at in
      (w, (now, subst (λ (x : Trip). GoesOn x w) is goes)))
  | inr other ↦ (old, (get_other ws i j w other ∙ e, same_goes old))
]
