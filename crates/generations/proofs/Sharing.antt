-- A step that only adds to the list keeps the rule of the shared board.
use Rattle.std.proofs.Common.{◌≡◌, ℕ, ◌≢◌, List, [], ◌∷◌, Option, Some, None, set, refl, sym, ◌∙◌, ap, subst, ⊎_elim}
use Rattle.std.proofs.lemmas.List.Sums.{fold-append}
use mathlib.Core.Option.{some}
use lib.ListN.{get_elem?}
use Rattle.left_right.specs.Register.{Admits, TurnsAt, Forks, Merges}
use Rattle.atomic_table.proofs.Lists.{at_set, at_snoc}
use Rattle.generations.specs.declared.replica.Replica.{Replica}
use Rattle.generations.specs.declared.replica.Update.{Update}
use Rattle.generations.specs.Boards.{after, fresh, board_of}
use Rattle.generations.specs.Notices.{notice_of}
use Rattle.generations.specs.declared.posting.Notice.{Notice}
use Rattle.generations.specs.Writes.{IsPublished}
use Rattle.generations.specs.Beginnings.{Opening, Beginning, GoesOn, Extends, board_after}
use Rattle.generations.specs.Shares.{Follows, IsConsistent, Observes, informed}
use Rattle.generations.proofs.Prefixes.{prefix_self, prefix_trans}

pub goes_self : (a : Beginning) → GoesOn a a
goes_self a = (refl, prefix_self a.log)

pub goes_trans : (a b c : Beginning) → GoesOn a b → GoesOn b c → GoesOn a c
goes_trans a b c p q = (q.0 ∙ p.0, prefix_trans a.log b.log c.log p.1 q.1)

pub onward : (v : Option Beginning) (a b : Beginning) → Follows v a → GoesOn a b → Follows v b
onward None a b f on = tt
onward (Some z) a b f on = goes_trans z a b f on

pub sees : (seat : ℕ) (v : Option Beginning) (x y : Replica) → y.board ≡ board_after y.history → GoesOn x.history y.history → TurnsAt IsConsistent seat v x y Observes
sees seat v x y folded on views h at = (
  Some y.history,
  (
    folded,
    λ j u e.
        ⊎_elim (λ (t : (j ≡ seat) × (Some y.history ≡ u)). subst (λ (z : Option Beginning). Follows z y.history) t.1 (goes_self y.history))
        (λ (t : (j ≢ seat) × (get_elem? views j ≡ some u)). onward u x.history y.history (h.1 j u t.1) on)
        (at_set views seat j (Some y.history) u e),
  ),
  (folded, onward v x.history y.history (h.1 seat v at) on, refl),
)

-- a look changes nothing
pub looks : (seat : ℕ) (v : Option Beginning) (x : Replica) → TurnsAt IsConsistent seat v x x Observes
looks seat v x views h at = sees seat v x x h.0 (goes_self x.history) views h at

-- so does a publishing without an update
pub looks_again : (seat : ℕ) (v : Option Beginning) (x y : Replica) → y ≡ x → TurnsAt IsConsistent seat v x y Observes
looks_again seat v x y same = subst (λ (z : Replica). TurnsAt IsConsistent seat v x z Observes) (sym same) (looks seat v x)

-- a new reader knows nothing
pub admits : Admits IsConsistent None
admits x views h = (h.0, λ j u e. ⊎_elim (h.1 j u) (λ (t : None ≡ u). subst (λ (z : Option Beginning). Follows z x.history) t tt) (at_snoc views None u j e))

set_follows : (x : Replica) (views : List (Option Beginning)) (seat : ℕ) (v : Option Beginning) → IsConsistent x views → Follows v x.history → IsConsistent x (set views seat v)
set_follows x views seat v h f = (
  h.0,
  λ j u e.
      ⊎_elim (λ (t : (j ≡ seat) × (v ≡ u)). subst (λ (z : Option Beginning). Follows z x.history) t.1 f)
      (λ (t : (j ≢ seat) × (get_elem? views j ≡ some u)). h.1 j u t.1)
      (at_set views seat j v u e),
)

pub forks : (seat : ℕ) (v : Option Beginning) → Forks IsConsistent seat v v v
forks seat v x views h at =
    let one = set_follows x views seat v h (h.1 seat v at) in
    (h.0, λ j u e. ⊎_elim (one.1 j u) (λ (t : v ≡ u). subst (λ (z : Option Beginning). Follows z x.history) t (h.1 seat v at)) (at_snoc (set views seat v) v u j e))

pub merges : (seat : ℕ) (v : Option Beginning) (other : ℕ) (w : Option Beginning) → Merges IsConsistent seat v other w (informed v w) None
merges seat v other w x views h at apart there =
    let f : Follows w x.history = ⊎_elim (λ (t : (other ≡ seat) × (w ≡ w)). absurd (apart t.0)) (λ (t : (other ≢ seat) × (get_elem? views other ≡ some w)). h.1 other w t.1) (at_set views seat other w w there) in
    set_follows x (set views seat w) other None (set_follows x views seat w h f) tt

-- what the replica is once it has taken in the last update
pub next_goes : (x : Replica) (a b : Beginning) (e : Update) → x.history ≡ a → x.board ≡ board_after a → Extends a (notice_of e.posting) b → e.history ≡ b → (y : Replica) → y ≡ record { board = after x.board (notice_of e.posting); history = e.history }
    → (y.board ≡ board_after y.history) × GoesOn x.history y.history × (y.history ≡ b)
next_goes x a b e at folded ext last y is =
    let f : y.history ≡ b = ap (λ (c : Replica). c.history) is ∙ last in
    let grown : board_after b ≡ after (board_after a) (notice_of e.posting) = ap (λ (o : Opening). board_of o.starts o.count b.log) ext.0 ∙ ap (board_of a.opening.starts a.opening.count) ext.1 ∙ fold-append after (fresh a.opening.starts a.opening.count) a.log (notice_of e.posting ∷ []) in
    let board : y.board ≡ board_after y.history = ap (λ (c : Replica). c.board) is ∙ (ap (λ s. after s (notice_of e.posting)) folded ∙ (sym grown ∙ ap board_after (sym f))) in
    let on : GoesOn a b = (ext.0, (notice_of e.posting ∷ [], sym ext.1)) in
    let P : Beginning → Type 0 = λ z. GoesOn z y.history in
    let Q : Beginning → Type 0 = λ z. GoesOn a z in
    (board, subst P (sym at) (subst Q (sym f) on), f)

-- the board before any notice is the fold of none
pub none_folded : (h : Beginning) (starts : List ℕ) (count : ℕ) → h.log ≡ [] → h.opening.starts ≡ starts → h.opening.count ≡ count → fresh starts count ≡ board_after h
none_folded h starts count none same begins = sym (ap (λ (l : List Notice). board_of h.opening.starts h.opening.count l) none ∙ ap (λ (s : List ℕ). fresh s h.opening.count) same ∙ ap (fresh starts) begins)

-- the replica that took in the last update is published, and it is all
pub all_published : (y : Replica) (w : Option Beginning) (all : Beginning) → y.history ≡ all → y.board ≡ board_after y.history → w ≡ Some y.history → IsPublished y w all
all_published y w all is folded knows = record { history = is; board = folded ∙ ap board_after is; knows = knows ∙ ap Some is }
