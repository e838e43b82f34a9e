-- Editors at the board of their readers, which have submitted nothing.
use Rattle.std.specs.Prelude.{ℕ, suc, ◌≡◌, ◌+◌, List, [], ◌∷◌, All, length}
use Rattle.std.proofs.Common.{ap, refl, subst, sym, ◌∙◌}
use Rattle.std.proofs.lemmas.List.Elements.{All-nil, All-cons, All-head, All-tail, All-same}
use Rattle.atomic_table.specs.Seated.{TableId}
use Rattle.requests.specs.Tickets.{last_of}
use Rattle.generations.specs.Beginnings.{Opening}
use Rattle.generations.specs.Knowledges.{Knowledge}
use Rattle.intake.specs.Editors.{Editing, editors_from}
use Rattle.intake.specs.Ends.{Taking}
use Rattle.line_workers.specs.Submits.{AreAllEditors}

-- editors are at the board of their readers
editors_of : (opening : Opening) (q : TableId) (starts : List ℕ) (n : ℕ) (rs : List Knowledge) → All (λ r. r.all.opening ≡ opening) rs → All (λ e. e.known.opening ≡ opening) (editors_from q starts n rs)
editors_of opening q starts n [] all = All-nil (λ (e : Editing). e.known.opening ≡ opening)
editors_of opening q starts n (r ∷ rs) all =
    All-cons (λ (e : Editing). e.known.opening ≡ opening) (record { queue = q; session = n; start = last_of starts n; put = []; fulls = 0; known = r.all }) (editors_from q starts (n + 1) rs)
    (All-head (λ (k : Knowledge). k.all.opening ≡ opening) r rs all)
    (editors_of opening q starts (n + 1) rs (All-tail (λ (k : Knowledge). k.all.opening ≡ opening) r rs all))

pub seated : (opening : Opening) (q : TableId) (starts : List ℕ) (rs : List Knowledge) (es : List Editing) → es ≡ editors_from q starts 0 rs
    → All (λ r. r.all.opening ≡ opening) rs → All (λ e. e.known.opening ≡ opening) es
seated opening q starts rs es is all = All-same (λ (e : Editing). e.known.opening ≡ opening) es (editors_from q starts 0 rs) is (editors_of opening q starts 0 rs all)

none_put : (q : TableId) (starts : List ℕ) (n : ℕ) (rs : List Knowledge) → All (λ e. e.put ≡ []) (editors_from q starts n rs)
none_put q starts n [] = All-nil (λ (e : Editing). e.put ≡ [])
none_put q starts n (r ∷ rs) =
    All-cons (λ (e : Editing). e.put ≡ []) (record { queue = q; session = n; start = last_of starts n; put = []; fulls = 0; known = r.all }) (editors_from q starts (n + 1) rs) refl (none_put q starts (n + 1) rs)

pub fresh_seats : (q : TableId) (starts : List ℕ) (rs : List Knowledge) (es : List Editing) → es ≡ editors_from q starts 0 rs → All (λ e. e.put ≡ []) es
fresh_seats q starts rs es is = All-same (λ (e : Editing). e.put ≡ []) es (editors_from q starts 0 rs) is (none_put q starts 0 rs)

from_starts : (q : TableId) (starts : List ℕ) (n : ℕ) (rs : List Knowledge) → All (λ e. e.start ≡ last_of starts e.session) (editors_from q starts n rs)
from_starts q starts n [] = All-nil (λ (e : Editing). e.start ≡ last_of starts e.session)
from_starts q starts n (r ∷ rs) =
    All-cons (λ (e : Editing). e.start ≡ last_of starts e.session) (record { queue = q; session = n; start = last_of starts n; put = []; fulls = 0; known = r.all }) (editors_from q starts (n + 1) rs) refl
    (from_starts q starts (n + 1) rs)

-- editors start where the board says
pub started : (begins : List ℕ) (q : TableId) (starts : List ℕ) (rs : List Knowledge) (es : List Editing) → starts ≡ begins → es ≡ editors_from q starts 0 rs → All (λ e. e.start ≡ last_of begins e.session) es
started begins q starts rs es same is =
    subst (λ (ts : List ℕ). All (λ (e : Editing). e.start ≡ last_of ts e.session) es) same
    (All-same (λ (e : Editing). e.start ≡ last_of starts e.session) es (editors_from q starts 0 rs) is (from_starts q starts 0 rs))

-- they are at the queue's end
at_queue : (q : TableId) (starts : List ℕ) (n : ℕ) (rs : List Knowledge) → All (λ e. e.queue ≡ q) (editors_from q starts n rs)
at_queue q starts n [] = All-nil (λ (e : Editing). e.queue ≡ q)
at_queue q starts n (r ∷ rs) =
    All-cons (λ (e : Editing). e.queue ≡ q) (record { queue = q; session = n; start = last_of starts n; put = []; fulls = 0; known = r.all }) (editors_from q starts (n + 1) rs) refl (at_queue q starts (n + 1) rs)

-- one for each reader
one_each : (q : TableId) (starts : List ℕ) (n : ℕ) (rs : List Knowledge) → length (editors_from q starts n rs) ≡ length rs
one_each q starts n [] = refl
one_each q starts n (r ∷ rs) = ap suc (one_each q starts (n + 1) rs)

pub all_editors : (taker : Taking) (starts : List ℕ) (rs : List Knowledge) (es : List Editing) → es ≡ editors_from taker.queue starts 0 rs → taker.made ≡ length rs → AreAllEditors taker es
all_editors taker starts rs es is made = record {
  many = ap (λ (l : List Editing). length l) is ∙ (one_each taker.queue starts 0 rs ∙ sym made);
  queue = All-same (λ (e : Editing). e.queue ≡ taker.queue) es (editors_from taker.queue starts 0 rs) is (at_queue taker.queue starts 0 rs);
  fresh = fresh_seats taker.queue starts rs es is;
}
