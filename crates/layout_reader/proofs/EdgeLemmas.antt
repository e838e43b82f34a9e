-- Reading edges one after the other.
use Rattle.std.proofs.Common.{◌≡◌, inl, inr, ℕ, ◌^◌, ◌<◌, ◌≤◌, Bool, false, T, List, [], ◌∷◌, ◌++◌, length, take, drop, Option, None, Some, Ordering, Less, Equal, Greater, nat_cmp, refl, sym, ◌∙◌, ap, subst, arith, length-append, append_assoc}
use Rattle.std.specs.Prelude.{is_some}
use Rattle.std.specs.List.{flat_map, AllByRecursion}
use Rattle.std.specs.Ordering.{ordering_then}
use Rattle.std.specs.Cmp.{nat_cmp_is, ranked}
use Rattle.std.specs.FinMap.{get, insert, len, empty, len-empty, is_sorted, entries, entries_sorted, entries-insert, get-entries, len-entries}
use Rattle.std.proofs.lemmas.List.{append-nil, take-append-drop}
use Rattle.std.proofs.lemmas.List.Concat.{flat_map-append, flat_map-cons}
use Rattle.std.proofs.lemmas.Bool.Decides.{nat_tests}
use Rattle.byte_forms.specs.FormLaws.{apart}
use Rattle.graph_edits.specs.declared.edits.Op.TheVariants.{Add}
use Rattle.graph_edits.specs.Changes.{refusal, refusal_at}
use Rattle.graph_edits.specs.Edges.{EdgeMap, Network, pair_cmp, weight_between, greatest_weight, most_edges}
use Rattle.graph_edits.proofs.EdgesOfRows.{pair_total}
use Rattle.graph_edits.proofs.EdgeRows.{pair_in_order}
use Rattle.layout_reader.specs.Ascending.{AllBelow, IsBefore, IsAfterLast, last_key}
use Rattle.layout_reader.specs.EdgeTexts.{edge_text, edges_text, IsEdge}
use Rattle.layout_reader.proofs.Codes.{edge_form, edge_is_form, Continues, continues}
use Rattle.layout_reader.proofs.Entries.{put_last, find_none, above_last, below_sorted, last_below}
use Rattle.layout_reader.proofs.Maps.{edges_fit}

-- ---- adding one

not_refused : (nodes edges a b w : ℕ) (there : Bool) → IsEdge nodes ((a, b), w) → edges < most_edges → there ≡ false → refusal nodes edges there (Add a b w) ≡ None
not_refused nodes edges a b w there is few none =
    let lt : a < b = is.0 in
    let high : b < nodes = is.1 in
    let low : 1 ≤ w = is.2 in
    let top : w ≤ greatest_weight = is.3 in
    let room : edges < most_edges = few in
    grind (arith, nat_tests, none)

-- nothing stands against an edge behind those of a graph
pub passed : (g : Network) (a b w : ℕ) → IsEdge g.nodes ((a, b), w) → AllBelow pair_cmp (a, b) (entries g.edges) → length (entries g.edges) < most_edges → refusal_at g.nodes g.edges (Add a b w) ≡ None
passed g a b w is below few =
    let none : weight_between g.edges a b ≡ None = ap (get g.edges) (pair_in_order a b is.0) ∙ get-entries g.edges (a, b) ∙ find_none pair_cmp pair_total (a, b) (entries g.edges) below in
    not_refused g.nodes (len g.edges) a b w (is_some (weight_between g.edges a b)) is (omega (arith, few, len-entries g.edges)) (ap is_some none)

pub entries_added : (m : EdgeMap) (k : ℕ × ℕ) (w : ℕ) → AllBelow pair_cmp k (entries m) → entries (insert m k w) ≡ entries m ++ (k, w) ∷ []
entries_added m k w below = entries-insert pair_total m k w ∙ put_last pair_cmp pair_total k w (entries m) below

-- ---- the order of pairs

before_less : (p q : ℕ × ℕ) → IsBefore p q → pair_cmp p q ≡ Less
before_less p q (inl lt) = ap (λ o. ordering_then o (nat_cmp p.1 q.1)) (sym (nat_cmp_is p.0 q.0 Less lt))
before_less p q (inr both) = ap (λ o. ordering_then o (nat_cmp p.1 q.1)) (sym (nat_cmp_is p.0 q.0 Equal both.0)) ∙ sym (nat_cmp_is p.1 q.1 Less both.1)

less_before : (p q : ℕ × ℕ) → pair_cmp p q ≡ Less → IsBefore p q
less_before p q is = by (nat_cmp p.0 q.0) refl is
  where
    by : (o : Ordering) → o ≡ nat_cmp p.0 q.0 → ordering_then o (nat_cmp p.1 q.1) ≡ Less → IsBefore p q
    by Less e _ = inl (ranked p.0 q.0 Less e)
    by Equal e is = inr (ranked p.0 q.0 Equal e, ranked p.1 q.1 Less (sym is))
    by Greater e is = absurd cc

no_last : {X : Type 0} (es : List ((ℕ × ℕ) × X)) → last_key es ≡ None → es ≡ []
no_last [] is = refl
no_last (e ∷ []) is = absurd cc
no_last (e ∷ f ∷ es) is = absurd (no_more (no_last (f ∷ es) is))
  where
    no_more : f ∷ es ≡ [] → ⊥
    no_more e = cc

pub all_below : (es : List ((ℕ × ℕ) × ℕ)) (last : Option (ℕ × ℕ)) (k : ℕ × ℕ) → T (is_sorted pair_cmp es) → last_key es ≡ last → IsAfterLast last k → AllBelow pair_cmp k es
all_below es None k sorted is follows = subst (AllBelow pair_cmp k) (sym (no_last es is)) tt
all_below es (Some l) k sorted is follows = above_last pair_cmp pair_total k l es sorted is (before_less l k follows)

comes_after : (es : List ((ℕ × ℕ) × ℕ)) (last : Option (ℕ × ℕ)) (k : ℕ × ℕ) → AllBelow pair_cmp k es → last_key es ≡ last → IsAfterLast last k
comes_after es None k below is = tt
comes_after es (Some l) k below is = less_before l k (last_below pair_cmp k l es below is)

pub last_push : (es : List ((ℕ × ℕ) × ℕ)) (k : ℕ × ℕ) (w : ℕ) → last_key (es ++ (k, w) ∷ []) ≡ Some k
last_push [] k w = refl
last_push (e ∷ []) k w = refl
last_push (e ∷ f ∷ es) k w = last_push (f ∷ es) k w

pub all_push : (n : ℕ) (es : List ((ℕ × ℕ) × ℕ)) (e : (ℕ × ℕ) × ℕ) → AllByRecursion (λ e. IsEdge n e) es → IsEdge n e → AllByRecursion (λ e. IsEdge n e) (es ++ e ∷ [])
all_push n [] e all is = (is, tt)
all_push n (f ∷ es) e all is = (all.0, all_push n es e all.1 is)

all_at : (n : ℕ) (es fs : List ((ℕ × ℕ) × ℕ)) (e : (ℕ × ℕ) × ℕ) → AllByRecursion (λ e. IsEdge n e) (es ++ e ∷ fs) → IsEdge n e
all_at n [] fs e all = all.0
all_at n (f ∷ es) fs e all = all_at n es fs e all.1

pub text_push : (es : List ((ℕ × ℕ) × ℕ)) (e : (ℕ × ℕ) × ℕ) (rest behind bytes : List ℕ) → flat_map edge_text es ++ rest ≡ bytes → rest ≡ edge_text e ++ behind → flat_map edge_text (es ++ e ∷ []) ++ behind ≡ bytes
text_push es e rest behind bytes so_far is =
    ap (λ (l : List ℕ). l ++ behind) (flat_map-append edge_text es (e ∷ []) ∙ ap (λ (l : List ℕ). flat_map edge_text es ++ l) (flat_map-cons edge_text e [] ∙ append-nil (edge_text e)))
    ∙ append_assoc (flat_map edge_text es) (edge_text e) behind ∙ ap (λ (l : List ℕ). flat_map edge_text es ++ l) (sym is) ∙ so_far

pub split_rest : (rest front behind text : List ℕ) → front ≡ take 8 rest → behind ≡ drop 8 rest → text ≡ front → rest ≡ text ++ behind
split_rest rest front behind text is_front is_behind is_text = sym (ap (λ (l : List ℕ). l ++ behind) (is_text ∙ is_front) ∙ ap (λ (l : List ℕ). take 8 rest ++ l) is_behind ∙ take-append-drop 8 rest)

pub nothing : {A : Type 0} (xs : List A) → length xs ≡ 0 → xs ≡ []
nothing [] e = refl
nothing (x ∷ xs) e = absurd (omega (arith, e))

pub no_entries : entries (empty {K = ℕ × ℕ} {X = ℕ} {R = pair_cmp}) ≡ []
no_entries = nothing (entries (empty {K = ℕ × ℕ} {X = ℕ} {R = pair_cmp})) (sym (len-entries (empty {K = ℕ × ℕ} {X = ℕ} {R = pair_cmp})) ∙ len-empty pair_cmp ℕ)

-- ---- the next edge of a lawful map

pub next_is : (n : ℕ) → n ≤ 2 ^ 16 → (map : EdgeMap) (es : List ((ℕ × ℕ) × ℕ)) (e : (ℕ × ℕ) × ℕ) (behind bytes : List ℕ) → AllByRecursion (λ e. IsEdge n e) (entries map) → edges_text map ≡ bytes
    → AllByRecursion (λ e. IsEdge n e) es → flat_map edge_text es ++ (edge_text e ++ behind) ≡ bytes → edge_form.Fits e → IsEdge n e × IsAfterLast (last_key es) e.0
next_is n few map es e behind bytes lawful text each so_far fits = by (continues es (entries map) (edge_text e ++ behind) (edges_fit n few es each) (edges_fit n few (entries map) lawful) (so_far ∙ sym text))
  where
    found : (g : (ℕ × ℕ) × ℕ) (gs : List ((ℕ × ℕ) × ℕ)) → entries map ≡ es ++ g ∷ gs → edge_text e ++ behind ≡ flat_map edge_text (g ∷ gs) → IsEdge n e × IsAfterLast (last_key es) e.0
    found g gs list bytes_are =
        let all : AllByRecursion (λ e. IsEdge n e) (es ++ g ∷ gs) = subst (AllByRecursion (λ e. IsEdge n e)) list lawful in
        let is_g = all_at n es gs g all in
        let one = apart edge_is_form e g behind (flat_map edge_text gs) fits ((edges_fit n few (g ∷ []) (is_g, tt)).0) (bytes_are ∙ flat_map-cons edge_text g gs) in
        let sorted : T (is_sorted pair_cmp (es ++ g ∷ gs)) = subst (λ (l : List ((ℕ × ℕ) × ℕ)). T (is_sorted pair_cmp l)) list (entries_sorted map) in
        let below : AllBelow pair_cmp g.0 es = below_sorted pair_cmp g.0 g.1 es gs sorted in
        subst (λ h. IsEdge n h × IsAfterLast (last_key es) h.0) (sym one.0) (is_g, comes_after es (last_key es) g.0 below refl)

    split : (later : List ((ℕ × ℕ) × ℕ)) → entries map ≡ es ++ later → edge_text e ++ behind ≡ flat_map edge_text later → IsEdge n e × IsAfterLast (last_key es) e.0
    split [] list bytes_are = absurd (omega (arith, ap length bytes_are, length-append (edge_text e) behind))
    split (g ∷ gs) list bytes_are = found g gs list bytes_are

    by : Continues es (entries map) (edge_text e ++ behind) → IsEdge n e × IsAfterLast (last_key es) e.0
    by c = split c.later c.list c.bytes
