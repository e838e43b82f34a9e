-- The rows of a table, one after another.
use Rattle.std.proofs.Common.{◌≡◌, ◌∙◌, refl, sym, ap, subst, ℕ, ◌+◌, ◌<◌, ◌≤◌, List, [], ◌∷◌, get_or, drop, length, map, Option, None, Some, Result, Ok, Err, IfErr}
use Rattle.std.specs.Result.{IsErrAnd}
use Rattle.std.proofs.Math.ListN.{drop_of_length-le}
use Rattle.std.proofs.lemmas.List.{get_or-map, length-map}
use Rattle.std.specs.FinMap.{empty, len}
use Rattle.graph_edits.specs.Changes.{after, edges_after, edges_after_op, or_refused_at, refusal_at}
use Rattle.graph_edits.specs.Edges.{EdgeMap, Network}
use Rattle.graph_edits.specs.declared.edits.Code.{Code}
use Rattle.graph_edits.specs.declared.edits.Op.{Op}
use Rattle.graph_edits.proofs.Applied.{after_step, count_step, opened, passed_step}
use Rattle.sample_networks.specs.declared.tables.TableRefused.{TableRefused}
use Rattle.sample_networks.specs.declared.tables.TableRefused.TheVariants.{Nodes, Row, Memory}
use Rattle.sample_networks.specs.Tables.{added, bare, IsRowRefused, IsTableRefused}

-- what the ops behind a place come to
abbrev pub rest_of : ℕ → EdgeMap → ℕ → List Op → Result EdgeMap (ℕ × Code)
rest_of nodes m place ops = edges_after nodes m place (drop place ops)

-- an op that is taken alone
taken : (g h : Network) (op : Op) → after g (op ∷ []) ≡ Ok h → (refusal_at g.nodes g.edges op ≡ None) × (h ≡ record { nodes = g.nodes; edges = edges_after_op g.edges op })
taken g h op is = by (refusal_at g.nodes g.edges op) is
  where
    by : (o : Option Code) → (elim (or_refused_at o 0 (Ok (edges_after_op g.edges op))) as (λ _. Result Network (ℕ × Code)) [ Ok m ↦ Ok (record g { edges = m }) | Err e ↦ Err e ]) ≡ Ok h
        → (o ≡ None) × (h ≡ record { nodes = g.nodes; edges = edges_after_op g.edges op })
    by None e = (refl, (cc))
    by (Some code) e = absurd (cc)

-- and one that is refused
refused : (g : Network) (op : Op) (code : Code) → after g (op ∷ []) ≡ Err (0, code) → refusal_at g.nodes g.edges op ≡ Some code
refused g op code is = by (refusal_at g.nodes g.edges op) is
  where
    by : (o : Option Code) → (elim (or_refused_at o 0 (Ok (edges_after_op g.edges op))) as (λ _. Result Network (ℕ × Code)) [ Ok m ↦ Ok (record g { edges = m }) | Err e ↦ Err e ]) ≡ Err (0, code) → o ≡ Some code
    by None e = absurd (cc)
    by (Some c) e = let same : (0, c) ≡ (0, code) = cc in ap (λ (at : ℕ × Code). Some at.1) same

-- a row that is taken: there is one edge more, and the rest of the table goes on from what it made
pub row_taken : (n : ℕ) (g h : Network) (table : List (ℕ × ℕ × ℕ)) (i : ℕ) (row : ℕ × ℕ × ℕ) → i < length table → row ≡ get_or table i row → g.nodes ≡ n → after g (added row ∷ []) ≡ Ok h
    → (h.nodes ≡ n) × (len h.edges ≡ len g.edges + 1) × (rest_of n g.edges i (map added table) ≡ rest_of n h.edges (i + 1) (map added table))
row_taken n g h table i row within at nodes is =
    let ops : List Op = map added table in
    let here : get_or ops i (added row) ≡ added row = get_or-map added table i row (added row) within ∙ ap added (sym at) in
    let lt : i < length ops = subst (λ (k : ℕ). i < k) (sym (length-map table added)) within in
    let made = taken g h (added row) is in
    let passes : refusal_at n g.edges (get_or ops i (added row)) ≡ None = ap (λ (op : Op). refusal_at n g.edges op) here ∙ ap (λ (k : ℕ). refusal_at k g.edges (added row)) (sym nodes) ∙ made.0 in
    let edges : edges_after_op g.edges (get_or ops i (added row)) ≡ h.edges = ap (λ (op : Op). edges_after_op g.edges op) here ∙ sym (ap (λ (x : Network). x.edges) made.1) in
    let more : len h.edges ≡ len g.edges + 1 = ap (λ (x : Network). len x.edges) made.1 ∙ count_step g.nodes g.edges (added row) made.0 in
    (ap (λ (x : Network). x.nodes) made.1 ∙ nodes, more, passed_step n g.edges ops i (added row) lt passes ∙ ap (λ (m : EdgeMap). rest_of n m (i + 1) ops) edges)

-- a row that is refused: so is the table, at its place
pub row_refused : (n : ℕ) (g : Network) (table : List (ℕ × ℕ × ℕ)) (i : ℕ) (row : ℕ × ℕ × ℕ) (code : Code) → i < length table → row ≡ get_or table i row → g.nodes ≡ n → after g (added row ∷ []) ≡ Err (0, code)
    → rest_of n g.edges i (map added table) ≡ Err (i, code)
row_refused n g table i row code within at nodes is =
    let ops : List Op = map added table in
    let here : get_or ops i (added row) ≡ added row = get_or-map added table i row (added row) within ∙ ap added (sym at) in
    let lt : i < length ops = subst (λ (k : ℕ). i < k) (sym (length-map table added)) within in
    let says : refusal_at n g.edges (get_or ops i (added row)) ≡ Some code = ap (λ (op : Op). refusal_at n g.edges op) here ∙ ap (λ (k : ℕ). refusal_at k g.edges (added row)) (sym nodes) ∙ refused g (added row) code is in
    opened n g.edges ops i (added row) lt
    ∙ ap (λ (o : Option Code). or_refused_at o i (rest_of n (edges_after_op g.edges (get_or ops i (added row))) (i + 1) ops)) says

-- behind the last row
pub all_taken : (n : ℕ) (g : Network) (table : List (ℕ × ℕ × ℕ)) (i : ℕ) → length table ≤ i → g.nodes ≡ n → edges_after n empty 0 (map added table) ≡ rest_of n g.edges i (map added table) → after (bare n) (map added table) ≡ Ok g
all_taken n g table i over nodes rest =
    let ops : List Op = map added table in
    let none : drop i ops ≡ [] = drop_of_length-le ops (subst (λ (k : ℕ). k ≤ i) (sym (length-map table added)) over) in
    after_step (bare n) g.edges ops (rest ∙ ap (λ (l : List Op). edges_after n g.edges i l) none) ∙ ap (λ (k : ℕ). Ok (record { nodes = k; edges = g.edges })) (sym nodes)

-- what is refused of the edges is refused of the network
pub none_made : (n : ℕ) (ops : List Op) (e : ℕ × Code) → edges_after n empty 0 ops ≡ Err e → after (bare n) ops ≡ Err e
none_made n ops e is = ap (λ (r : Result EdgeMap (ℕ × Code)). elim r as (λ _. Result Network (ℕ × Code)) [ Ok m ↦ Ok (record (bare n) { edges = m }) | Err x ↦ Err x ]) is

-- a row's refusal is the table's
pub still_refused : (n : ℕ) (g : Network) (table : List (ℕ × ℕ × ℕ)) (i : ℕ) (row : ℕ × ℕ × ℕ) (e : TableRefused) → i < length table → row ≡ get_or table i row → g.nodes ≡ n → edges_after n empty 0 (map added table) ≡ rest_of n g.edges i (map added table)
    → IsRowRefused i (after g (added row ∷ [])) e → IsTableRefused n table e
still_refused n g table i row Nodes within at nodes rest is = absurd is
still_refused n g table i row (Row place code) within at nodes rest is =
    none_made n (map added table) (place, code) (rest ∙ row_refused n g table i row code within at nodes is.1 ∙ ap (λ (k : ℕ). Err (k, code)) (sym is.0))
still_refused n g table i row Memory within at nodes rest is = tt

-- what is handed on is what came
pub handed_on : {T E : Type 0} (r : Result T E) (P : E → Type 0) (e : E) → IsErrAnd r (λ x. x ≡ e) → P e → IfErr r P
handed_on (Ok x) P e is has = absurd is
handed_on (Err y) P e is has = subst P (sym is) has
