-- What the ops of a change do to an edge map, and which op is refused.
use Rattle.std.specs.Prelude.{◌≡◌, ℕ, ◌+◌, ◌-◌, ◌<◌, ◌≤◌, Bool, cond, nat_lt, nat_le, ◌==◌, ◌&&◌, List, [], ◌∷◌, length, take, Option, Some, None, is_some, Result, Ok, Err, ⊤}
use Rattle.std.specs.FinMap.{insert, remove, len}
use Rattle.graph_edits.specs.Edges.{EdgeMap, pair_of, weight_between, Network, most_edges, greatest_weight}
use Rattle.graph_edits.specs.declared.edits.Op.{Op}
use Rattle.graph_edits.specs.declared.edits.Op.TheVariants.{Add, Set, Cut}
use Rattle.graph_edits.specs.declared.edits.EditRefused.{EditRefused}
use Rattle.graph_edits.specs.declared.edits.EditRefused.TheVariants.{Op as OpRefused, Memory}
use Rattle.graph_edits.specs.declared.edits.Code.{Code}
use Rattle.graph_edits.specs.declared.edits.Code.TheVariants.{NoNode, Loop, BadWeight, EdgeThere, NoEdge, TooManyEdges}

-- a weight that an edge may have
abbrev pub is_weight : ℕ → Bool
is_weight w = nat_le 1 w && nat_le w greatest_weight

-- an op whose nodes are none of the graph, or one node twice, is refused for that, and else for the rest
abbrev pub ends_refused : ℕ → ℕ → ℕ → Option Code → Option Code
ends_refused nodes a b rest = cond (nat_lt a nodes && nat_lt b nodes) (cond (a == b) (Some Loop) rest) (Some NoNode)

-- why an op is refused where there may be `most` edges: the first case that holds. `nodes` and `edges` are how many there are, `there` whether the pair has an edge
abbrev pub refusal_within : ℕ → ℕ → ℕ → Bool → Op → Option Code
refusal_within most nodes edges there (Add a b w) =
    ends_refused nodes a b (cond (is_weight w) (cond there (Some EdgeThere) (cond (nat_lt edges most) None (Some TooManyEdges))) (Some BadWeight))
refusal_within most nodes edges there (Set a b w) = ends_refused nodes a b (cond (is_weight w) (cond there None (Some NoEdge)) (Some BadWeight))
refusal_within most nodes edges there (Cut a b) = ends_refused nodes a b (cond there None (Some NoEdge))

-- the same under the limit of a graph
abbrev pub refusal : ℕ → ℕ → Bool → Op → Option Code
refusal nodes edges there op = refusal_within most_edges nodes edges there op

-- the edges after an op that is not refused
abbrev pub edges_after_op : EdgeMap → Op → EdgeMap
edges_after_op m (Add a b w) = insert m (pair_of a b) w
edges_after_op m (Set a b w) = insert m (pair_of a b) w
edges_after_op m (Cut a b) = remove m (pair_of a b)

-- the first node that an op names
abbrev pub first_node : Op → ℕ
first_node (Add a b w) = a
first_node (Set a b w) = a
first_node (Cut a b) = a

-- and the second of them
abbrev pub second_node : Op → ℕ
second_node (Add a b w) = b
second_node (Set a b w) = b
second_node (Cut a b) = b

-- why an op is refused in the map m, where there may be `most` edges
abbrev pub refusal_at_within : ℕ → ℕ → EdgeMap → Op → Option Code
refusal_at_within most nodes m op = refusal_within most nodes (len m) (is_some (weight_between m (first_node op) (second_node op))) op

-- the same under the limit of a graph
abbrev pub refusal_at : ℕ → EdgeMap → Op → Option Code
refusal_at nodes m op = refusal_at_within most_edges nodes m op

-- the result r, or the refusal of the op at a place
abbrev pub or_refused_at : Option Code → ℕ → Result EdgeMap (ℕ × Code) → Result EdgeMap (ℕ × Code)
or_refused_at None place r = r
or_refused_at (Some c) place r = Err (place, c)

-- the edges after all ops in order, or the place and code of the first that is refused, where there may be `most` edges. `place` is the place of the first op
abbrev pub edges_after_within : ℕ → ℕ → EdgeMap → ℕ → List Op → Result EdgeMap (ℕ × Code)
edges_after_within most nodes m place [] = Ok m
edges_after_within most nodes m place (op ∷ ops) = or_refused_at (refusal_at_within most nodes m op) place (edges_after_within most nodes (edges_after_op m op) (place + 1) ops)

-- the same under the limit of a graph
abbrev pub edges_after : ℕ → EdgeMap → ℕ → List Op → Result EdgeMap (ℕ × Code)
edges_after nodes m place ops = edges_after_within most_edges nodes m place ops

-- the network after a change, where there may be `most` edges
abbrev pub after_within : ℕ → Network → List Op → Result Network (ℕ × Code)
after_within most g ops = elim (edges_after_within most g.nodes g.edges 0 ops) [ Ok m ↦ Ok (record g { edges = m }) | Err e ↦ Err e ]

-- the same under the limit of a graph
abbrev pub after : Network → List Op → Result Network (ℕ × Code)
after g ops = after_within most_edges g ops

-- after changes in order, each accepted where there may be `most` edges
abbrev pub fold_within : ℕ → Network → List (List Op) → Option Network
fold_within most g [] = Some g
fold_within most g (change ∷ changes) = elim (after_within most g change) [ Ok h ↦ fold_within most h changes | Err e ↦ None ]

-- the same under the limit of a graph
abbrev pub fold : Network → List (List Op) → Option Network
fold g changes = fold_within most_edges g changes

-- the edges after ops of which none is refused
abbrev pub edges_by : EdgeMap → List Op → EdgeMap
edges_by m [] = m
edges_by m (op ∷ ops) = edges_by (edges_after_op m op) ops

-- the network after ops of which none is refused
abbrev pub with_ops : Network → List Op → Network
with_ops g ops = record { nodes = g.nodes; edges = edges_by g.edges ops }

-- what a change that is made op by op leaves where it is refused: the ops before the one that is named are made, or, where memory is
-- refused, those before some place of the change
abbrev pub LeavesFront : Network → List Op → EditRefused → Network → Type 0
LeavesFront g change (OpRefused index code) h = h ≡ with_ops g (take index change)
LeavesFront g change Memory h = (place : ℕ) × (place < length change) × (h ≡ with_ops g (take place change))

-- the weight that an op leaves, where it is not refused
abbrev pub op_weight : Op → Option ℕ
op_weight (Add a b w) = Some w
op_weight (Set a b w) = Some w
op_weight (Cut a b) = None

-- the refusal, where there is one
abbrev pub err_of : {X E : Type 0} → Result X E → Option E
err_of (Ok x) = None
err_of (Err e) = Some e

-- the answer names the op that is refused and why, or speaks of memory alone
abbrev pub IsRefusedAs : Result Network (ℕ × Code) → EditRefused → Type 0
IsRefusedAs r (OpRefused index code) = r ≡ Err (index, code)
IsRefusedAs r Memory = ⊤

-- the answer names the op at a place and why it is refused, or speaks of memory alone
abbrev pub IsRefusedOp : ℕ → Option Code → EditRefused → Type 0
IsRefusedOp place code (OpRefused index why) = (index ≡ place) × (code ≡ Some why)
IsRefusedOp place code Memory = ⊤

-- how many edges there are after an op that is not refused
abbrev pub count_after : ℕ → Op → ℕ
count_after count (Add a b w) = count + 1
count_after count (Set a b w) = count
count_after count (Cut a b) = count - 1

-- and that this number fits, as it does for an op that is not refused
abbrev pub CountFits : ℕ → Op → Type 0
CountFits count (Add a b w) = count < most_edges
CountFits count (Set a b w) = ⊤
CountFits count (Cut a b) = 1 ≤ count

-- the nodes of an op are below n
abbrev pub HasEndsIn : ℕ → Op → Type 0
HasEndsIn n op = (first_node op < n) × (second_node op < n)
