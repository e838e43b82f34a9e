-- What becomes of a list.
use Rattle.std.proofs.Common.{◌≡◌, ◌<◌, ◌≤◌, ℕ, zero, suc, List, [], ◌∷◌, Option, None, Some, Ok, length, refl, ap, sym, subst, ◌∙◌, arith, replicate}
use Rattle.std.specs.List.{AllByRecursion}
use Rattle.std.specs.Prelude.{IfSome, unwrap_or}
use Rattle.graph_edits.specs.Edges.{Network}
use Rattle.layout_2.specs.State.{AreTickets, State, state_with}
use Rattle.layout_2.specs.Standing.{StandsFor}
use Rattle.layout_2.specs.Layout.{worn_limit}
use Rattle.network_load.specs.declared.list.Edge.{Edge}
use Rattle.network_load.specs.declared.loading.LoadRefused.TheVariants.{NodeCount}
use Rattle.network_load.specs.declared.loading.Made.{Made}
use Rattle.network_load.specs.Lists.{list_says}
use Rattle.network_load.specs.Loads.{IsLoadOf, IsLoadRefused, IsNodeCount, changes_for, first_tickets, last_for, nodes_for, nodes_in}
use Rattle.network_load.specs.Networks.{HoldsJust}

-- there are no nodes only where nothing is listed and no number is asked for
pub no_nodes : (text : List ℕ) (asked : Option ℕ) (edges : List Edge) (nodes : ℕ) → list_says (last_for asked) text ≡ Ok edges → IfSome asked IsNodeCount → nodes ≡ unwrap_or asked (nodes_in edges) → nodes < 1 → IsLoadRefused text asked NodeCount
no_nodes text None [] nodes says fits is none = (refl, says)
no_nodes text None (e ∷ es) nodes says fits is none = absurd (omega (arith, is, none))
no_nodes text (Some n) edges nodes says fits is none = absurd (omega (arith, fits.0, is, none))

zeros : (n : ℕ) → AllByRecursion (λ ticket. ticket ≤ worn_limit) (replicate n 0)
zeros zero = tt
zeros (suc n) = (omega arith, zeros n)

-- the last tickets of so many changes of session 0
pub first_are : (count : ℕ) → count ≤ worn_limit → AreTickets (first_tickets count)
first_are count fits = record { wide = refl; fit = (fits, zeros 63) }

-- what was made of a list
pub load_is : (text : List ℕ) (asked : Option ℕ) (edges : List Edge) (made : Made) (graph : Network) (tickets : List ℕ) → list_says (last_for asked) text ≡ Ok edges → made.nodes ≡ nodes_for asked edges → HoldsJust made.nodes edges graph
    → made.count ≡ changes_for (length edges) → made.edges ≡ length edges → tickets ≡ first_tickets made.count → StandsFor (state_with made.count (record { nodes = made.nodes; edges = graph.edges }) tickets) made.bytes.items → IsLoadOf text asked made
load_is text asked edges made graph tickets says nodes holds count many are stands = record {
  edges = edges;
  graph = graph;
  says = says;
  holds = subst (λ n. HoldsJust n edges graph) nodes holds;
  stands =
      subst (λ (s : State). StandsFor s made.bytes.items)
      (ap (λ n. state_with made.count (record { nodes = n; edges = graph.edges }) tickets) (sym holds.nodes_are)
      ∙ ap (λ (t : List ℕ). state_with made.count graph t) are
      ∙ ap (λ n. state_with n graph (first_tickets n)) count)
      stands;
  count = count;
  edge_count = many;
  node_count = nodes;
}
