-- Requests after requests: what layout_reader proves of entries, by the form of this layout.
use Rattle.std.proofs.Common.{◌≡◌, ◌+◌, List, [], ◌∷◌, ◌++◌, length, Some}
use Rattle.std.specs.Option.{option_and_then}
use Rattle.graph_edits.specs.Edges.{Network, most_edges}
use Rattle.graph_edits.specs.declared.edits.Op.{Op}
use Rattle.graph_edits.specs.Changes.{fold}
use Rattle.requests.specs.Tickets.{tickets_after}
use Rattle.layout_reader.proofs.Folds as parts
use Rattle.layout_2.specs.Records.{Entry, entries_of}
use Rattle.layout_2.specs.State.{State, state_with, changes_of, asked, after}
use Rattle.layout_2.specs.Form.{layout_form}
use Rattle.layout_2.specs.FormLaws.{layout_is_form}

pub fold-append : (g : Network) (xs ys : List (List Op)) → fold g (xs ++ ys) ≡ option_and_then (λ h. fold h ys) (fold g xs)
fold-append = parts.fold-append most_edges

pub after-nil : (s : State) → after s [] ≡ Some s
after-nil = parts.after-nil layout_form layout_is_form

pub after-append : (s : State) (xs ys : List Entry) → after s (xs ++ ys) ≡ option_and_then (λ t. after t ys) (after s xs)
after-append = parts.after-append layout_form layout_is_form

-- one group more
pub after-push : (s t u : State) (groups : List (List Entry)) (group : List Entry) → after s (entries_of groups) ≡ Some t → after t group ≡ Some u → after s (entries_of (groups ++ group ∷ [])) ≡ Some u
after-push = parts.after-push layout_form layout_is_form

-- the state after requests
pub after_is : (s : State) (requests : List Entry) (graph : Network) → fold s.graph (changes_of requests) ≡ Some graph → after s requests ≡ Some (state_with (s.count + length requests) graph (tickets_after s.tickets (asked requests)))
after_is = parts.after_is layout_form

pub after_count : (s t : State) (requests : List Entry) → after s requests ≡ Some t → t.count ≡ s.count + length requests
after_count = parts.after_count layout_form

pub nodes_fold : (g h : Network) (changes : List (List Op)) → fold g changes ≡ Some h → h.nodes ≡ g.nodes
nodes_fold = parts.nodes_fold most_edges
