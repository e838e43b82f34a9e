-- The words that proofs here speak with: of the library, of the crates below, and of this one.
pub use Rattle.std.proofs.Common.{Bool, List, [], ap, arith, cond, drop, false, get_or, inl, inr, length, map, max, min, refl, rules, subst, suc, sym, true, zero, ℕ, ◌%◌, ◌*◌, ◌+◌, ◌-◌, ◌/◌, ◌<◌, ◌==◌, ◌∙◌, ◌∷◌, ◌≡◌, ◌≢◌, ◌≤◌, ◌⊎◌}
pub use Rattle.std.proofs.Math.ListN.{replicate, set}
pub use Rattle.std.proofs.lemmas.Bool.{both_ways, cases_eq, cases_lt, cases_order, cond_both, eq-eqb, eqb-false, eqb-true, false_from_ne_true, iff_false, ne_eqb}
pub use Rattle.std.proofs.lemmas.Grind.{div_ceil_times, get_or-set_at}
pub use Rattle.std.proofs.lemmas.List.{drop_more, get_or-replicate, get_or-set_other, get_or-set_same, get_or_default, length-replicate, length-set, nil_from_length}
pub use Rattle.std.proofs.lemmas.List.Elements.{All-contains, All-head, All-tail}
pub use Rattle.std.proofs.lemmas.Option.{MatchOption-at_none, MatchOption-at_some, get_or_from_slice_get, slice_get_past, slice_get_within}
pub use Rattle.std.specs.List.{All}
pub use Rattle.std.specs.List.Sorted.{IsStrictlyIncreasing}
pub use Rattle.std.specs.Prelude.{Err, IsSome, IsTrue, MatchOption, None, Ok, Option, Result, Some, is_some, not, slice_index, ◌↔◌}
pub use Rattle.graph_edits.specs.Edges.{IsSound, Network, neighbours_of, over_port, weight_in}
pub use Rattle.graph_edits.specs.Laws.{All-neighbours_of, Contains-neighbours_of, rising_neighbours}
pub use Rattle.heavy_labels.specs.Label.{Label}
pub use Rattle.heavy_labels.specs.Numbering.{Record, lights_at, place}
pub use Rattle.heavy_labels.specs.Stepped.{record_of}
pub use Rattle.landmarks.specs.declared.near.Near.{Near}
pub use Rattle.schemes.proofs.Basics.Options.{is_there, not_none, same_value, some_is}
pub use Rattle.schemes.proofs.Basics.Searches.{entry_found, entry_missing, index_at, index_none, key_at, key_there, keys_length, located_at, rises}
pub use Rattle.schemes.proofs.Basics.Walks.{symmetric}
pub use Rattle.schemes.proofs.LocalForms.LocalChecks.{children_near, labels_check, records_check}
pub use Rattle.schemes.proofs.LocalForms.TreeOfTables.{child_of, entry_at, far_enough, node_inside, placed_tree, tree_to_depth-fits, tree_to_depth-node}
pub use Rattle.schemes.proofs.Serving.CheckedLaw.{checked_serves, distances_from, first_is_listed}
pub use Rattle.schemes.proofs.Serving.Exact.{Distances}
pub use Rattle.schemes.specs.Checks.{Fault, HasDirectories, HasParents, Holds, IsChecked, IsClosed, IsFirstFault, IsListed, IsNearestThere, IsShaped, IsStrict, children, distance_of, down_port, farthest, k1, k2, k3, k4, k5, k6, k7, k8, number_of, parent_is, tree_at, tree_to_depth, up_port}
pub use Rattle.schemes.specs.Entry.{Entry}
pub use Rattle.schemes.specs.Local.{FitsBelow, HasLocalLabels, HasLocalRecords, IsHeavyOf, IsLocalLabel, IsRow, all_but, first_with, in_row, lights_from, lights_to, parent_of, record_at, record_or, row_by, span, widest_span}
pub use Rattle.schemes.specs.Ports.{neighbours, port_to}
pub use Rattle.schemes.specs.Tables.{Tables, directory_at, entries_at, first_entry, first_listed, items_at, nodes_of, or_none, roots_of, tables, value_at}
pub use Rattle.schemes.specs.declared.parts.Listed.{Listed}
pub use Rattle.schemes.specs.declared.parts.Parts.{Parts}
pub use Rattle.certificate.proofs.Found.{accepted, and_more, found, found_first, refused}
pub use Rattle.certificate.specs.Found.{AreEntries, AreNext}
pub use Rattle.certificate.specs.Climbs.{AreLinkedBy, lights_up}
unfoldable pub use Rattle.certificate.specs.Climbs.{HasLabelsAt, HasLights, HoldsFirst, IsHomeRight, IsLabelRight, IsLinked}
pub use Rattle.certificate.specs.Entries.{AllAscend, AreBelow, EachEntry, HasPlaces, IsStrictAt}
unfoldable pub use Rattle.certificate.specs.Entries.{HasDirectoryAt, HasOrderAt, HasOwn, HasParentAt, IsClosedAt, IsClosedOver, IsEntryShaped, IsFramed, IsListedBack, IsListedRight, IsNearestAt, IsNoNearer, IsNodeFramed, IsRightOver, IsThere, IsTightAt, IsTightOver}
pub use Rattle.certificate.specs.Faults.{IsExact, rule_of}
pub use Rattle.certificate.specs.Trees.{HoldBetween, HoldInRange, HoldOfAll}
pub use Rattle.certificate.specs.Rows.{AreNumbered, IsWidest, LeadsTo, StartsAt, behind, but, children_among, first_widest, with_child}
unfoldable pub use Rattle.certificate.specs.Rows.{AreChildrenFit, FitsAt, IsLocalAt, IsPorted, IsSwept}
pub use Rattle.certificate.specs.Rules.{HoldsAt, HoldsBefore, HoldsTo}
pub use Rattle.certificate.specs.Trees.{ArePast, AreRightTo, GoOn, IsEntryRight, IsRootRight, IsTreeRight}
