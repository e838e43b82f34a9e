-- The words of the crates below that statements here speak with.
pub use Rattle.std.specs.List.Sorted.{IsStrictlyIncreasing}
pub use Rattle.graph_edits.specs.Edges.{IsSound, Network, neighbours_of, over_port, weight_in}
pub use Rattle.heavy_labels.specs.Label.{Label}
pub use Rattle.heavy_labels.specs.Numbering.{lights_at}
pub use Rattle.heavy_labels.specs.Stepped.{record_of}
pub use Rattle.heavy_labels.specs.declared.tree_record.Record.{Record}
pub use Rattle.landmarks.specs.declared.near.Near.{Near}
pub use Rattle.schemes.specs.Checks.{Fault, Holds, IsChecked, IsFirstFault, distance_of, farthest, k1, k2, k3, k4, k5, k6, k7, k8, number_of, parent_is}
pub use Rattle.schemes.specs.Entry.{Entry}
pub use Rattle.schemes.specs.Local.{FitsRoot, IsLocalLabel, all_but, first_with, lights_to, parent_of, record_at, widest_span}
pub use Rattle.schemes.specs.Ports.{filtered, neighbours, port_to}
pub use Rattle.schemes.specs.Service.{Serves}
pub use Rattle.schemes.specs.Tables.{RefersTo, Tables, directory_at, entries_at, first_entry, nodes_of, or_none, ports_at, roots_of, tables}
pub use Rattle.schemes.specs.declared.parts.Listed.{Listed}
pub use Rattle.schemes.specs.declared.parts.Parts.{Parts}
pub use denote.Ref.{Bor}
