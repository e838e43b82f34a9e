use Rattle.std.proofs.Common.{◌≡◌, ◌++◌}
use Rattle.std.specs.String.{string_bytes}
use Rattle.std.specs.FinMap.{len}
use Rattle.command_output.specs.Lines.{line, totals_text}
use Rattle.command_output.proofs.Listings.{lines_below}
use Rattle.command_output.proofs.listing.listing_of.Given as goal

abbrev pub invariant-loop-node : goal.invariant-loop-node
invariant-loop-node l = string_bytes l.text ≡ line (totals_text l.count (len l.graph.edges)) ++ lines_below l.graph l.node
