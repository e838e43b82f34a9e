use Rattle.std.proofs.Common.{subst}
use Rattle.node_table.specs.Building.{IsJoined}
use Rattle.node_table.proofs.Builds.JoinedRanges.{build_joined}
use Rattle.node_table.proofs.partial.PartialScheme.join.Goals as goal

pub returns-clause-ranges : goal.returns-clause-ranges
returns-clause-ranges c m flags nearest generation first middle last front back here next =
    build_joined m flags nearest generation c.args.self c.args.next c.in_ok-parts.parts first middle last front back here next
    (subst (λ q. IsJoined c.args.self q c.in_ok-parts.parts) c.next.view_is (subst (λ p. IsJoined p c.next.inside.parts c.in_ok-parts.parts) c.self.view_is c.in_ok-parts.ensures))
