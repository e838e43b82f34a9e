use Rattle.std.proofs.Common.{◌≡◌, ◌∙◌, sym, ap, subst}
use Rattle.graph_edits.specs.Edges.{Network, IsSound}
use Rattle.schemes.specs.declared.parts.Parts.{Parts}
use Rattle.schemes.specs.Checks.{IsChecked}
use Rattle.node_table.specs.Columns.{IsBuiltBetween}
use Rattle.node_table.proofs.Builds.Built.{built_checked}
use Rattle.schemes.proofs.Serving.SchemeLaws.{serves_law, trees_law, nearest_law}
use Rattle.node_table.proofs.partial.PartialScheme.finish.Goals as goal

checked_as : (m : Network) → IsSound m → (p q : Parts) → q ≡ p → IsBuiltBetween m p 0 m.nodes → IsChecked m q
checked_as m s p q e h = subst (IsChecked m) (sym e) (built_checked m s p h)

pub returns : goal.returns
returns c =
    let m = c.args.graph.now in
    let scheme = c.in_ok-scheme.scheme in
    let sound = c.graph_is_sound.ensures in
    let is = c.in_ok-scheme.ensures ∙ c.self.view_is in
    let checked = checked_as m sound c.args.self scheme is c.requires in
    record {
      checked = checked;
      serves = serves_law m scheme sound checked;
      landmarks = ap (λ (p : Parts). p.landmarks.items) is;
      generation = ap (λ (p : Parts). p.generation) is;
      trees = trees_law m scheme sound checked;
      nearest = nearest_law m scheme sound checked;
    }
