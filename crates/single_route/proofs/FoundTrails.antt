-- From a found tree and the path in it to the trail.
use Rattle.std.proofs.Common.{◌≡◌, ℕ, ◌+◌, ◌-◌, ◌*◌, ◌^◌, ◌<◌, ◌≤◌, min, Bool, List, ◌∷◌, length, sym, ap, ◌∙◌, subst, arith}
use Rattle.graph_edits.specs.Edges.{Network, IsSound, greatest_weight, most_nodes}
use Rattle.graph_edits.specs.Walks.{IsWalk, walk_length}
use Rattle.distances.specs.declared.reach.Reached.{Reached}
use Rattle.schemes.specs.declared.trail.Trail.{Trail}
use Rattle.single_route.specs.LandmarkTrees.{IsMemberAt, IsParentIn}
use Rattle.single_route.specs.LandmarkTrails.{IsTreePath, IsTrailBetween}
use Rattle.single_route.specs.ListedLines.{IsListedPath}
use Rattle.single_route.specs.FoundTrees.{IsTreeFor}
use Rattle.single_route.specs.Ways.{IsMeasured, IsWay}
use Rattle.single_route.proofs.RuleLemmas.{member_listed, path_listed}
use Rattle.single_route.proofs.TrailWalks.{path_walk, few_nodes}
use Rattle.single_route.proofs.WayPorts.{hops_of, short_hops}

module _ (g : Network) (sound : IsSound g) (flags : List Bool) (u v : ℕ) (inside : u < g.nodes) (inside_too : v < g.nodes) (tree : List Reached) (t : IsTreeFor g.edges flags u v tree) (nodes : List ℕ) (p : IsListedPath tree u v nodes) where
  from : (d : ℕ) × IsMemberAt g.edges flags t.root u d
  from = member_listed g sound flags t.root tree t.tree_is u t.from

  to : (d : ℕ) × IsMemberAt g.edges flags t.root v d
  to = member_listed g sound flags t.root tree t.tree_is v t.to

  path : IsTreePath (IsParentIn g.edges flags t.root) u v nodes
  path = path_listed g sound flags t.root tree t.tree_is u v nodes t.from p

  pub rest : (rest : List ℕ) × ((nodes ≡ u ∷ rest) × IsWalk g.edges u rest v)
  rest = let w = path_walk g sound flags t.root u v from.0 to.0 nodes from.1 to.1 path in (w.rest, (w.begins, w.walk))

  few : length nodes ≤ g.nodes
  few = few_nodes g sound flags t.root u v from.0 to.0 nodes inside inside_too from.1 to.1 path

  -- it is a way
  pub found_way : IsWay g nodes
  found_way = subst (IsWay g) (sym rest.1.0) (hops_of g u rest.0 v rest.1.1)

  uncapped : (len total hops many most : ℕ) → len ≡ min total (2 ^ 64 - 1) → total ≤ hops * greatest_weight → hops + 1 ≡ many → many ≤ most → most ≤ most_nodes → len ≡ total
  uncapped len total hops many most a b c d e = omega (arith, a, b, c, d, e)

  -- and measured it is the trail
  pub found_trail : (trail : Trail) → trail.nodes.items ≡ nodes → IsMeasured g nodes trail.ports.items trail.length → IsTrailBetween g flags u v trail
  found_trail trail same measured =
      let m = subst (λ z. IsMeasured g z trail.ports.items trail.length) rest.1.0 measured in
      let short = short_hops g sound u rest.0 (hops_of g u rest.0 v rest.1.1) in
      let many : length rest.0 + 1 ≡ length nodes = (let k = ap length rest.1.0 in omega (arith, k)) in
      record {
        root = t.root;
        by_rule = t.by_rule;
        member = from;
        path = subst (IsTreePath (IsParentIn g.edges flags t.root) u v) (sym same) path;
        rest = rest.0;
        begins = same ∙ rest.1.0;
        ports = m.0;
        length = uncapped trail.length (walk_length g.edges u rest.0) (length rest.0) (length nodes) g.nodes m.1 short many few sound.nodes_fit.1;
      }
