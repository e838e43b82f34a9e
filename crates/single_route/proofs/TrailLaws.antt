-- The laws of trails.
use Rattle.std.proofs.Common.{◌≡◌, ℕ, List, ◌∷◌, length, sym, ap, ◌∙◌, subst, arith}
use Rattle.graph_edits.specs.Walks.{IsWalk, walk_length}
use Rattle.schemes.specs.Service.{LeadAlong}
use Rattle.single_route.specs.LandmarkTrees.{IsMemberAt, IsParentIn}
use Rattle.single_route.specs.LandmarkTrails.{IsTreePath}
use Rattle.single_route.specs.TrailLaws.{TrailsAreOne, TrailsAreGood}
use Rattle.single_route.proofs.Climbs.{one_path, end_at}
use Rattle.single_route.proofs.TrailWalks.{one_distance, one_parent, nearer_parent, one_root, path_walk, few_nodes, start_member, stretch}
use Rattle.single_route.proofs.WayPorts.{one_lead}

tail_same : {x y : ℕ} {xs ys : List ℕ} → x ∷ xs ≡ y ∷ ys → xs ≡ ys
tail_same e = cc

pub trails_one : TrailsAreOne
trails_one m flags u v a b sound p q =
    let r = p.root in
    let same = one_root m.edges flags u v q.root r q.by_rule p.by_rule in
    let path = subst (λ z. IsTreePath (IsParentIn m.edges flags z) u v b.nodes.items) same q.path in
    let nodes = one_path (IsParentIn m.edges flags r) (IsMemberAt m.edges flags r) (one_parent m sound flags r) (one_distance m sound flags r) (nearer_parent m sound flags r)
    u v p.member.0 a.nodes.items b.nodes.items p.member.1 p.path path in
    let rest : p.rest ≡ q.rest = tail_same (sym p.begins ∙ nodes ∙ q.begins) in
    record {
      nodes = nodes;
      ports = one_lead m u q.rest a.ports.items b.ports.items (subst (λ z. LeadAlong m u z a.ports.items) rest p.ports) q.ports;
      length = p.length ∙ ap (walk_length m.edges u) rest ∙ sym q.length;
    }

pub trails_good : TrailsAreGood
trails_good m flags u v trail sound i j t =
    let r = t.root in
    let d = t.member.0 in
    let a = t.member.1 in
    let top = end_at (IsParentIn m.edges flags r) (IsMemberAt m.edges flags r) (one_parent m sound flags r) (one_distance m sound flags r) (nearer_parent m sound flags r) u t.path.up t.path.at d t.path.rises a in
    let b = start_member m sound flags r v t.path.down t.path.at top.0 t.path.falls top.1 in
    let w = path_walk m sound flags r u v d b.0 trail.nodes.items a b.1 t.path in
    let many = few_nodes m sound flags r u v d b.0 trail.nodes.items i j a b.1 t.path in
    let rest : w.rest ≡ t.rest = tail_same (sym w.begins ∙ t.begins) in
    let n = ap length t.begins in
    record {
      trip = t.rest;
      nodes = t.begins;
      good = record {
        walk = subst (λ z. IsWalk m.edges u z v) rest w.walk;
        short = λ xs walk.
            let k = stretch m sound flags r u v d b.0 t.by_rule a b.1 xs walk in
            let l = w.short in
            let e : walk_length m.edges u w.rest ≡ walk_length m.edges u t.rest = ap (walk_length m.edges u) rest in
            omega (arith, k, l, e);
        few = omega (arith, many, n);
      };
      ports = t.ports;
      length = t.length;
    }
