use Rattle.std.proofs.Common.{arith, sym, ◌∙◌, ap, List, ℕ, ◌≡◌, ◌++◌, ◌∷◌, [], length, subst, IsTrue, length-append}
use Rattle.std.specs.List.{flat_map, AllByRecursion}
use Rattle.std.specs.FinMap.{entries, entries_sorted}
use Rattle.layout_reader.specs.EdgeTexts.{edge_text, IsEdge}
use Rattle.layout_reader.specs.Ascending.{IsAfterLast, last_key}
use Rattle.layout_reader.proofs.EdgeLemmas.{no_entries, next_is, all_below, split_rest, text_push, all_push, last_push}
use Rattle.layout_reader.proofs.edges.read_edges.Goals as goal

pub loop-init : goal.loop-init
loop-init c =
    let none : entries c.in_ok-graph.graph.edges ≡ [] = ap (λ g. entries g.edges) c.in_ok-graph.ensures ∙ no_entries in
    record {
      nodes = ap (λ g. g.nodes) c.in_ok-graph.ensures ∙ ap length c.deref.ensures.value ∙ c.in_ok-degrees.ensures;
      count = ap length none;
      long = omega (arith, c.requires.long);
      text = ap (λ (l : List ((ℕ × ℕ) × ℕ)). flat_map edge_text l ++ c.args.bytes.now) none;
      each = subst (AllByRecursion (λ e. IsEdge c.args.nodes e)) (sym none) tt;
      last = ap (λ (l : List ((ℕ × ℕ) × ℕ)). last_key l) none;
    }

pub returns-then-not-is_next-clause-damaged : goal.returns-then-not-is_next-clause-damaged
returns-then-not-is_next-clause-damaged c e map all text =
    let inv = c.loop.invariant in
    let r = c.edge_of-edge.result in
    let behind = c.split_at.result.1.now in
    let rest : c.loop.rest.now ≡ edge_text ((r.a, r.b), r.weight) ++ behind = split_rest c.loop.rest.now c.split_at.result.0.now behind (edge_text ((r.a, r.b), r.weight)) c.split_at.ensures.front c.split_at.ensures.back c.edge_of-edge.ensures in
    let is = next_is c.args.nodes (omega (arith, c.requires.few)) map (entries c.loop.graph.edges) ((r.a, r.b), r.weight) behind c.args.bytes.now all text inv.each
    (ap (λ (l : List ℕ). flat_map edge_text (entries c.loop.graph.edges) ++ l) (sym rest) ∙ inv.text) ((omega arith, omega arith), omega arith) in
    let yes : IsTrue c.is_next.result = c.is_next.ensures.1 (is.0, subst (λ o. IsAfterLast o (r.a, r.b)) inv.last is.1) in
    let no = c.if-not-is_next.true in
    cc

pub add_edge-requires-clause-last : goal.add_edge-requires-clause-last
add_edge-requires-clause-last c =
    let r = c.edge_of-edge.result in
    all_below (entries c.loop.graph.edges) c.loop.last (r.a, r.b) (entries_sorted c.loop.graph.edges) c.loop.invariant.last (c.is_next.ensures.0 c.if-not-is_next.false).1

pub loop-preserved : goal.loop-preserved
loop-preserved c =
    let inv = c.loop.invariant in
    let r = c.edge_of-edge.result in
    let es = entries c.loop.graph.edges in
    let behind = c.split_at.result.1.now in
    let rest : c.loop.rest.now ≡ edge_text ((r.a, r.b), r.weight) ++ behind = split_rest c.loop.rest.now c.split_at.result.0.now behind (edge_text ((r.a, r.b), r.weight)) c.split_at.ensures.front c.split_at.ensures.back c.edge_of-edge.ensures in
    let list : entries c.add_edge.new.graph.edges ≡ es ++ ((r.a, r.b), r.weight) ∷ [] = c.in_ok-add_edge.ensures.edges in
    record {
      nodes = c.in_ok-add_edge.ensures.nodes ∙ inv.nodes;
      count = ap length list ∙ omega (arith, length-append es (((r.a, r.b), r.weight) ∷ []), inv.count);
      long = omega (arith, ap length rest, length-append (edge_text ((r.a, r.b), r.weight)) behind, inv.long);
      text = ap (λ (l : List ((ℕ × ℕ) × ℕ)). flat_map edge_text l ++ behind) list ∙ text_push es ((r.a, r.b), r.weight) c.loop.rest.now behind c.args.bytes.now inv.text rest;
      each = subst (AllByRecursion (λ e. IsEdge c.args.nodes e)) (sym list) (all_push c.args.nodes es ((r.a, r.b), r.weight) inv.each (c.is_next.ensures.0 c.if-not-is_next.false).0);
      last = ap (λ (l : List ((ℕ × ℕ) × ℕ)). last_key l) list ∙ last_push es (r.a, r.b) r.weight;
    }
