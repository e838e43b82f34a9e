use Rattle.std.proofs.Common.{◌≡◌, ◌≤◌, ◌+◌, ◌-◌, ◌^◌, ◌∙◌, ℕ, List, length, drop, min, sym, ap, arith}
use Rattle.std.proofs.Math.Seq.{drop-length}
use Rattle.graph_edits.specs.Edges.{Network}
use Rattle.graph_edits.specs.Walks.{walk_length}
use Rattle.graph_edits.specs.Lengths.{length_in}
use Rattle.graph_edits.proofs.lengths.length_over.Goals as goal

-- nothing is left to go
at_end : (m : Network) (at n : ℕ) (rest : List ℕ) → n ≤ length rest → length rest ≤ n → walk_length m.edges at (drop n rest) ≡ 0
at_end m at n rest up down = (let e : n ≡ length rest = omega (arith, up, down) in ap (λ k. walk_length m.edges at (drop k rest)) e ∙ ap (walk_length m.edges at) (drop-length rest))

whole : (length total left cap : ℕ) → min (length + left) cap ≡ min total cap → left ≡ 0 → length ≤ cap → length ≡ min total cap
whole length total left cap sum none fits = omega (arith, sum, none, fits)

pub returns : goal.returns
returns c =
    let m = c.args.graph.now in
    let is = c.in-Some.ensures.cases.0 in
    let left = at_end m c.loop-next.at c.loop-next.next-index c.in-Some.rest.now c.loop-next.auto.next-index-end c.loop-next-test.false in
    whole c.loop-next.length (walk_length m.edges c.in-Some.first.now c.in-Some.rest.now) _ (2 ^ 64 - 1) c.loop-next.invariant.sum left c.loop-next.invariant.fits
    ∙ ap (λ nodes. min (length_in m nodes) (2 ^ 64 - 1)) (sym is)
