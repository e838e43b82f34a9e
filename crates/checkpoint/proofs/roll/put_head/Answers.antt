use Rattle.std.proofs.Common.{◌++◌, ◌∙◌, ap, ℕ, List}
use Rattle.layout_reader.specs.Heads.{head_text}
use Rattle.checkpoint.proofs.roll.put_head.Goals as goal

pub returns : goal.returns
returns c =
    let g = c.args.graph.now in
    let head = c.head_of.ensures ∙ ap (λ k. head_text c.args.epoch c.args.count k c.edges.result) c.nodes-nodes.ensures.nodes ∙ ap (λ k. head_text c.args.epoch c.args.count g.nodes k) c.edges.ensures in
    c.in_ok-extend_from_slice.ensures.items ∙ ap (λ (h : List ℕ). c.args.text.now.items ++ h) head
