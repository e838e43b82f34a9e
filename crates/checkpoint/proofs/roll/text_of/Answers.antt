use Rattle.std.proofs.Common.{◌++◌, ◌∙◌, ap, ℕ, List, length, append_assoc}
use Rattle.std.specs.FinMap.{len, len-entries, entries}
use Rattle.layout_2.specs.State.{State, state_with, tickets_text}
use Rattle.layout_reader.specs.EdgeTexts.{edges_text}
use Rattle.layout_reader.specs.Heads.{head_text}
use Rattle.checkpoint.proofs.Rolls.{padded}
use Rattle.checkpoint.proofs.roll.text_of.Goals as goal

pub returns-clause-text : goal.returns-clause-text
returns-clause-text c lawful =
    let g = c.args.graph.now in
    let tickets = c.args.tickets.now in
    let state : State = state_with c.args.count g tickets in
    let head = c.in_ok-put_head.ensures in
    let headed = head ∙ ap (λ (l : List ℕ). l ++ head_text c.args.epoch c.args.count g.nodes (len g.edges)) c.in_ok-text.ensures.items ∙ ap (λ k. head_text c.args.epoch c.args.count g.nodes k) (len-entries g.edges) in
    let ticketed = c.in_ok-put_tickets.ensures ∙ ap (λ (l : List ℕ). l ++ tickets_text tickets) headed in
    padded c.args.epoch state c.put_edges.new.text.items c.pad.new.text.items c.told-tickets lawful
    (c.in_ok-put_edges.ensures lawful ∙ ap (λ (l : List ℕ). l ++ edges_text g.edges) ticketed
    ∙ append_assoc (head_text c.args.epoch c.args.count g.nodes (length (entries g.edges))) (tickets_text tickets) (edges_text g.edges))
    c.in_ok-pad.ensures.text
