use Rattle.std.proofs.Common.{◌≡◌, ◌<◌, ◌^◌, ◌∙◌, rules, arith, ◌∷◌, [], ◌++◌, List, ℕ, All, Option, Some, map, decimal, subst, sym, ap}
use Rattle.std.proofs.lemmas.List.{take_all}
use Rattle.std.proofs.lemmas.List.Elements.{All-push}
use Rattle.clap.specs.Walk.{Text, all_of, texts}
use Rattle.command_line.specs.Asked.{AreNodes}
use Rattle.command_line.specs.Readings.{rows_in}
use Rattle.command_line.proofs.Nodes.{node_refused, one_nodes, one_text_more, part_refused}
use Rattle.command_line.proofs.arguments.Arguments.nodes.Goals as goal

pub returns-in_err-node : goal.returns-in_err-node
returns-in_err-node c =
    let here : all_of c.args.id.now (rows_in c.args.self.now) ≡ Some (texts c.in-Some.given.now) = search rules in
    part_refused _ _ c.from_residual.result c.in_err-node.field-0.0 c.from_residual.ensures.1 c.in_err-node.ensures.refusals
    (λ nodes are. node_refused c.in-Some.given.now nodes c.loop-text.text-index c.in_err-node.field-0.0 (omega arith) (subst (λ (o : Option (List Text)). AreNodes o nodes) here are) c.in_err-node.ensures.only)

pub loop-text-preserved : goal.loop-text-preserved
loop-text-preserved c =
    let old = c.loop-text.nodes.items in
    let node = c.in_ok-node.node in
    let P : ℕ → Type 0 = λ n. n < 2 ^ 16 in
    let fits : All P (old ++ node ∷ []) = All-push P old node c.loop-text.invariant.fits (omega (arith, c.in_ok-node.ensures.found.1)) in
    record {
      read = ap (map decimal) c.in_ok-push.ensures.items ∙ one_text_more old node c.in-Some.given.now c.loop-text.text-index (omega arith) c.in_ok-node.ensures.found.0 c.loop-text.invariant.read;
      fits = subst (λ (ns : List ℕ). All P ns) (sym c.in_ok-push.ensures.items) fits;
    }

pub returns : goal.returns
returns c =
    let given = c.in-Some.given.now in
    let read = c.loop-text.nodes.items in
    let here : all_of c.args.id.now (rows_in c.args.self.now) ≡ Some (texts given) = search rules in
    let all = take_all c.loop-text.text-index given (omega arith) in
    let are : AreNodes (all_of c.args.id.now (rows_in c.args.self.now)) read =
    subst (λ (o : Option (List Text)). AreNodes o read) (sym here) (sym (c.loop-text.invariant.read ∙ ap texts all), c.loop-text.invariant.fits) in
    record { found = are; same = λ nodes others. one_nodes (all_of c.args.id.now (rows_in c.args.self.now)) read nodes are others; only = λ nodes others. tt; refusals = tt }
