use Rattle.std.proofs.Common.{rules, ◌≡◌, ◌∷◌, ◌<◌, ◌^◌, [], ℕ, List, IsSomeAnd, decimal, subst}
use Rattle.value_syntax.specs.Reading.{texts_of}
use Rattle.live_lines.specs.Lines.{AsksJust, LaunchAsks}
use Rattle.live_lines.proofs.Asking.{no_node, node_asked}
use Rattle.live_lines.proofs.asked.launch_in.Goals as goal

pub returns-in-Some : goal.returns-in-Some
returns-in-Some c =
    let words = texts_of c.args.words.now in
    let found : (texts_of c.args.words.now ≡ decimal c.in-Some.from ∷ c.in-Some.digits.now ∷ []) × (c.in-Some.from < 2 ^ 16) = search rules in
    let asks : AsksJust (LaunchAsks c.in-Some.from c.in-Some.digits.now) c.launch_of.result = subst (λ (ds : List ℕ). AsksJust (LaunchAsks c.in-Some.from ds) c.launch_of.result) c.as_bytes.ensures.value c.launch_of.ensures in
    node_asked LaunchAsks words c.in-Some.from c.in-Some.digits.now c.launch_of.result found.0 found.1
    (λ n ds lt same. subst (λ o. IsSomeAnd o (λ p. (p.0 ≡ n) × (p.1.now ≡ ds))) c.in-Some.is (c.in_ok-from.ensures.only n ds lt same))
    asks

pub returns-in-None : goal.returns-in-None
returns-in-None c =
    no_node LaunchAsks (texts_of c.args.words.now)
    (λ n ds lt same. subst (λ o. IsSomeAnd o (λ p. (p.0 ≡ n) × (p.1.now ≡ ds))) c.in-None.is (c.in_ok-from.ensures.only n ds lt same))
