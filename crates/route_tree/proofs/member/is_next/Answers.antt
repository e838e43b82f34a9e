use Rattle.std.proofs.Common.{◌<◌, ◌∙◌, sym, arith}
use Rattle.std.proofs.lemmas.Bool.{both_ways}
use Rattle.route_tree.proofs.Waiting.{clash, no_member}
use Rattle.route_tree.proofs.Following.{by_answer, refused, some_of, none_of, is_not_fresh, is_next_from, parent_not_found}
use Rattle.route_tree.proofs.member.is_next.Goals as goal

pub returns-then-is_some : goal.returns-then-is_some
returns-then-is_some g c =
    let s = some_of c.find.result c.is_some.result c.is_some.ensures c.if-is_some.true in
    refused (is_not_fresh c.args.members.now c.args.at c.args.places.now.table.items c.requires.finds s.0 (sym c.find.ensures ∙ s.1))

pub returns-then-not-has_both : goal.returns-then-not-has_both
returns-then-not-has_both g c =
    let z : 0 < c.args.at = omega (arith, c.if-at-eq0.false) in
    refused (λ n. both_ways _ c.if-not-has_both.true (c.has_both.ensures.1 (n.ports z no_member)))

pub returns-in-Some : goal.returns-in-Some
returns-in-Some g c =
    let z : 0 < c.args.at = omega (arith, c.if-at-eq0.false) in
    let table = c.args.places.now.table.items in
    let none = sym c.find.ensures ∙ none_of c.find.result c.is_some.result c.is_some.ensures c.if-is_some.false in
    let both = c.has_both.ensures.0 c.if-not-has_both.false in
    by_answer c.find-in-Some.result c.is_some-in-Some.result c.is_some-in-Some.ensures
    (λ k e. is_next_from c.args.members.now c.args.at table c.requires.finds c.requires.there z none both c.in-Some.parent k c.in-Some.is (sym c.find-in-Some.ensures ∙ e))
    (λ e. parent_not_found c.args.members.now c.args.at table c.requires.finds z c.in-Some.parent c.in-Some.is (sym c.find-in-Some.ensures ∙ e))

pub returns-in-None : goal.returns-in-None
returns-in-None g c =
    let z : 0 < c.args.at = omega (arith, c.if-at-eq0.false) in
    refused (λ n. clash (sym c.in-None.is ∙ (n.parent z no_member).1.1 no_member))
