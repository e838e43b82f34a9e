use Rattle.std.proofs.Common.{◌+◌, sym, ap, arith, get_or, refl, subst, below_more}
use Rattle.std.proofs.lemmas.Bool.{both_ways}
use Rattle.std.proofs.lemmas.List.{get_or_default}
use Rattle.route_tree.specs.Members.{IsNext}
use Rattle.route_tree.specs.Places.{Finds}
use Rattle.route_tree.specs.declared.member.Member.{Member}
use Rattle.route_tree.proofs.Waiting.{no_member}
use Rattle.route_tree.proofs.Finding.{finds_more}
use Rattle.route_tree.proofs.Following.{refused, nexts_of, members_from}
use Rattle.route_tree.proofs.member.are_members.Goals as goal

pub returns-then-not-is_next : goal.returns-then-not-is_next
returns-then-not-is_next g c = refused (λ a. both_ways _ c.if-not-is_next.true (c.is_next.ensures.1 (nexts_of c.args.members.now a c.loop-i.i (omega arith))))

pub loop-i-preserved : goal.loop-i-preserved
loop-i-preserved g c =
    let ms = c.args.members.now in
    let i = c.loop-i.i in
    let next = c.is_next.ensures.0 c.if-not-is_next.false in
    let node = (get_or ms i no_member).node in
    let more = finds_more ms i node c.loop-i.places.table.items c.loop-i.invariant.table c.loop-i-test.true (λ d. ap (λ (m : Member). m.node) (get_or_default ms i no_member d c.loop-i-test.true)) (λ k d l. next.fresh k d no_member l) in
    record {
      table = subst (Finds ms (i + 1)) (sym c.put.ensures) more;
      next = below_more (λ k. IsNext ms k) i c.loop-i.invariant.next next;
    }

pub returns : goal.returns
returns g c =
    let all = members_from c.args.members.now (omega (arith, c.if-members-eq0.false)) (omega arith) (λ k l. c.loop-i.invariant.next k (omega arith)) in
    ((λ _. all), (λ _. refl))
