use Rattle.std.proofs.Common.{◌∙◌, ap, sym, get_or}
use Rattle.std.proofs.lemmas.List.{get_or_default}
use Rattle.route_tree.specs.declared.member.Member.{Member}
use Rattle.route_tree.proofs.Waiting.{clash, no_member}
use Rattle.route_tree.proofs.Finding.{stands}
use Rattle.route_tree.proofs.growth.parent_place.Goals as goal

pub unreachable-requires : goal.unreachable-requires
unreachable-requires c =
    let h = c.requires.members.parents c.args.at no_member c.requires.below_root c.requires.there in
    clash (sym c.in_default.is ∙ h.1.1 no_member)

pub bounds-places-parent : goal.bounds-places-parent
bounds-places-parent c =
    (stands c.args.members.now c.args.at c.in-Some.parent c.args.places.now (get_or c.args.members.now c.args.at no_member) c.requires.places c.requires.there
    (c.requires.members.parents c.args.at no_member c.requires.below_root c.requires.there) c.in-Some.is).0

pub returns : goal.returns
returns c = λ d.
    (stands c.args.members.now c.args.at c.in-Some.parent c.args.places.now (get_or c.args.members.now c.args.at d) c.requires.places c.requires.there
    (c.requires.members.parents c.args.at d c.requires.below_root c.requires.there) (ap (λ (m : Member). m.parent) (get_or_default c.args.members.now c.args.at d no_member c.requires.there) ∙ c.in-Some.is)).1
