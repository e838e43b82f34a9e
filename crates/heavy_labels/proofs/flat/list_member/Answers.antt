use Rattle.std.proofs.Common.{map, subst}
use Rattle.heavy_labels.specs.FlatNumbers.{IsLabelAt, label_over}
use Rattle.heavy_labels.specs.Numbered.{seen}
use Rattle.heavy_labels.proofs.Left.{pushed}
use Rattle.heavy_labels.proofs.FlatSteps.{flat_more}
use Rattle.heavy_labels.proofs.flat.list_member.Goals as goal

pub returns : goal.returns
returns c =
    flat_more c.args.tree.now.members.now c.args.tree.now.above.now c.args.tree.now.heavy.now c.args.ahead.now c.args.at (map seen c.args.out.now.items) (map seen c.push.new.self.items) c.label_at-label.result c.requires.measured.above c.requires.there c.requires.flat
    (subst (λ z. IsLabelAt c.args.tree.now.members.now c.args.tree.now.above.now c.args.tree.now.heavy.now c.args.ahead.now c.args.at (label_over c.args.tree.now.above.now (map seen z) c.args.at) c.label_at-label.result) c.as_slice.ensures.value c.label_at-label.ensures)
    (pushed c.args.out.now.items c.push.new.self.items c.member_with-member.result _ c.in_ok-push.ensures.items c.member_with-member.ensures)
