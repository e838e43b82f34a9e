use Rattle.std.proofs.Common.{◌∙◌, arith}
use Rattle.disk_trait.proofs.ImageLemmas.{copied, image_turned}
use Rattle.disk_trait.proofs.image.choose.Goals as goal

pub returns-in-0 : goal.returns-in-0
returns-in-0 c =
    let is = copied c.args.synced.now c.args.bytes.now c.args.unsettled.now c.args.low c.args.high (omega arith) (omega (arith, c.requires.agrees.as_long)) c.requires.outside (image_turned c.args.bytes.now c.args.synced.now c.args.unsettled.now c.requires.agrees) in
    rw c.in-0.is (c.put.ensures ∙ is)
