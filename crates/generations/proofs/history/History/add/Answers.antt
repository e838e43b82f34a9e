use Rattle.std.proofs.Common.{length, sym, ◌∙◌, ap}
use Rattle.generations.specs.Notices.{notice_of}
use Rattle.generations.specs.Entries.{notices}
use Rattle.generations.proofs.Appending.{adds_moves}
use Rattle.generations.proofs.history.History.add.Goals as goal

pub compare_exchange-found-requires : goal.compare_exchange-found-requires
compare_exchange-found-requires c =
    let h = c.args.head.now.head_is in
    let offer = c.plain-offer.ensures in
    let pen = c.no_pen-pen.ensures in
    let s = c.again-seen.ensures in
    let b = ap (λ z. z.book) s ∙ (ap (λ w. w.opening.book) c.self.view_is ∙ sym c.requires.book) in (
      ap (λ w. w.tracked) h,
      b,
      pen.0 ∙ b,
      offer.0,
      rw (ap (λ w. w.key) h, pen.1, offer.1, offer.3) (adds_moves c.again-seen.result.log (notice_of c.args.posting.now) c.self.inside.postings (ap (λ z. length (notices z.log)) s ∙ sym c.self.invariant.counted)),
    )
