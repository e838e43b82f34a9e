use Rattle.std.proofs.Common.{◌≡◌, List, map, sym, ap, ◌∙◌, subst, take}
use Rattle.std.specs.Prelude.{IfOk}
use Rattle.std.proofs.lemmas.List.{take-map}
use Rattle.generations.specs.declared.posting.Notice.{Notice}
use Rattle.generations.specs.declared.posting.Posting.{Posting}
use Rattle.generations.specs.Notices.{notice_of}
use Rattle.generations.specs.Boards.{board_of}
use Rattle.interleave.proofs.stored.Stored.board.Goals as goal

pub returns-then-seen-postings : goal.returns-then-seen-postings
returns-then-seen-postings c =
    let s = c.args.self.now in
    let first : map notice_of (take c.args.seen c.as_slice-postings.result.now) ≡ take c.args.seen (map notice_of s.postings.items) =
    sym (take-map notice_of c.args.seen c.as_slice-postings.result.now) ∙ ap (λ (ps : List Posting). take c.args.seen (map notice_of ps)) c.as_slice-postings.ensures.value in
    subst (λ (l : List Notice). IfOk c.board_after.result (λ board. board ≡ board_of s.starts s.start l)) first c.board_after.ensures
