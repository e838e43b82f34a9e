use Rattle.std.proofs.Common.{subst}
use Rattle.std.specs.Prelude.{IfSome}
use Rattle.generations.specs.Beginnings.{board_after}
use Rattle.line_workers.specs.Tables.{IsNewestOn}
use Rattle.line_workers.proofs.TablesPut.{newest_published}
use Rattle.line_workers.proofs.tabling.tables_of.Goals as goal

pub put_each-reader-requires : goal.put_each-reader-requires
put_each-reader-requires g c =
    let known = c.newest_now-reader.result.0.all in
    newest_published known c.in-Some.newest (subst (λ o. IfSome o (IsNewestOn (board_after known).shelf)) c.in-Some.is c.newest_now-reader.ensures.newest)
