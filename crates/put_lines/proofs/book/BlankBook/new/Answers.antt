use Rattle.put_lines.proofs.Appending.{counted_none}
use Rattle.put_lines.proofs.book.BlankBook.new.Goals as goal

pub open_row-seen-requires : goal.open_row-seen-requires
open_row-seen-requires c = (counted_none, λ xs. tt, c.alone.ensures.1)
