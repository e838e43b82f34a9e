use Rattle.std.proofs.Common.{map, ap, ◌∙◌}
use Rattle.generations.specs.Shelves.{plain}
use Rattle.generations.proofs.Shelving.{shelved}
use Rattle.generations.proofs.fold.Board.fold.Goals as goal

pub returns-in_ok-scheme-in-Generation : goal.returns-in_ok-scheme-in-Generation
returns-in_ok-scheme-in-Generation c =
    let b = c.self.inside in
    let e = ap (map plain) c.put.ensures ∙ shelved b.shelf.items (record { number = c.in-Generation.number; scheme = c.in_ok-scheme-in-Generation.scheme }) _ c.in_ok-scheme-in-Generation.ensures in
    rw (← c.self.view_is, c.in-Generation.is) (ap (λ z. record { marks = b.marks; accepted = b.accepted; count = b.count; down = b.down; shelf = z }) e)
