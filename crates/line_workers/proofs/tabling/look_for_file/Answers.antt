use Rattle.std.proofs.Common.{◌≡◌, Some, sym, subst}
use Rattle.generations.specs.Boards.{BoardState, scheme_of}
use Rattle.generations.specs.Knowledges.{Knowledge}
use Rattle.line_workers.specs.Tables.{IsLookedBy, IsLookedOn}
use Rattle.line_workers.proofs.TablesPut.{looked_by, node_shown}
use Rattle.line_workers.proofs.tabling.look_for_file.Goals as goal

pub file_on-looked-requires : goal.file_on-looked-requires
file_on-looked-requires c q shown =
    node_shown c.args.reader.all c.in-Ok.look c.args.generation c.args.node q c.in-Ok.ensures.learnt c.board.ensures.lawful c.requires
    (subst (λ (s : BoardState). scheme_of c.args.generation s.shelf ≡ Some q) c.board.ensures.fold shown)

pub returns-in-Ok-clause-looked : goal.returns-in-Ok-clause-looked
returns-in-Ok-clause-looked c =
    let result = c.file_on-looked.result in
    subst (λ (k : Knowledge). IsLookedBy c.args.reader.all k.all c.args.generation c.args.folder.now c.args.node result) (sym c.leave.ensures)
    (looked_by c.args.reader.all c.in-Ok.look c.args.generation c.args.folder.now c.args.node result c.in-Ok.ensures.learnt c.board.ensures.lawful
    (subst (λ (s : BoardState). IsLookedOn (scheme_of c.args.generation s.shelf) c.args.folder.now c.args.node result) c.board.ensures.fold c.file_on-looked.ensures))
