use Rattle.std.proofs.Common.{rules, IsTrue, List, ℕ, subst, sym, ◌∙◌}
use Rattle.schemes.specs.declared.parts.Parts.{Parts}
use Rattle.table_files.specs.Tables.{AreThere, asked_nodes}
use Rattle.table_files.proofs.PutFiles.{asked_there}
use Rattle.table_files.proofs.putting.put_asked.Goals as goal

pub put_all-requires : goal.put_all-requires
put_all-requires g c =
    let named = c.args.named.now in
    let count = c.parts.result.now.nodes in
    let yes : IsTrue c.are_there.result = search rules in
    let there : AreThere count (asked_nodes named count) = asked_there named count (c.are_there.ensures.0 yes) in
    let shown : AreThere count c.deref.result.now = subst (λ (ns : List ℕ). AreThere count ns) (sym (c.deref.ensures.value ∙ c.in_ok-nodes.ensures)) there in
    subst (λ (p : Parts). AreThere p.nodes c.deref.result.now) c.parts.ensures shown
