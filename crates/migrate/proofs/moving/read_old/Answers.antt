use Rattle.std.proofs.Common.{subst, sym}
use Rattle.layout_1.specs.Loading.{stands_for}
use Rattle.layout_1.specs.Refusals.{IsFormatFault, IsNoDeviceFault, TellsOf}
use Rattle.migrate.proofs.moving.read_old.Goals as goal

pub returns-in-Ok-clause-ok : goal.returns-in-Ok-clause-ok
returns-in-Ok-clause-ok g c model =
    let found = c.in-Ok.ensures.ok in
    stands_for c.in-Ok.loaded (g.O.Disk.view c.args.old.now).content found.parts (found.of_model model).in_use.stands

pub returns-in-Err-Damaged-clause-refused : goal.returns-in-Err-Damaged-clause-refused
returns-in-Err-Damaged-clause-refused g c =
    let v = g.O.Disk.view c.args.old.now in
    let is = c.in-Err-Damaged.field-0-is in
    let refused = c.in-Err-Damaged.ensures.refused in
    record {
      content = λ model. let told = refused.of_model model in (subst (λ e. TellsOf e v.content) is told.tells, told.refused (subst IsFormatFault (sym is) tt));
      calls = refused.not_read.served (subst IsNoDeviceFault (sym is) tt);
    }
