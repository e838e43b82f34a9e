use Rattle.layout_reader.proofs.ReadLemmas.{still}
use Rattle.checkpoint.proofs.Wholes.{first_shut, both_shut, all_shut}
use Rattle.checkpoint.proofs.whole.shut_slots.Goals as goal

pub returns-in_err-close-clause-any_moment : goal.returns-in_err-close-clause-any_moment
returns-in_err-close-clause-any_moment g c model = first_shut (g.D.Disk.view c.args.disk.now) (g.D.Disk.view c.close.new.disk) (c.close.ensures.any_moment model)

pub returns-clause-any_moment : goal.returns-clause-any_moment
returns-clause-any_moment g c model =
    let v0 = g.D.Disk.view c.args.disk.now in
    let v1 = g.D.Disk.view c.close.new.disk in
    both_shut v0 v1 (g.D.Disk.view c.close-2.new.disk) (c.close.ensures.any_moment model) (c.close-2.ensures.any_moment (still v0 v1 c.close.ensures.ran model))

pub returns-clause-ok : goal.returns-clause-ok
returns-clause-ok g c model =
    let v0 = g.D.Disk.view c.args.disk.now in
    let v1 = g.D.Disk.view c.close.new.disk in
    let m1 = still v0 v1 c.close.ensures.ran model in
    all_shut v1 (g.D.Disk.view c.close-2.new.disk) (c.in_ok-close.ensures.ok model) (c.close-2.ensures.any_moment m1) (c.in_ok-close-2.ensures.ok m1)

pub returns-in_err-close-2-clause-any_moment : goal.returns-in_err-close-2-clause-any_moment
returns-in_err-close-2-clause-any_moment g c model =
    let v0 = g.D.Disk.view c.args.disk.now in
    let v1 = g.D.Disk.view c.close.new.disk in
    both_shut v0 v1 (g.D.Disk.view c.close-2.new.disk) (c.close.ensures.any_moment model) (c.close-2.ensures.any_moment (still v0 v1 c.close.ensures.ran model))
