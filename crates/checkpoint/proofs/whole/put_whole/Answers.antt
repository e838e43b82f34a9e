use Rattle.std.proofs.Common.{◌∙◌}
use Rattle.layout_reader.proofs.ReadLemmas.{still}
use Rattle.checkpoint.proofs.Wholes.{while_shutting, while_heading, while_publishing, all_written, ok_with, writing_on}
use Rattle.checkpoint.proofs.whole.put_whole.Goals as goal

pub returns-in_err-shut_slots-clause-any_moment : goal.returns-in_err-shut_slots-clause-any_moment
returns-in_err-shut_slots-clause-any_moment g c model foreign =
    while_shutting c.args.nodes c.args.text.now c.requires.text (g.D.Disk.view c.args.disk.now) (g.D.Disk.view c.shut_slots.new.disk) foreign (c.shut_slots.ensures.any_moment model)

pub returns-in_err-put_synced-clause-any_moment : goal.returns-in_err-put_synced-clause-any_moment
returns-in_err-put_synced-clause-any_moment g c model foreign =
    let nodes = c.args.nodes in
    let text = c.args.text.now in
    let v0 = g.D.Disk.view c.args.disk.now in
    let v1 = g.D.Disk.view c.shut_slots.new.disk in
    let v2 = g.D.Disk.view c.put_synced.new.disk in
    writing_on nodes text v0 v1 v2 (while_shutting nodes text c.requires.text v0 v1 foreign (c.shut_slots.ensures.any_moment model))
    (while_heading nodes text c.requires.text v1 v2 c.header_of.result c.header_of.ensures (c.in_ok-shut_slots.ensures.ok model) (c.put_synced.ensures.any_moment (still v0 v1 c.shut_slots.ensures.ran model)))

pub returns-clause-any_moment : goal.returns-clause-any_moment
returns-clause-any_moment g c model foreign =
    let nodes = c.args.nodes in
    let text = c.args.text.now in
    let v0 = g.D.Disk.view c.args.disk.now in
    let v1 = g.D.Disk.view c.shut_slots.new.disk in
    let v2 = g.D.Disk.view c.put_synced.new.disk in
    let v3 = g.D.Disk.view c.publish.new.disk in
    let m1 = still v0 v1 c.shut_slots.ensures.ran model in
    let heading = c.put_synced.ensures.any_moment m1 in
    let shut = c.in_ok-shut_slots.ensures.ok model in
    writing_on nodes text v0 v2 v3
    (writing_on nodes text v0 v1 v2 (while_shutting nodes text c.requires.text v0 v1 foreign (c.shut_slots.ensures.any_moment model)) (while_heading nodes text c.requires.text v1 v2 c.header_of.result c.header_of.ensures shut heading))
    (while_publishing nodes text c.requires.text v1 v2 c.header_of.result c.header_of.ensures shut heading (c.put_synced.ensures.ran.as_long ∙ c.shut_slots.ensures.ran.as_long ∙ c.requires.long)
    (c.in_ok-put_synced.ensures.settled m1) (c.in_ok-put_synced.ensures.there m1) v3 (c.publish.ensures.any_moment (still v1 v2 c.put_synced.ensures.ran m1)))

pub returns-clause-ok : goal.returns-clause-ok
returns-clause-ok g c model =
    let v0 = g.D.Disk.view c.args.disk.now in
    let v1 = g.D.Disk.view c.shut_slots.new.disk in
    let v2 = g.D.Disk.view c.put_synced.new.disk in
    let v3 = g.D.Disk.view c.publish.new.disk in
    let m1 = still v0 v1 c.shut_slots.ensures.ran model in
    ok_with c.publish.result (c.publish.ensures.ok (still v1 v2 c.put_synced.ensures.ran m1))
    (all_written c.args.nodes c.args.text.now c.requires.text v1 v2 c.header_of.result c.header_of.ensures (c.in_ok-shut_slots.ensures.ok model) (c.put_synced.ensures.any_moment m1)
    (c.put_synced.ensures.ran.as_long ∙ c.shut_slots.ensures.ran.as_long ∙ c.requires.long) (c.in_ok-put_synced.ensures.settled m1) (c.in_ok-put_synced.ensures.there m1) v3)
