use Rattle.std.proofs.lemmas.Option.{none-some}
use Rattle.table_view.proofs.Launching.{by_directory, by_home, homeless, no_tree, too_far}
use Rattle.table_view.proofs.Places.{has_parts, head_read, members_read}
use Rattle.table_view.proofs.launches.launch_in.Goals as goal

pub returns-in_err-head : goal.returns-in_err-head
returns-in_err-head c a spelled = absurd (has_parts c.args.table.now a spelled c.in_err-head.ensures.parts)

pub returns-in_err-router : goal.returns-in_err-router
returns-in_err-router c a spelled = absurd (none-some _ (head_read c.args.table.now _ a c.in_ok-head.ensures.parts spelled _ c.in_err-router.ensures))

pub returns-then-to-router : goal.returns-then-to-router
returns-then-to-router c a spelled = too_far c.args.table.now _ a c.in_ok-head.ensures.parts spelled c.in_ok-router.router c.in_ok-router.ensures c.args.to.now c.if-to-router.true

pub returns-in_err-listed : goal.returns-in_err-listed
returns-in_err-listed c a spelled = absurd (none-some _ (c.in_err-listed.ensures a.directory _ (members_read c.args.table.now _ a c.in_ok-head.ensures.parts spelled)))

pub returns-in-Some : goal.returns-in-Some
returns-in-Some c a spelled = by_directory c.args.table.now _ a c.in_ok-head.ensures.parts spelled c.in_ok-router.router c.in_ok-router.ensures c.args.to.now c.if-to-router.false c.in_ok-listed.listed c.in_ok-listed.ensures c.in-Some.label c.packet_in.result c.in-Some.is c.packet_in.ensures

pub returns-in_default-home : goal.returns-in_default-home
returns-in_default-home c a spelled = homeless c.args.table.now _ a c.in_ok-head.ensures.parts spelled c.in_ok-router.router c.in_ok-router.ensures c.args.to.now c.if-to-router.false c.in_ok-listed.listed c.in_ok-listed.ensures c.in_default.is c.in_default-home.is

pub returns-in_default-place_of : goal.returns-in_default-place_of
returns-in_default-place_of c a spelled = no_tree c.args.table.now _ a c.in_ok-head.ensures.parts spelled c.in_ok-router.router c.in_ok-router.ensures c.args.to.now c.if-to-router.false c.in_ok-listed.listed c.in_ok-listed.ensures c.in_default.is c.in-Some-home.home c.in-Some-home.is c.in_default-place_of.ensures.place

pub returns : goal.returns
returns c a spelled =
    by_home c.args.table.now _ a c.in_ok-head.ensures.parts spelled c.in_ok-router.router c.in_ok-router.ensures c.args.to.now c.if-to-router.false c.in_ok-listed.listed c.in_ok-listed.ensures c.in_default.is c.in-Some-home.home _ c.packet_in-2.result c.in-Some-home.is
    c.in-Some-place_of.ensures.inside c.in-Some-place_of.ensures.place c.packet_in-2.ensures
