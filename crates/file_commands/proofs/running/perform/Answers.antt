use Rattle.std.proofs.Common.{rules, ◌≡◌, subst, List, ℕ}
use Rattle.std.specs.String.{string_bytes}
use Rattle.device_commands.specs.Openings.{IsOpenFault}
use Rattle.table_files.specs.Files.{PutBy}
use Rattle.file_commands.specs.Endings.{ChangesWholly, IsCheckDeviceFault, IsCheckEnd, IsEditEnd, IsOnlyRead, IsReadingEnd, IsRouteDeviceFault, IsRouteEnd, IsTablesEnd}
use Rattle.file_commands.specs.Printed.{PrintsCheck, PrintsListing, PrintsRoutes, PrintsTables, PrintsVerdict}
use Rattle.file_commands.specs.Queries.{AnswersOf, AreRoutesIn, IsCheckIn, LacksNodeOf}
use Rattle.file_commands.specs.Runs.{EndsOn}
use Rattle.file_commands.specs.Tasks.{HasSession}
use Rattle.file_commands.specs.Uses.{stream, views}
use Rattle.file_commands.proofs.OnDevices.{asking_end, check_printed, edit_end, ends_on, listing_printed, on_task, reading_end, route_end, routes_printed, verdict_printed}
use Rattle.file_commands.proofs.running.perform.Goals as goal

pub returns-in-Format-clause-ends : goal.returns-in-Format-clause-ends
returns-in-Format-clause-ends g c =
    on_task (PutBy g.T.TableFiles.puts c.args.tables.now c.args.tables.now) c.args.task _ (views (g.D.Disk.view c.args.disk) (g.D.Disk.view c.format_on-ended.new.disk)) (stream g.O.Write.contents c.args.out.now c.format_on-ended.new.out) c.format_on-ended.result c.in-Format.is
    c.format_on-ended.ensures

pub returns-in-Show-clause-ends : goal.returns-in-Show-clause-ends
returns-in-Show-clause-ends g c =
    let by = c.listing.ensures in
    let given = c.listing.result in
    let disk = g.D.Disk.view c.args.disk in
    let left = g.D.Disk.view given.1 in
    let old = g.O.Write.contents c.args.out.now in
    let new = g.O.Write.contents c.printed.new.out in
    on_task (PutBy g.T.TableFiles.puts c.args.tables.now c.args.tables.now) c.args.task _ (views disk (g.D.Disk.view c.printed.result.1)) (stream g.O.Write.contents c.args.out.now c.printed.new.out) c.printed.result.0 c.in-Show.is
    (ends_on g.D.Disk IsOnlyRead PrintsListing (IsReadingEnd IsOpenFault) c.args.disk given c.printed.result.1 _ _ (stream g.O.Write.contents c.args.out.now c.printed.new.out) c.printed.result.0 c.printed.ensures.ends c.printed.ensures.back by.reading.ran by.reading.reads
    (listing_printed string_bytes c.printed.result.0 given.0 disk left old new by.of_one by.of_content)
    (reading_end given.0 IsOpenFault disk left by.faults by.reading))

pub returns-in-Edit-clause-ends : goal.returns-in-Edit-clause-ends
returns-in-Edit-clause-ends g c =
    let by = c.edit.ensures in
    let given = c.edit.result in
    let disk = g.D.Disk.view c.args.disk in
    let left = g.D.Disk.view given.1 in
    let old = g.O.Write.contents c.args.out.now in
    let new = g.O.Write.contents c.printed-in-Edit.new.out in
    let arm = c.in-Edit in
    on_task (PutBy g.T.TableFiles.puts c.args.tables.now c.args.tables.now) c.args.task _ (views disk (g.D.Disk.view c.printed-in-Edit.result.1)) (stream g.O.Write.contents c.args.out.now c.printed-in-Edit.new.out) c.printed-in-Edit.result.0 c.in-Edit.is
    (ends_on g.D.Disk (ChangesWholly arm.session arm.ticket arm.change) (PrintsVerdict arm.session arm.ticket arm.change) (IsEditEnd arm.session arm.ticket arm.change) c.args.disk given c.printed-in-Edit.result.1 _ _ (stream g.O.Write.contents c.args.out.now c.printed-in-Edit.new.out) c.printed-in-Edit.result.0 c.printed-in-Edit.ensures.ends c.printed-in-Edit.ensures.back by.ran (λ model state stands. (by.of_content model state stands).any_moment)
    (verdict_printed c.printed-in-Edit.result.0 given.0 arm.session arm.ticket arm.change disk left old new by.of_one (λ model state stands. (by.of_content model state stands).new) (λ model state stands. (by.of_content model state stands).verdict)
    (λ model state stands. (by.of_content model state stands).left))
    (edit_end given.0 arm.session arm.ticket arm.change disk left by.faults by.tells (λ model state stands. (by.of_content model state stands).already_in) (λ model state stands. (by.of_content model state stands).worn) by.device by.unwritten
    (λ model state stands. (by.of_content model state stands).kept)))

pub returns-in-Resume-clause-ends : goal.returns-in-Resume-clause-ends
returns-in-Resume-clause-ends g c =
    on_task (PutBy g.T.TableFiles.puts c.args.tables.now c.args.tables.now) c.args.task _ (views (g.D.Disk.view c.args.disk) (g.D.Disk.view c.resume_on.result.1)) (stream g.O.Write.contents c.args.out.now c.resume_on.new.out) c.resume_on.result.0 c.in-Resume.is
    c.resume_on.ensures

pub returns-in-Check-clause-ends : goal.returns-in-Check-clause-ends
returns-in-Check-clause-ends g c =
    let by = c.check_device.ensures in
    let given = c.check_device.result in
    let disk = g.D.Disk.view c.args.disk in
    let left = g.D.Disk.view given.1 in
    let old = g.O.Write.contents c.args.out.now in
    let new = g.O.Write.contents c.printed-in-Check.new.out in
    on_task (PutBy g.T.TableFiles.puts c.args.tables.now c.args.tables.now) c.args.task _ (views disk (g.D.Disk.view c.printed-in-Check.result.1)) (stream g.O.Write.contents c.args.out.now c.printed-in-Check.new.out) c.printed-in-Check.result.0 c.in-Check.is
    (ends_on g.D.Disk IsOnlyRead (PrintsCheck c.in-Check.words) (IsCheckEnd c.in-Check.words) c.args.disk given c.printed-in-Check.result.1 _ _ (stream g.O.Write.contents c.args.out.now c.printed-in-Check.new.out) c.printed-in-Check.result.0 c.printed-in-Check.ensures.ends c.printed-in-Check.ensures.back by.reading.ran by.reading.reads
    (check_printed c.printed-in-Check.result.0 given.0 c.in-Check.words disk left old new by)
    (asking_end c.in-Check.words IsCheckIn IsCheckDeviceFault disk left given.0 by))

pub returns-in-Route-clause-ends : goal.returns-in-Route-clause-ends
returns-in-Route-clause-ends g c =
    let given = c.route_device.result in
    let disk = g.D.Disk.view c.args.disk in
    let left = g.D.Disk.view given.1 in
    let old = g.O.Write.contents c.args.out.now in
    let new = g.O.Write.contents c.printed-in-Route.new.out in
    let pairs = c.in-Route.pairs.items in
    let words = c.in-Route.words in
    let shown : c.deref.result.now ≡ pairs = search rules in
    let by = subst (λ (ps : List (ℕ × ℕ)). AnswersOf words (AreRoutesIn ps) IsRouteDeviceFault disk left given.0) shown c.route_device.ensures.routes in
    let lacks = subst (λ (ps : List (ℕ × ℕ)). LacksNodeOf words ps disk given.0) shown c.route_device.ensures.no_node in
    on_task (PutBy g.T.TableFiles.puts c.args.tables.now c.args.tables.now) c.args.task _ (views disk (g.D.Disk.view c.printed-in-Route.result.1)) (stream g.O.Write.contents c.args.out.now c.printed-in-Route.new.out) c.printed-in-Route.result.0 c.in-Route.is
    (ends_on g.D.Disk IsOnlyRead (PrintsRoutes pairs words) (IsRouteEnd pairs words) c.args.disk given c.printed-in-Route.result.1 _ _ (stream g.O.Write.contents c.args.out.now c.printed-in-Route.new.out) c.printed-in-Route.result.0 c.printed-in-Route.ensures.ends c.printed-in-Route.ensures.back by.reading.ran by.reading.reads
    (routes_printed c.printed-in-Route.result.0 given.0 pairs words disk left old new by)
    (route_end given.0 pairs words disk left by lacks))

pub returns-in-Tables-clause-ends : goal.returns-in-Tables-clause-ends
returns-in-Tables-clause-ends g c =
    let put = PutBy g.T.TableFiles.puts c.args.tables.now c.tables_on.new.tables in
    let shown : c.deref-in-Tables.result.now ≡ c.in-Tables.nodes.items = search rules in
    let disk = g.D.Disk.view c.args.disk in
    let left = g.D.Disk.view c.tables_on.result.1 in
    on_task put c.args.task _ (views disk left) (stream g.O.Write.contents c.args.out.now c.tables_on.new.out) c.tables_on.result.0 c.in-Tables.is
    (subst (λ (nodes : List ℕ). EndsOn IsOnlyRead (PrintsTables c.in-Tables.words c.in-Tables.folder.now nodes put) (IsTablesEnd c.in-Tables.words c.in-Tables.folder.now nodes put) (views disk left) (stream g.O.Write.contents c.args.out.now c.tables_on.new.out) c.tables_on.result.0) shown c.tables_on.ensures)

pub edit-requires-after_bounds : goal.edit-requires-after_bounds
edit-requires-after_bounds g c κs within = subst HasSession c.in-Edit.is c.requires.session
