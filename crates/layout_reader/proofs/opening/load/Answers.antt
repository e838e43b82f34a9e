use Rattle.layout_reader.specs.Loading.{IsNotLoaded}
use Rattle.layout_reader.proofs.LoadLemmas.{not_loaded_on, is_loaded, is_not_loaded}
use Rattle.layout_reader.proofs.ReadLemmas.{synced}
use Rattle.layout_reader.proofs.Results.{handed_on}
use Rattle.layout_reader.proofs.opening.load.Goals as goal

pub returns-in_err-checkpoint-clause-refused : goal.returns-in_err-checkpoint-clause-refused
returns-in_err-checkpoint-clause-refused g c =
    let form = g.L.Layout.form in
    let v0 = g.D.Disk.view c.args.disk.now in
    let v1 = g.D.Disk.view c.sync.new.self in
    let v2 = g.D.Disk.view c.read_checkpoint.new.disk in
    let r1 = synced v0 v1 c.sync.result c.sync.ensures.call c.in_ok-sync.ensures.call.served in
    let why = c.in_err-checkpoint.field-0.0 in
    handed_on (IsNotLoaded form v0 v2) c.from_residual-in_err-checkpoint.result why c.from_residual-in_err-checkpoint.ensures.1 (not_loaded_on form v0 v1 v2 why r1 c.in_err-checkpoint.ensures.refused)

pub returns-clause-ok : goal.returns-clause-ok
returns-clause-ok g c =
    let v0 = g.D.Disk.view c.args.disk.now in
    let v1 = g.D.Disk.view c.sync.new.self in
    let r1 = synced v0 v1 c.sync.result c.sync.ensures.call c.in_ok-sync.ensures.call.served in
    let found = c.in_ok-checkpoint.ensures in
    let rest = c.load_records.ensures in
    is_loaded g.L.Layout.form v0 v1 (g.D.Disk.view c.read_checkpoint.new.disk) (g.D.Disk.view c.load_records.new.disk) c.in_ok-checkpoint.checkpoint r1 found.read found.has_base found.this_version c.load_records.result
    found.long c.in_ok-sync.ensures.settled rest.read rest.comes rest.parts rest.spells

pub returns-clause-refused : goal.returns-clause-refused
returns-clause-refused g c =
    let v0 = g.D.Disk.view c.args.disk.now in
    let v1 = g.D.Disk.view c.sync.new.self in
    let r1 = synced v0 v1 c.sync.result c.sync.ensures.call c.in_ok-sync.ensures.call.served in
    let found = c.in_ok-checkpoint.ensures in
    let rest = c.load_records.ensures in
    is_not_loaded g.L.Layout.form v0 v1 (g.D.Disk.view c.read_checkpoint.new.disk) (g.D.Disk.view c.load_records.new.disk) c.in_ok-checkpoint.checkpoint r1 found.read found.has_base found.this_version c.load_records.result
    g.met.L.Layout.is_form found.slot found.count rest.not_read rest.later rest.refused
