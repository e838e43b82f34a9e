use Rattle.std.proofs.Common.{arith}
use Rattle.disk_trait.proofs.PublishLemmas.{after_write, after_sync, after_gate, after_all, stands}
use Rattle.disk_trait.proofs.gates.publish.Goals as goal

pub returns-in_err-write_at-clause-any_moment : goal.returns-in_err-write_at-clause-any_moment
returns-in_err-write_at-clause-any_moment g c model =
    let v = g.D.Disk.view in
    let v1 = v c.write_at.new.self in
    after_write (v c.args.disk.now) v1 v1 v1 v1 c.args.gate c.args.text.now model _ c.write_at.ensures.call

pub returns-in_err-sync-clause-any_moment : goal.returns-in_err-sync-clause-any_moment
returns-in_err-sync-clause-any_moment g c model =
    let v = g.D.Disk.view in
    let v2 = v c.sync.new.self in
    after_sync (v c.args.disk.now) (v c.write_at.new.self) v2 v2 v2 c.args.gate c.args.text.now model _ c.write_at.ensures.call _ c.sync.ensures.call

pub returns-in_err-write_at-2-clause-any_moment : goal.returns-in_err-write_at-2-clause-any_moment
returns-in_err-write_at-2-clause-any_moment g c model =
    let v = g.D.Disk.view in
    let v3 = v c.write_at-2.new.self in
    after_gate (v c.args.disk.now) (v c.write_at.new.self) (v c.sync.new.self) v3 v3 c.args.gate c.args.text.now model _ c.write_at.ensures.call _ c.sync.ensures.call _ c.write_at-2.ensures.call
    (omega arith) c.in_ok-write_at.ensures.written c.in_ok-sync.ensures.settled

pub returns-clause-any_moment : goal.returns-clause-any_moment
returns-clause-any_moment g c model =
    let v = g.D.Disk.view in
    after_all (v c.args.disk.now) (v c.write_at.new.self) (v c.sync.new.self) (v c.write_at-2.new.self) (v c.sync-2.new.self) c.args.gate c.args.text.now model
    _ c.write_at.ensures.call _ c.sync.ensures.call _ c.write_at-2.ensures.call (omega arith) c.in_ok-write_at.ensures.written c.in_ok-sync.ensures.settled _ c.sync-2.ensures.call

pub returns-clause-ok : goal.returns-clause-ok
returns-clause-ok g c model =
    let v = g.D.Disk.view in
    stands (v c.args.disk.now) (v c.write_at.new.self) (v c.sync.new.self) (v c.write_at-2.new.self) (v c.sync-2.new.self) c.args.gate c.args.text.now model
    _ c.write_at.ensures.call _ c.sync.ensures.call _ c.write_at-2.ensures.call (omega arith) c.in_ok-write_at.ensures.written c.in_ok-sync.ensures.settled _ c.sync-2.ensures.call
    c.in_ok-write_at-2.ensures.written (omega arith) c.sync-2.ensures.settled
