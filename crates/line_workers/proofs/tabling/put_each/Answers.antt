use Rattle.std.proofs.Common.{arith, ◌∙◌, ◌+◌, ap, subst}
use Rattle.generations.proofs.Sharing.{goes_self, goes_trans}
use Rattle.line_workers.specs.declared.tabling.Step.{Step}
use Rattle.line_workers.specs.Tables.{IsPutStep}
use Rattle.line_workers.proofs.TablesPut.{ended_tabled, first_put, next_node, next_put, some_put}
use Rattle.line_workers.proofs.tabling.put_each.Goals as goal

pub loop-node-init : goal.loop-node-init
loop-node-init g c =
    let none = c.none-totals.ensures in
    record {
      on = goes_self c.args.reader.all;
      put = first_put c.args.reader.all c.args.newest c.args.folder.now (g.T.TableFiles.puts c.args.tables.now) c.none-totals.result c.requires none.tables none.bytes none.greatest;
      count = none.tables;
      room = omega (arith, none.bytes);
    }

pub put_one-back-requires : goal.put_one-back-requires
put_one-back-requires g c =
    next_node c.loop-node.reader.all c.args.newest c.loop-node.node c.args.folder.now (g.T.TableFiles.puts c.args.tables.now) (g.T.TableFiles.puts c.loop-node.tables) c.loop-node.totals c.loop-node-test.true c.loop-node.invariant.put

pub returns-in-Ended-clause-tabled : goal.returns-in-Ended-clause-tabled
returns-in-Ended-clause-tabled g c =
    let known = c.loop-node.reader.all in
    let later = c.put_one-back.result.0.all in
    let folder = c.args.folder.now in
    let mid = g.T.TableFiles.puts c.loop-node.tables in
    let new = g.T.TableFiles.puts c.put_one-back.new.tables in
    ended_tabled known later c.args.newest c.loop-node.node folder (g.T.TableFiles.puts c.args.tables.now) mid new c.loop-node.totals c.in-Ended.answer c.loop-node-test.true c.put_one-back.ensures.on
    (subst (λ (s : Step). IsPutStep known later c.args.newest.generation folder c.loop-node.node mid new s) c.in-Ended.is c.put_one-back.ensures.step) c.loop-node.invariant.put

pub returns-in-Stopped-clause-tabled : goal.returns-in-Stopped-clause-tabled
returns-in-Stopped-clause-tabled g c =
    let known = c.loop-node.reader.all in
    let later = c.put_one-back.result.0.all in
    let folder = c.args.folder.now in
    let mid = g.T.TableFiles.puts c.loop-node.tables in
    let new = g.T.TableFiles.puts c.put_one-back.new.tables in
    some_put known later c.args.newest c.loop-node.node folder (g.T.TableFiles.puts c.args.tables.now) mid new c.loop-node.totals c.loop-node-test.true c.put_one-back.ensures.on
    (subst (λ (s : Step). IsPutStep known later c.args.newest.generation folder c.loop-node.node mid new s) c.in-Stopped.is c.put_one-back.ensures.step) c.loop-node.invariant.put

pub loop-node-preserved : goal.loop-node-preserved
loop-node-preserved g c =
    let known = c.loop-node.reader.all in
    let later = c.put_one-back.result.0.all in
    let folder = c.args.folder.now in
    let mid = g.T.TableFiles.puts c.loop-node.tables in
    let new = g.T.TableFiles.puts c.put_one-back.new.tables in
    let with = c.with-totals.ensures in
    record {
      on = goes_trans c.args.reader.all known later c.loop-node.invariant.on c.put_one-back.ensures.on;
      put = next_put known later c.args.newest c.loop-node.node folder (g.T.TableFiles.puts c.args.tables.now) mid new c.loop-node.totals c.with-totals.result c.in-Put.len c.put_one-back.ensures.on
          c.loop-node.invariant.put
          (subst (λ (s : Step). IsPutStep known later c.args.newest.generation folder c.loop-node.node mid new s) c.in-Put.is c.put_one-back.ensures.step) with.tables with.bytes with.greatest;
      count = with.tables ∙ ap (λ n. n + 1) c.loop-node.invariant.count;
      room = omega (arith, with.tables, with.bytes, c.loop-node.invariant.room);
    }
