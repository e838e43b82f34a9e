use Rattle.std.proofs.Common.{arith, ◌≢◌, ◌∙◌, ◌+◌, ap, subst, List, ℕ}
use Rattle.std.proofs.lemmas.List.{take_all}
use Rattle.std.proofs.lemmas.List.Elements.{All-more}
use Rattle.router_table.specs.Order.{IsTable}
use Rattle.router_table.specs.Table.{table_at}
use Rattle.command_output.specs.declared.fault.Fault.TheVariants.{Output}
use Rattle.table_files.specs.Files.{HasPut}
use Rattle.table_files.specs.Tables.{AreInOrder, HasPutSome, IsTotalOf, files_of}
use Rattle.table_files.proofs.PutFiles.{all_put, handed_up, one_missed, one_put, total_more}
use Rattle.table_files.proofs.putting.put_tables.Goals as goal

pub loop-node-preserved : goal.loop-node-preserved
loop-node-preserved g c =
    let p = c.args.scheme.now in
    let folder = c.args.folder.now in
    let nodes = c.args.nodes.now in
    let i = c.loop-node.node-index in
    record {
      put = one_put p folder nodes i 0 (g.T.TableFiles.puts c.args.tables.now) (g.T.TableFiles.puts c.loop-node.tables) (g.T.TableFiles.puts c.put_table.new.tables) (omega arith) c.loop-node.invariant.put c.in_ok-len.ensures.put;
      order = All-more (λ node. IsTable (table_at p node)) nodes i 0 (omega arith) c.loop-node.invariant.order c.in_ok-len.ensures.order;
      totals = total_more p folder nodes i 0 c.in_ok-len.len c.loop-node.totals c.with-totals.result (omega arith) c.in_ok-len.ensures.len c.loop-node.invariant.totals c.with-totals.ensures.tables c.with-totals.ensures.bytes c.with-totals.ensures.greatest;
      count = c.with-totals.ensures.tables ∙ ap (λ n. n + 1) c.loop-node.invariant.count;
      room = omega (arith, c.with-totals.ensures.tables, c.with-totals.ensures.bytes, c.loop-node.invariant.room);
    }

pub returns-in_err-len-clause-fault : goal.returns-in_err-len-clause-fault
returns-in_err-len-clause-fault g c =
    let p = c.args.scheme.now in
    let folder = c.args.folder.now in
    let nodes = c.args.nodes.now in
    let old = g.T.TableFiles.puts c.args.tables.now in
    let new = g.T.TableFiles.puts c.put_table.new.tables in
    handed_up c.from_residual.result (λ fault. (fault ≢ Output) × HasPutSome p folder nodes (HasPut old new) fault) c.in_err-len.field-0.0 c.from_residual.ensures.1
    (one_missed p folder nodes c.loop-node.node-index 0 old new c.in_err-len.field-0.0 (omega arith) (c.in_err-len.ensures.kept ∙ c.loop-node.invariant.put) c.in_err-len.ensures.fault)

pub returns-clause-put : goal.returns-clause-put
returns-clause-put g c =
    all_put c.args.scheme.now c.args.folder.now c.args.nodes.now c.loop-node.node-index (g.T.TableFiles.puts c.args.tables.now) (g.T.TableFiles.puts c.loop-node.tables) (omega arith) c.loop-node.invariant.put

pub returns-clause-order : goal.returns-clause-order
returns-clause-order g c = subst (λ (ns : List ℕ). AreInOrder c.args.scheme.now ns) (take_all c.loop-node.node-index c.args.nodes.now (omega arith)) c.loop-node.invariant.order

pub returns-clause-totals : goal.returns-clause-totals
returns-clause-totals g c =
    subst (λ (ns : List ℕ). IsTotalOf c.loop-node.totals (files_of c.args.scheme.now c.args.folder.now ns)) (take_all c.loop-node.node-index c.args.nodes.now (omega arith)) c.loop-node.invariant.totals
