use Rattle.std.proofs.Common.{◌∙◌, ap, refl, subst, sym, List, ℕ}
use Rattle.schemes.specs.declared.parts.Parts.{Parts}
use Rattle.command_output.specs.Lines.{line}
use Rattle.command_output.specs.RouteLines.{tables_text}
use Rattle.command_output.specs.Printing.{PrintsText}
use Rattle.command_output.specs.declared.fault.Fault.{Fault}
use Rattle.table_files.specs.Files.{PutBy}
use Rattle.table_files.specs.Tables.{HasPutAll, HasPutSome, files_of}
use Rattle.table_files.proofs.PutFiles.{ends_by, line_missed, total_text}
use Rattle.table_files.proofs.putting.put_all.Goals as goal

pub returns-in_err-totals : goal.returns-in_err-totals
returns-in_err-totals g c =
    let put = PutBy g.T.TableFiles.puts c.args.tables.now c.put_tables.new.tables in
    ends_by c.from_residual.result (HasPutAll c.args.scheme.now c.args.scheme.now.generation c.args.folder.now c.args.nodes.now put) (λ fault. HasPutSome c.args.scheme.now c.args.folder.now c.args.nodes.now put fault) g.O.Write.contents c.args.out.now c.args.out.now
    c.in_err-totals.field-0.0 c.from_residual.ensures.1 c.in_err-totals.ensures.fault.1 (λ other. refl)

pub returns-in_err-print_line : goal.returns-in_err-print_line
returns-in_err-print_line g c =
    let put = PutBy g.T.TableFiles.puts c.args.tables.now c.put_tables.new.tables in
    let p = c.args.scheme.now in
    let folder = c.args.folder.now in
    let nodes = c.args.nodes.now in
    let output = c.in_err-print_line.ensures.fault in
    ends_by c.from_residual-in_err-print_line.result (HasPutAll p p.generation folder nodes put) (λ fault. HasPutSome p folder nodes put fault) g.O.Write.contents c.args.out.now c.print_line.new.out
    c.in_err-print_line.field-0.0 c.from_residual-in_err-print_line.ensures.1 (subst (λ (fault : Fault). HasPutSome p folder nodes put fault) (sym output) (line_missed p folder nodes (g.T.TableFiles.puts c.args.tables.now) (g.T.TableFiles.puts c.put_tables.new.tables) c.in_ok-totals.ensures.put))
    (λ other. absurd (other output))

pub returns : goal.returns
returns g c = record {
  printed = record {
    there = c.requires;
    ends = refl;
    order = c.in_ok-totals.ensures.order;
    files = c.in_ok-totals.ensures.put;
    printed =
        let p = c.args.scheme.now in
        let totals = c.in_ok-totals.totals in
        subst (λ (text : List ℕ). PrintsText g.O.Write.contents c.args.out.now c.print_line.new.out (line text))
        (ap (λ (q : Parts). tables_text q.generation totals.tables totals.bytes totals.greatest) c.parts.ensures
        ∙ total_text totals p.generation (files_of p c.args.folder.now c.args.nodes.now) c.in_ok-totals.ensures.totals) c.in_ok-print_line.ensures.printed;
  };
  fault = tt;
  untouched = tt;
}
