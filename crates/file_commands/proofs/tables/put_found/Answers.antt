use Rattle.table_files.specs.Files.{PutBy}
use Rattle.file_commands.specs.Uses.{stream}
use Rattle.file_commands.proofs.Tabling.{found_put}
use Rattle.file_commands.proofs.tables.put_found.Goals as goal

pub returns : goal.returns
returns g c =
    found_put c.args.answer _ c.args.folder.now c.args.named.now (PutBy g.T.TableFiles.puts c.args.tables.now c.put_asked.new.tables) (stream g.O.Write.contents c.args.out.now c.put_asked.new.out)
    c.put_asked.result c.in_ok-found.was c.put_asked.ensures
