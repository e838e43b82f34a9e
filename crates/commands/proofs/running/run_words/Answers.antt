use Rattle.clap.specs.Walk.{texts}
use Rattle.file_commands.specs.Devices.{AreFiles}
use Rattle.file_commands.specs.Uses.{stream}
use Rattle.commands.proofs.Answering.{says_parts}
use Rattle.commands.proofs.running.run_words.Goals as goal

pub returns-clause-says : goal.returns-clause-says
returns-clause-says g c =
    (says_parts _ AreFiles _ (texts c.args.words.now) (stream g.S.Read.remaining c.args.script.now c.run_words_at.new.script)
    (stream g.O.Write.contents c.args.out.now c.run_words_at.new.out) c.run_words_at.result c.run_words_at.ensures.says).0

pub returns-clause-tables : goal.returns-clause-tables
returns-clause-tables g c =
    (says_parts _ AreFiles _ (texts c.args.words.now) (stream g.S.Read.remaining c.args.script.now c.run_words_at.new.script)
    (stream g.O.Write.contents c.args.out.now c.run_words_at.new.out) c.run_words_at.result c.run_words_at.ensures.says).1.0

pub returns-clause-serves : goal.returns-clause-serves
returns-clause-serves g c =
    (says_parts _ AreFiles _ (texts c.args.words.now) (stream g.S.Read.remaining c.args.script.now c.run_words_at.new.script)
    (stream g.O.Write.contents c.args.out.now c.run_words_at.new.out) c.run_words_at.result c.run_words_at.ensures.says).1.1.0

pub returns-clause-stops : goal.returns-clause-stops
returns-clause-stops g c =
    (says_parts _ AreFiles _ (texts c.args.words.now) (stream g.S.Read.remaining c.args.script.now c.run_words_at.new.script)
    (stream g.O.Write.contents c.args.out.now c.run_words_at.new.out) c.run_words_at.result c.run_words_at.ensures.says).1.1.1
