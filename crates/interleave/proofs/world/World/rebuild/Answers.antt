use Rattle.interleave.specs.WorldWords.{machine_of}
use Rattle.interleave.proofs.world.World.rebuild.Goals as goal

pub returns-clause-listed : goal.returns-clause-listed
returns-clause-listed g c first is = c.lists_law.ensures.rebuild first c.args.words.now (machine_of c.args.self.now) c.build.result (machine_of c.build.new.self) is c.build.ensures.answers

pub returns-clause-ways : goal.returns-clause-ways
returns-clause-ways g c ways = c.ways_law.ensures.rebuilds c.args.words.now (machine_of c.args.self.now) c.build.result (machine_of c.build.new.self) ways c.build.ensures.answers
