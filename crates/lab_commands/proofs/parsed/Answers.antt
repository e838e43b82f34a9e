use Rattle.clap.specs.Simple.{app_of}
use Rattle.clap.specs.Walk.{texts}
use Rattle.lab_commands.proofs.Parsing.{taken}
use Rattle.lab_commands.proofs.parsed.Goals as goal

pub returns-in-Ok-try_get_matches_from-clause-found : goal.returns-in-Ok-try_get_matches_from-clause-found
returns-in-Ok-try_get_matches_from-clause-found g c =
    taken (app_of c.in-Ok.command) (texts c.args.words.now) c.in-Ok-try_get_matches_from.found c.in-Ok.ensures.app c.in-Ok-try_get_matches_from.ensures.matches
