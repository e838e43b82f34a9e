-- The faults of words tell nothing of a content.
use Rattle.std.proofs.Common.{ℕ, List}
use Rattle.value_syntax.specs.declared.words.LandmarkWords.{LandmarkWords}
use Rattle.command_output.specs.declared.fault.Fault.{Fault}
use Rattle.command_output.specs.declared.fault.Fault.TheVariants as told
use Rattle.device_commands.specs.Openings.{TellsOf}
use Rattle.file_commands.specs.Endings.{IsRouteFault, IsWordsFault}

pub words_tell : (words : LandmarkWords) (fault : Fault) (content : List ℕ) → IsWordsFault words fault → TellsOf fault content
words_tell words told.Words content is = tt
words_tell words told.Memory content is = tt
words_tell words _ content is = absurd is

pub route_tells : (words : LandmarkWords) (fault : Fault) (content : List ℕ) → IsRouteFault words fault → TellsOf fault content
route_tells words told.NoNode content is = tt
route_tells words told.Words content is = tt
route_tells words told.Memory content is = tt
route_tells words _ content is = absurd is
