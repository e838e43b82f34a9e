-- What a look that gives no board leaves.
use Rattle.std.specs.Prelude.{◌≡◌}
use Rattle.generations.specs.Knowledges.{Knowledge, IsBehind}
use Rattle.generations.specs.declared.reader.Shut.{Shut}
use Rattle.generations.specs.declared.reader.Shut.TheVariants.{Refused, Behind}

-- the entry was refused, and nothing changed; or the board that was shown ends before what was told
abbrev pub IsMissed : Shut → Knowledge → Knowledge → Type 0
IsMissed Refused old new = new ≡ old
IsMissed Behind old new = IsBehind old new
