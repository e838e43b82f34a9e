-- A forwarder, as contracts see it: the beginning of the board's list that it saw or was told of.
use Rattle.std.specs.Prelude.{◌≡◌, Option, Some, None}
use Rattle.generations.specs.Beginnings.{Beginning}
use Rattle.generations.specs.Knowledges.{Knowledge}
use Rattle.forwarders.specs.declared.forwarder.Forwarder.TheInside.{Inside}

-- the reader is there, and knows this
abbrev pub HasReader : Beginning → Option Knowledge → Type 0
HasReader known None = ⊥
HasReader known (Some r) = r.all ≡ known

-- its reader is there between two calls
abbrev pub IsForwarder : Inside → Type 0
IsForwarder f = HasReader f.known f.reader
