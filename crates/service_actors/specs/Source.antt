-- Where the landmark words of rebuilds come from.
use Rattle.std.specs.Prelude.{◌≡◌, ℕ}
use Rattle.value_syntax.specs.declared.words.LandmarkWords.{LandmarkWords}
use Rattle.value_syntax.specs.declared.words.LandmarkWords.TheVariants.{Greatest, ZeroAt, Drawn as Seed}
use Rattle.value_syntax.specs.Words.{AreWords, first_state}
use Rattle.service_actors.specs.declared.word_source.WordSource.{WordSource}
use Rattle.service_actors.specs.declared.word_source.WordSource.TheVariants.{Same, Drawn}

-- the words that were asked for, of n nodes, or all words of the seed
abbrev pub IsSourceOf : LandmarkWords → ℕ → WordSource → Type 0
IsSourceOf asked n (Same words) = AreWords asked n words.items
IsSourceOf Greatest n (Drawn state) = ⊥
IsSourceOf (ZeroAt nodes) n (Drawn state) = ⊥
IsSourceOf (Seed seed) n (Drawn state) = state ≡ first_state seed
