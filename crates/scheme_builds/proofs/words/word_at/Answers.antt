use Rattle.scheme_builds.proofs.WordLemmas.{word_here, word_missing}
use Rattle.scheme_builds.proofs.words.word_at.Goals as goal

pub returns-then-place-words : goal.returns-then-place-words
returns-then-place-words c = word_here c.args.words.now c.args.place c.if-place-words.true

pub returns-else-place-words : goal.returns-else-place-words
returns-else-place-words c = word_missing c.args.words.now c.args.place c.if-place-words.false
