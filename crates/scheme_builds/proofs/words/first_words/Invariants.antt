use Rattle.std.proofs.Common.{◌≡◌, length}
use Rattle.scheme_builds.specs.Words.{first_of}
use Rattle.scheme_builds.proofs.words.first_words.Given as goal

abbrev pub invariant-loop-place : goal.invariant-loop-place
invariant-loop-place l = record {
  count : length l.first.items ≡ l.place;
  words : l.first.items ≡ first_of l.place l.words;
}
