use Rattle.std.proofs.Common.{◌≡◌, ◌≤◌, vec_len, vec_capacity}
use Rattle.value_syntax.specs.Words.{AreDrawn, state_after}
use Rattle.value_syntax.proofs.draws.fill.Given as goal

abbrev pub invariant-loop : goal.invariant-loop
invariant-loop l = record {
  words : AreDrawn l.initial.generator l.counter l.words.items;
  state : l.generator ≡ state_after l.initial.generator l.counter;
  len : vec_len l.words ≡ l.counter;
  room : l.count ≤ vec_capacity l.words;
}
