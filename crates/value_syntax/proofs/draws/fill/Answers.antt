use Rattle.std.proofs.Common.{rules, ◌≡◌, ◌∙◌, sym, ap, refl, subst, ℕ, List, [], ◌∷◌, ◌++◌, ◌+◌}
use Rattle.rand_xoshiro.specs.Xoshiro256.{plus_plus}
use Rattle.value_syntax.specs.Words.{AreDrawn, state_after, word_after}
use Rattle.value_syntax.proofs.WordLemmas.{drawn_none, drawn_more, state_next}
use Rattle.value_syntax.proofs.draws.fill.Goals as goal

pub loop-init : goal.loop-init
unfolding state_after
loop-init c = record {
  words = subst (λ words. AreDrawn c.args.generator.now 0 words) (sym c.requires.empty) (drawn_none c.args.generator.now);
  state = refl;
  len = search rules;
  room = c.requires.room;
}

pub loop-preserved : goal.loop-preserved
loop-preserved c =
    let start = c.args.generator.now in
    let items : c.push.new.self.items ≡ c.loop.words.items ++ c.next_word-word.result ∷ [] = search rules in
    let word : c.next_word-word.result ≡ word_after start c.loop.counter = ap (λ (p : ℕ × List ℕ). p.0) c.next_word-word.ensures ∙ ap (λ s. (plus_plus s).0) c.loop.invariant.state in
    let next : c.next_word-word.new.self ≡ (plus_plus (state_after start c.loop.counter)).1 = ap (λ (p : ℕ × List ℕ). p.1) c.next_word-word.ensures ∙ ap (λ s. (plus_plus s).1) c.loop.invariant.state in
    record {
      words = subst (λ words. AreDrawn start (c.loop.counter + 1) words) (sym items) (drawn_more start c.loop.counter c.loop.words.items c.next_word-word.result c.loop.invariant.words word);
      state = next ∙ sym (state_next start c.loop.counter);
      len = search rules;
      room = search rules;
    }
