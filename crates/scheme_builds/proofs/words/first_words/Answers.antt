use Rattle.std.proofs.Common.{rules, ◌≡◌, ◌∙◌, ap, sym, ◌++◌, ◌∷◌, [], add-one, suc, List, ℕ}
use Rattle.scheme_builds.specs.Words.{first_of, word_of}
use Rattle.scheme_builds.proofs.WordLemmas.{first_more}
use Rattle.scheme_builds.proofs.words.first_words.Goals as goal

one_more : (words first more : List ℕ) (n word : ℕ) → first ≡ first_of n words → more ≡ first ++ word ∷ [] → word ≡ word_of words n → more ≡ first_of (suc n) words
one_more words first more n word e push is = push ∙ ap (λ (x : ℕ). first ++ x ∷ []) is ∙ ap (λ (l : List ℕ). l ++ word_of words n ∷ []) e ∙ sym (first_more n words)

pub loop-place-preserved : goal.loop-place-preserved
loop-place-preserved c = record {
  count = search rules;
  words = rw add-one (one_more c.args.words.now c.loop-place.first.items c.push.new.self.items c.loop-place.place c.word_at.result c.loop-place.invariant.words c.in_ok-push.ensures.items c.word_at.ensures);
}
