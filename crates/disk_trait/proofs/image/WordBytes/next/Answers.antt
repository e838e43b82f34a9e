use Rattle.std.proofs.Common.{◌≡◌, ◌∙◌, sym, ap, arith, ℕ, ◌+◌, ◌/◌, add-one, refl}
use Rattle.std.specs.Int.{w64, to_be_bytes}
use Rattle.rand_xoshiro.specs.SplitMix64.{mix_u64}
use Rattle.disk_trait.specs.Image.{state_after, word_bytes}
use Rattle.disk_trait.proofs.image.WordBytes.next.Goals as goal

-- the state after one word more
state_next : (word k : ℕ) → (mix_u64 (state_after word k)).1 ≡ state_after word (k + 1)
unfolding state_after
state_next word k = rw add-one refl

pub invariant_of-self : goal.invariant_of-self
unfolding word_bytes
invariant_of-self c =
    let old = c.args.self.now in
    let turned : (old.dealt + 1) / 8 ≡ old.dealt / 8 + 1 = omega (arith, c.if-self-eq0.true) in
    let here : old.words ≡ state_after old.word ((old.dealt + 1) / 8) = old.after ∙ ap (state_after old.word) (sym turned) in
    record {
      present = c.to_be_bytes-self.ensures ∙ ap (λ (p : ℕ × ℕ). to_be_bytes w64 p.0) c.next_word.ensures ∙ ap (λ s. to_be_bytes w64 (mix_u64 s).0) here;
      after = ap (λ (p : ℕ × ℕ). p.1) c.next_word.ensures ∙ ap (λ s. (mix_u64 s).1) here ∙ state_next old.word ((old.dealt + 1) / 8);
    }
