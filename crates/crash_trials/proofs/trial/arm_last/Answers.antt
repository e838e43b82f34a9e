use Rattle.std.proofs.Common.{rules, ◌≡◌, ◌∙◌, refl, ap, ℕ, ◌-◌, ◌<◌, List, length, set, arith}
use Rattle.life_chain.specs.declared.life.Life.{Life}
use Rattle.crash_trials.specs.Trials.{planned, armed_at}
use Rattle.crash_trials.proofs.TrialLemmas.{set_is, written}
use Rattle.crash_trials.proofs.trial.arm_last.Goals as goal

pub returns : goal.returns
returns c =
    let lives : List Life = c.args.rehearsal.now.lives.items in
    let place : ℕ = c.len-last.result - 2 in
    let old : Life = c.index_mut.result.now in
    let many : c.len-last.result ≡ length lives = search rules in
    let low : place < length lives = omega arith in
    record {
      nodes = refl;
      many = search rules;
      lives =
          ap (λ (life : Life). set lives place life) (written old c.args.plan _ _)
          ∙ ap (λ (life : Life). set lives place (planned c.args.plan life)) c.index_mut.ensures.value
          ∙ set_is lives place c.args.plan old low
          ∙ ap (λ (n : ℕ). armed_at (n - 2) c.args.plan lives) many;
    }
