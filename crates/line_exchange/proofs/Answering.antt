-- Answers to lines.
use Rattle.std.proofs.Common.{◌≡◌, sym, subst}
use Rattle.std.specs.Prelude.{ℕ}
use Rattle.std.specs.Global.{Box}
use mathlib.Core.Logic.{∥∥₁_map}
use Rattle.generations.specs.Beginnings.{Beginning}
use Rattle.packet_ways.specs.Standing.{Counts, IsNewest}
use Rattle.live_lines.specs.declared.asked.Asked.{Asked}
use Rattle.live_lines.specs.declared.asked.Asked.TheVariants as asks
use Rattle.live_lines.specs.declared.metrics.Metrics as figures
use Rattle.live_lines.specs.declared.answer.Answer.{Answer}
use Rattle.live_lines.specs.declared.answer.Answer.TheVariants.{Metrics}
use Rattle.live_lines.specs.Answers.{FitsAsked, generation_gone}
use Rattle.line_exchange.specs.Inputs.{Input}
use Rattle.line_exchange.specs.Measured.{IsFilled, IsSame}
use Rattle.line_exchange.specs.OneList.{AnswersBy, IsOffAt, IsSaidAt, IsSaidBy}
use Rattle.line_exchange.specs.Streams.{IsAskedAt}

-- Where each list that goes on from what is known says an answer to what the line at a place asks for, it is one by that.
pub answers : (known : Beginning) (input : Input) (editors place : ℕ) (asked : Asked) (answer : Answer) → ∥ IsAskedAt input editors place asked ∥₁ → AnswersBy known asked answer → ∥ IsSaidAt known input editors place answer ∥₁
answers known input editors place asked answer by is = ∥∥₁_map by (λ asks. record { asked = asked; by = asks; fits = is.fits; said = is.said })

-- so it is where it tells that a generation is gone
pub answers_off : (known : Beginning) (input : Input) (editors place : ℕ) (asked : Asked) (answer : Answer) → ∥ IsAskedAt input editors place asked ∥₁ → AnswersBy known asked answer → answer ≡ generation_gone → ∥ IsOffAt known input editors place ∥₁
answers_off known input editors place asked answer by is gone = ∥∥₁_map by (λ asks. record { asked = asked; by = asks; off = is.off gone })

-- .. and what is known was given out
pub answers_known : (known seen : Beginning) (input : Input) (editors place : ℕ) (asked : Asked) (answer : Answer) → known ≡ seen → ∥ IsAskedAt input editors place asked ∥₁ → AnswersBy seen asked answer
    → ∥ IsSaidAt known input editors place answer ∥₁
answers_known known seen input editors place asked answer same by is =
    answers known input editors place asked answer by (subst (λ (b : Beginning). AnswersBy b asked answer) (sym same) is)

pub off_known : (known seen : Beginning) (input : Input) (editors place : ℕ) (asked : Asked) (answer : Answer) → known ≡ seen → ∥ IsAskedAt input editors place asked ∥₁ → AnswersBy seen asked answer → answer ≡ generation_gone
    → ∥ IsOffAt known input editors place ∥₁
off_known known seen input editors place asked answer same by is = answers_off known input editors place asked answer by (subst (λ (b : Beginning). AnswersBy b asked answer) (sym same) is)

-- ---- filled answers

-- what holds of an answer as it is, and of figures that are filled in, holds of each that is filled in
filled_each : (P : Answer → Answer → Type 0) (old new : Answer) → IsFilled old new → ((m n : Box figures.Metrics) → IsSame m.value n.value → P (Metrics m) (Metrics n)) → P old old → P old new
filled_each P (Metrics m) (Metrics n) is told same = told m n is
filled_each P old _ is told same = subst (P old) (sym is) same

-- figures that are filled in change nothing that a list says
figures_said : (known : Beginning) (asked : Asked) (m n : Box figures.Metrics) → IsSame m.value n.value → FitsAsked asked (Metrics m) → IsSaidBy known asked (Metrics m) → FitsAsked asked (Metrics n) × IsSaidBy known asked (Metrics n)
figures_said known asks.Metrics m n is fits said = (
  tt,
  λ all lawful are_named on.
      (let was = said all lawful are_named on in
      (was.0, was.1, subst (λ (k : ℕ). Counts was.0 k) (sym is.count) was.2, subst (λ (k : ℕ). IsNewest was.0 k) (sym is.generation) was.3)),
)
figures_said known _ m n is fits said = absurd fits

pub filled_at : (known : Beginning) (input : Input) (editors place : ℕ) (old new : Answer) → IsFilled old new → ∥ IsSaidAt known input editors place old ∥₁ → ∥ IsSaidAt known input editors place new ∥₁
filled_at known input editors place old new is said =
    ∥∥₁_map said (λ x.
    let both = filled_each (λ (a b : Answer). FitsAsked x.asked a → IsSaidBy known x.asked a → FitsAsked x.asked b × IsSaidBy known x.asked b) old new is (λ m n same. figures_said known x.asked m n same) (λ fits told. (fits, told)) x.fits x.said in
    record { asked = x.asked; by = x.by; fits = both.0; said = both.1 })

pub filled_off : (known : Beginning) (input : Input) (editors place : ℕ) (old new : Answer) → IsFilled old new → (old ≡ generation_gone → ∥ IsOffAt known input editors place ∥₁) → new ≡ generation_gone → ∥ IsOffAt known input editors place ∥₁
filled_off known input editors place old new is off gone =
    off (filled_each (λ (a b : Answer). b ≡ generation_gone → a ≡ generation_gone) old new is (λ m n same none. absurd (cc)) (λ none. none) gone)
