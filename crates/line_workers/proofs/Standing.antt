-- How a service stands, by what was told of its board.
use Rattle.std.proofs.Common.{◌≡◌, ℕ, sym, subst}
use Rattle.std.specs.Global.{Box}
use Rattle.generations.specs.Beginnings.{Beginning}
use Rattle.packet_ways.specs.Standing.{Counts, IsNewest}
use Rattle.packet_ways.proofs.Newest.{newest_published, published_on}
use Rattle.live_lines.specs.declared.metrics.Metrics.{Metrics}
use Rattle.live_lines.specs.declared.asked.Asked.{Asked}
use Rattle.live_lines.specs.declared.asked.Asked.TheVariants as asks
use Rattle.live_lines.specs.declared.answer.Answer.{Answer}
use Rattle.live_lines.specs.declared.answer.Answer.TheVariants as answers
use Rattle.line_exchange.specs.OneList.{AnswersBy}

-- what answers by what was told answers by what is known, where that is the same
pub told_said : {asked : Asked} {answer : Answer} (known told : Beginning) → known ≡ told → AnswersBy told asked answer → AnswersBy known asked answer
told_said {asked} {answer} known told same is = subst (λ (b : Beginning). AnswersBy b asked answer) (sym same) is

pub state_said : (told : Beginning) (count generation queue : ℕ) → Counts told count → IsNewest told generation → AnswersBy told asks.State (answers.State count generation queue)
state_said told count generation queue counted newest = record { fits = tt; said = λ all lawful are_named on. (told, on, counted, newest); off = λ gone. tt }

pub metrics_said : (told : Beginning) (metrics : Box Metrics) (count generation : ℕ) → metrics.value.count ≡ count → metrics.value.generation ≡ generation → Counts told count → IsNewest told generation → AnswersBy told asks.Metrics (answers.Metrics metrics)
metrics_said told metrics count generation many last counted newest = record {
  fits = tt;
  said = λ all lawful are_named on. (told, on, subst (λ (n : ℕ). Counts told n) (sym many) counted, subst (λ (n : ℕ). IsNewest told n) (sym last) newest);
  off = λ gone. tt;
}

pub waited_said : (told : Beginning) (generation : ℕ) → IsNewest told generation → AnswersBy told asks.Wait (answers.Waited generation)
waited_said told generation newest = record {
  fits = tt;
  said = λ all lawful are_named on. (let found = newest_published told generation newest in (found.0, published_on told all generation found.0 on found.1));
  off = λ gone. tt;
}

pub backup_said : (told : Beginning) (count : ℕ) → Counts told count → (file : _) → AnswersBy told (asks.Backup file) (answers.BackedUp count)
backup_said told count counted file = record { fits = tt; said = λ all lawful are_named on. (told, on, counted); off = λ gone. tt }

pub no_backup_said : (known : Beginning) (why : _) (file : _) → AnswersBy known (asks.Backup file) (answers.NoBackup why)
no_backup_said known why file = record { fits = tt; said = λ all lawful are_named on. tt; off = λ gone. tt }
