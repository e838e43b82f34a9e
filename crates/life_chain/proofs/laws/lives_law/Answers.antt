use Rattle.life_chain.specs.Words.{IsLeftByWord, any_word}
use Rattle.life_chain.specs.Lived.{IsLived, IsRefusedOpening}
use Rattle.life_chain.proofs.LifeLemmas.{are_one, are_next}
use Rattle.life_chain.proofs.laws.lives_law.Goals as goal

pub returns : goal.returns
returns g c = record {
  one = are_one (IsLived g.D.Disk any_word) (IsRefusedOpening g.D.Disk);
  next = are_next g.D.Disk any_word c.tickets_law.ensures.life c.exactly_once_laws.ensures.exactly_once c.standing_law.ensures;
  one_in_memory = are_one (IsLived _ IsLeftByWord) (IsRefusedOpening _);
  next_in_memory = are_next _ IsLeftByWord c.tickets_law.ensures.life c.exactly_once_laws.ensures.exactly_once c.standing_law.ensures;
}
