use Rattle.std.proofs.Common.{◌≡◌, ◌++◌, length, None}
use Rattle.requests.specs.Tickets.{Rises}
use Rattle.layout_2.specs.State.{asked}
use Rattle.checkpoint.specs.StoreWords.{state_of}
use Rattle.group_commit.specs.DeskWords.{store_of, held_of, due_of}
use Rattle.intake.specs.Turns.{AreWithin}
use Rattle.intake.specs.Ends.{HasTaken}
use Rattle.committer.specs.Turns.{HoldsNoLater}
use Rattle.committer.proofs.committer.fill.Given as goal

abbrev pub invariant-loop : goal.invariant-loop
invariant-loop g l = record {
  store : store_of l.desk ≡ store_of l.initial.desk;
  due : due_of l.desk ≡ None;
  starts : l.taker.starts ≡ l.initial.taker.starts;
  queue : l.taker.queue ≡ l.initial.taker.queue;
  front : l.taker.got ≡ l.initial.taker.got ++ held_of l.desk;
  number : l.taken ≡ l.counter;
  held : length (held_of l.desk) ≡ l.counter;
  empties : l.taker.empties ≡ l.initial.taker.empties;
  no_later : HoldsNoLater (state_of (store_of l.desk)).tickets (held_of l.desk) l.taker.starts l.taker.got;
  rises : Rises l.taker.starts (asked l.taker.got);
  taken : HasTaken l.initial.taker l.taker;
  within : AreWithin (held_of l.desk);
}
