use Rattle.std.proofs.Common.{◌∷◌, ◌++◌, ◌+◌, [], length, ap, sym, ◌∙◌, append_assoc, length-append}
use Rattle.checkpoint.specs.StoreWords.{state_of}
use Rattle.group_commit.specs.DeskWords.{store_of as desk_store, held_of as desk_held}
use Rattle.committer.proofs.InTurns.{next_here, holds_more}
use Rattle.committer.proofs.Taking.{taken_more}
use Rattle.committer.proofs.Listings.{within_more}
use Rattle.committer.proofs.committer.fill.Goals as goal

pub give-requires-clause-next : goal.give-requires-clause-next
give-requires-clause-next g c =
    next_here (state_of (desk_store c.loop.desk)).tickets (desk_held c.loop.desk) c.loop.taker.starts c.take.new.self.starts c.loop.taker.got c.take.new.self.got c.in-Some.request
    c.loop.invariant.no_later c.take.ensures.same.1 c.in-Some.ensures.got c.take.ensures.rises c.in-Some.ensures.within

pub loop-preserved : goal.loop-preserved
loop-preserved g c =
    let r = c.in-Some.request in
    let was = c.loop.invariant in
    record {
      store = c.give.ensures.store ∙ was.store;
      due = c.give.ensures.due;
      starts = c.take.ensures.same.1 ∙ was.starts;
      queue = c.take.ensures.same.0 ∙ was.queue;
      front = c.in-Some.ensures.got ∙ (ap (λ l. l ++ r ∷ []) was.front ∙ (append_assoc c.args.taker.now.got (desk_held c.loop.desk) (r ∷ []) ∙ ap (λ l. c.args.taker.now.got ++ l) (sym c.give.ensures.held)));
      number = ap (λ n. n + 1) was.number;
      held = ap length c.give.ensures.held ∙ (length-append (desk_held c.loop.desk) (r ∷ []) ∙ ap (λ n. n + 1) was.held);
      empties = c.in-Some.ensures.empty ∙ was.empties;
      no_later = holds_more (state_of (desk_store c.loop.desk)).tickets (state_of (desk_store c.give.new.self)).tickets (desk_held c.loop.desk) (desk_held c.give.new.self) c.loop.taker.starts c.take.new.self.starts c.loop.taker.got c.take.new.self.got r
          was.no_later (ap (λ s. (state_of s).tickets) c.give.ensures.store) c.give.ensures.held c.take.ensures.same.1 c.in-Some.ensures.got;
      rises = c.take.ensures.rises;
      taken = taken_more c.args.taker.now c.loop.taker c.take.new.self was.empties was.taken c.take.ensures.taken;
      within = within_more (desk_held c.loop.desk) (desk_held c.give.new.self) r c.give.ensures.held was.within c.in-Some.ensures.within;
    }
