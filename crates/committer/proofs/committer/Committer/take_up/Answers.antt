use Rattle.std.proofs.Common.{arith, length, refl, ap, sym, ◌∙◌, ◌≤◌, inr, subst}
use Rattle.std.specs.Prelude.{is_some}
use Rattle.checkpoint.specs.StoreWords.{state_of, is_down}
use Rattle.group_commit.specs.Limits.{most_held}
use Rattle.group_commit.specs.DeskWords.{store_of as desk_store, held_of as desk_held}
use Rattle.generations.proofs.Keeping.{drop_whole}
use Rattle.committer.proofs.Answering.{takes_none, takes_now, now_taken}
use Rattle.committer.proofs.Crashing.{held_first, none_of, taken_first, up_leaves}
use Rattle.committer.proofs.Leading.{led_now}
use Rattle.committer.proofs.Listings.{filled_now}
use Rattle.committer.proofs.Logs.{tied_now}
use Rattle.committer.proofs.Tying.{tied_no_later, tied_rises}
use Rattle.committer.proofs.committer.Committer.take_up.Goals as goal

pub returns-then-held-gt0-clause-held : goal.returns-then-held-gt0-clause-held
returns-then-held-gt0-clause-held g c = held_first (desk_held c.args.self.now.desk) c.args.self.now.taker.got _ _ refl refl

pub returns-then-held-gt0-clause-takes : goal.returns-then-held-gt0-clause-takes
returns-then-held-gt0-clause-takes g c = takes_none _ c.args.self.now.taker

pub returns-then-held-gt0-clause-number : goal.returns-then-held-gt0-clause-number
returns-then-held-gt0-clause-number g c = sym (ap length (drop_whole c.args.self.now.taker.got))

pub returns-then-held-gt0-clause-listed : goal.returns-then-held-gt0-clause-listed
returns-then-held-gt0-clause-listed g c builds first is = is

pub fill-requires-clause-no_later : goal.fill-requires-clause-no_later
fill-requires-clause-no_later g c = tied_no_later _ _ _ _ _ _ _ c.args.self.now.taker.starts c.args.self.now.same_starts c.args.self.now.tied

pub fill-requires-clause-rises : goal.fill-requires-clause-rises
fill-requires-clause-rises g c = tied_rises _ _ _ _ _ _ _ c.args.self.now.taker.starts c.args.self.now.same_starts c.args.self.now.tied

pub invariant_of-self : goal.invariant_of-self
invariant_of-self g c =
    let old = c.args.self.now in
    let none = none_of (desk_held old.desk) c.held.result c.held.ensures.same (omega (arith, c.if-held-gt0.false)) in
    let same = c.fill.ensures.same.0 ∙ old.same_starts in
    record {
      at_outbox = ap is_some c.fill.ensures.due;
      same_starts = same;
      tied = tied_now old.outbox old.newest (desk_held old.desk) (desk_held c.fill.new.desk) old.taker.got c.fill.new.taker.got _ _ _ _ c.fill.new.taker.starts old.tied none
          c.fill.ensures.front c.fill.ensures.rises same (ap state_of c.fill.ensures.store) (ap is_down c.fill.ensures.store);
      led = led_now _ (desk_held old.desk) (desk_held c.fill.new.desk) old.taker.got c.fill.new.taker.got _ _ old.led none c.fill.ensures.front (ap state_of c.fill.ensures.store);
      whole = up_leaves (desk_store c.fill.new.desk) (desk_held c.fill.new.desk) (ap is_down c.fill.ensures.store ∙ c.requires.up);
    }

pub returns-clause-held : goal.returns-clause-held
returns-clause-held g c =
    let old = c.args.self.now in
    let none = none_of (desk_held old.desk) c.held.result c.held.ensures.same (omega (arith, c.if-held-gt0.false)) in
    taken_first (desk_held old.desk) old.taker.got (desk_held c.fill.new.desk) c.fill.new.taker.got c.fill.new.taker.got none c.fill.ensures.front refl

pub returns-clause-takes : goal.returns-clause-takes
returns-clause-takes g c =
    let old = c.args.self.now in
    let none = none_of (desk_held old.desk) c.held.result c.held.ensures.same (omega (arith, c.if-held-gt0.false)) in
    takes_now (desk_held old.desk) old.taker c.fill.new.taker (desk_held c.fill.new.desk) none c.fill.ensures.front (subst (λ n. n ≤ most_held) c.fill.ensures.number c.fill.ensures.few) c.fill.ensures.same.1 c.fill.ensures.taken

pub returns-clause-number : goal.returns-clause-number
returns-clause-number g c = c.fill.ensures.number ∙ sym (ap length (now_taken c.args.self.now.taker.got (desk_held c.fill.new.desk) c.fill.new.taker.got c.fill.ensures.front))

pub returns-clause-fewer : goal.returns-clause-fewer
returns-clause-fewer g c few =
    let is = c.fill.ensures.number ∙ sym (ap length (now_taken c.args.self.now.taker.got (desk_held c.fill.new.desk) c.fill.new.taker.got c.fill.ensures.front)) in
    inr (c.fill.ensures.fewer (omega (arith, is, few)))

pub returns-clause-listed : goal.returns-clause-listed
returns-clause-listed g c builds first is =
    let old = c.args.self.now in
    let none = none_of (desk_held old.desk) c.held.result c.held.ensures.same (omega (arith, c.if-held-gt0.false)) in
    filled_now first old.outbox (desk_held old.desk) (desk_held c.fill.new.desk) old.taker.got c.fill.new.taker.got _ _ _ _ c.fill.new.taker.starts is none
    c.fill.ensures.front c.fill.ensures.rises (c.fill.ensures.same.0 ∙ old.same_starts) c.fill.ensures.within (ap state_of c.fill.ensures.store) (ap is_down c.fill.ensures.store)
