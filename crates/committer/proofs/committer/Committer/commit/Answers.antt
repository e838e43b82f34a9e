use Rattle.std.proofs.Common.{rules, length, Err, refl, ap, sym, ◌∙◌}
use Rattle.std.specs.Prelude.{is_some}
use Rattle.checkpoint.specs.StoreWords.{state_of, is_down}
use Rattle.generations.specs.declared.posting.Notice.TheVariants.{Failed}
use Rattle.generations.specs.Notices.{notice_of}
use Rattle.committer.specs.Outboxes.{with_due}
use Rattle.committer.proofs.Answering.{marks_of_some, told_either}
use Rattle.group_commit.specs.Settling.{settle}
use Rattle.group_commit.specs.DeskWords.{store_of as desk_store, held_of as desk_held}
use Rattle.committer.proofs.Settles.{settles, down_said}
use Rattle.committer.proofs.Logs.{same_starts, marks_lawful, told_marks, down_lawful, told_down}
use Rattle.committer.proofs.Crashing.{moved, kept_model, up_leaves, down_leaves}
use Rattle.committer.proofs.Listings.{relisted, failed_listed}
use Rattle.committer.proofs.GivenOut.{given_listed, given_out}
use Rattle.committer.proofs.Leading.{led_settled, led_still}
use Rattle.committer.proofs.committer.Committer.commit.Goals as goal

pub tell-requires-clause-lawful : goal.tell-requires-clause-lawful
tell-requires-clause-lawful g c =
    let old = c.args.self.now in
    let s = state_of (desk_store old.desk) in
    let rs = desk_held old.desk in
    let out = given_out old.desk c.commit.new.self c.paid.new.self _ c.in-Some.marks c.in-Ok.ensures.ok (c.in-Ok.ensures.refused.stays_up c.requires.up (λ e. cc)) c.paid.ensures.store c.paid.ensures.held c.in-Some.ensures.given in
    marks_lawful old.outbox (notice_of c.in-Some.marks) (settle s rs).marks (length (settle s rs).accepted) (settle s rs).state _ _ _ _ _ old.tied c.requires.up c.requires.nothing_due out.said (settles s rs)

pub invariant_of-self : goal.invariant_of-self
invariant_of-self g c =
    let old = c.args.self.now in
    let s = state_of (desk_store old.desk) in
    let rs = desk_held old.desk in
    let out = given_out old.desk c.commit.new.self c.paid.new.self _ c.in-Some.marks c.in-Ok.ensures.ok (c.in-Ok.ensures.refused.stays_up c.requires.up (λ e. cc)) c.paid.ensures.store c.paid.ensures.held c.in-Some.ensures.given in
    record {
      at_outbox = ap is_some c.paid.ensures.due;
      same_starts = same_starts _ old.outbox c.tell.new.self (notice_of c.in-Some.marks) c.tell.result old.same_starts c.tell.ensures;
      tied = told_marks old.outbox c.tell.new.self (notice_of c.in-Some.marks) c.tell.result (settle s rs).marks (length (settle s rs).accepted) (settle s rs).state _ _ _ _ _ _ _ _ old.tied c.requires.up c.requires.nothing_due out.said (settles s rs) c.tell.ensures
          out.held out.state out.up;
      led = led_settled _ rs (desk_held c.paid.new.self) old.taker.got s (state_of (desk_store c.paid.new.self)) old.led out.held out.state;
      whole = up_leaves (desk_store c.paid.new.self) (desk_held c.paid.new.self) out.up;
    }

pub tell-posted-requires-clause-lawful : goal.tell-posted-requires-clause-lawful
tell-posted-requires-clause-lawful g c =
    let said = down_said _ c.in-Some-paid.down c.in-Some-paid.ensures.given (c.in-Err-Device.ensures.refused.down_due (ap Err c.in-Err-Device.field-0-is)) in
    down_lawful c.args.self.now.outbox (notice_of c.in-Some-paid.down) _ _ _ _ _ c.args.self.now.tied c.requires.up c.requires.nothing_due said

pub invariant_of-self-in-Err-Device : goal.invariant_of-self-in-Err-Device
invariant_of-self-in-Err-Device g c =
    let old = c.args.self.now in
    let said = down_said _ c.in-Some-paid.down c.in-Some-paid.ensures.given (c.in-Err-Device.ensures.refused.down_due (ap Err c.in-Err-Device.field-0-is)) in
    let same = ap state_of c.paid-in-Err-Device.ensures.store ∙ c.in-Err-Device.ensures.refused.state in
    let still = c.paid-in-Err-Device.ensures.held ∙ c.in-Err-Device.ensures.refused.still_held in
    record {
      at_outbox = ap is_some c.paid-in-Err-Device.ensures.due;
      same_starts = same_starts _ old.outbox c.tell-posted.new.self (notice_of c.in-Some-paid.down) c.tell-posted.result old.same_starts c.tell-posted.ensures;
      tied = told_down old.outbox c.tell-posted.new.self (notice_of c.in-Some-paid.down) c.tell-posted.result _ _ _ _ _ _ _ _ old.tied c.requires.up c.requires.nothing_due said c.tell-posted.ensures
          still same (ap is_down c.paid-in-Err-Device.ensures.store ∙ c.in-Err-Device.ensures.refused.lost (ap Err c.in-Err-Device.field-0-is));
      led = led_still _ (desk_held old.desk) (desk_held c.paid-in-Err-Device.new.self) old.taker.got (state_of (desk_store old.desk)) (state_of (desk_store c.paid-in-Err-Device.new.self)) old.led still same;
      whole = λ model. down_leaves (desk_store old.desk) (desk_store c.paid-in-Err-Device.new.self) (desk_held old.desk) (desk_held c.paid-in-Err-Device.new.self) same still
          (moved (desk_store old.desk) (desk_store c.commit.new.self) (desk_store c.paid-in-Err-Device.new.self) _ c.paid-in-Err-Device.ensures.store (c.commit.ensures.any_moment (kept_model (desk_store old.desk) (desk_store c.commit.new.self) (desk_store c.paid-in-Err-Device.new.self) c.commit.ensures.ran c.paid-in-Err-Device.ensures.store model) c.requires.up));
    }

-- ---- its marks are posted

pub returns-then-tell-clause-ok : goal.returns-then-tell-clause-ok
returns-then-tell-clause-ok g c =
    let old = c.args.self.now in
    let out = given_out old.desk c.commit.new.self c.paid.new.self _ c.in-Some.marks c.in-Ok.ensures.ok (c.in-Ok.ensures.refused.stays_up c.requires.up (λ e. cc)) c.paid.ensures.store c.paid.ensures.held c.in-Some.ensures.given in
    record {
      number = c.in-Ok.ensures.ok.number;
      state = out.state;
      held = out.held;
      posts = marks_of_some (desk_held old.desk) _ old.outbox _ (notice_of c.in-Some.marks) c.requires.some out.said c.if-tell.ensures;
    }

pub returns-then-tell-clause-any_moment : goal.returns-then-tell-clause-any_moment
returns-then-tell-clause-any_moment g c model up = moved (desk_store c.args.self.now.desk) (desk_store c.commit.new.self) (desk_store c.paid.new.self) _ c.paid.ensures.store (c.commit.ensures.any_moment model up)

pub returns-then-tell-clause-goes_on : goal.returns-then-tell-clause-goes_on
returns-then-tell-clause-goes_on g c = record {
  nodes = search rules;
  ran = search rules;
  begun = refl;
  listed =
      let old = c.args.self.now in
      let out = given_out old.desk c.commit.new.self c.paid.new.self _ c.in-Some.marks c.in-Ok.ensures.ok (c.in-Ok.ensures.refused.stays_up c.requires.up (λ e. cc)) c.paid.ensures.store c.paid.ensures.held c.in-Some.ensures.given in
      given_listed old c.paid.new.self c.tell.new.self c.in-Some.marks c.tell.result c.requires.up c.requires.nothing_due out c.tell.ensures;
}

-- ---- or they are due

pub returns-else-tell-clause-board : goal.returns-else-tell-clause-board
returns-else-tell-clause-board g c _ =
    let old = c.args.self.now in
    let out = given_out old.desk c.commit.new.self c.paid.new.self _ c.in-Some.marks c.in-Ok.ensures.ok (c.in-Ok.ensures.refused.stays_up c.requires.up (λ e. cc)) c.paid.ensures.store c.paid.ensures.held c.in-Some.ensures.given in
    record { state = out.state; held = out.held; posts = c.if-tell.ensures ∙ ap (with_due old.outbox) out.said }

pub returns-else-tell-clause-any_moment : goal.returns-else-tell-clause-any_moment
returns-else-tell-clause-any_moment g c model up = moved (desk_store c.args.self.now.desk) (desk_store c.commit.new.self) (desk_store c.paid.new.self) _ c.paid.ensures.store (c.commit.ensures.any_moment model up)

pub returns-else-tell-clause-goes_on : goal.returns-else-tell-clause-goes_on
returns-else-tell-clause-goes_on g c = record {
  nodes = search rules;
  ran = search rules;
  begun = refl;
  listed =
      let old = c.args.self.now in
      let out = given_out old.desk c.commit.new.self c.paid.new.self _ c.in-Some.marks c.in-Ok.ensures.ok (c.in-Ok.ensures.refused.stays_up c.requires.up (λ e. cc)) c.paid.ensures.store c.paid.ensures.held c.in-Some.ensures.given in
      given_listed old c.paid.new.self c.tell.new.self c.in-Some.marks c.tell.result c.requires.up c.requires.nothing_due out c.tell.ensures;
}

-- ---- the device failed

pub returns-in-Some-paid-clause-device : goal.returns-in-Some-paid-clause-device
returns-in-Some-paid-clause-device g c _ =
    let said = down_said _ c.in-Some-paid.down c.in-Some-paid.ensures.given (c.in-Err-Device.ensures.refused.down_due (ap Err c.in-Err-Device.field-0-is)) in
    record {
      state = ap state_of c.paid-in-Err-Device.ensures.store ∙ c.in-Err-Device.ensures.refused.state;
      held = c.paid-in-Err-Device.ensures.held ∙ c.in-Err-Device.ensures.refused.still_held;
      down = ap is_down c.paid-in-Err-Device.ensures.store ∙ c.in-Err-Device.ensures.refused.lost (ap Err c.in-Err-Device.field-0-is);
      failed = search rules;
      posts = told_either c.args.self.now.outbox _ (notice_of c.in-Some-paid.down) Failed c.tell-posted.result said c.tell-posted.ensures;
    }

pub returns-in-Some-paid-clause-any_moment : goal.returns-in-Some-paid-clause-any_moment
returns-in-Some-paid-clause-any_moment g c model up = moved (desk_store c.args.self.now.desk) (desk_store c.commit.new.self) (desk_store c.paid-in-Err-Device.new.self) _ c.paid-in-Err-Device.ensures.store (c.commit.ensures.any_moment model up)

pub returns-in-Some-paid-clause-goes_on : goal.returns-in-Some-paid-clause-goes_on
returns-in-Some-paid-clause-goes_on g c = record {
  nodes = search rules;
  ran = search rules;
  begun = refl;
  listed = λ builds first is.
      let old = c.args.self.now in
      let said = down_said _ c.in-Some-paid.down c.in-Some-paid.ensures.given (c.in-Err-Device.ensures.refused.down_due (ap Err c.in-Err-Device.field-0-is)) in
      failed_listed first old.outbox c.tell-posted.new.self (notice_of c.in-Some-paid.down) c.tell-posted.result (desk_held old.desk) _ old.taker.got _ (state_of (desk_store old.desk)) _ _ _ is c.requires.up c.requires.nothing_due said c.tell-posted.ensures
      (c.paid-in-Err-Device.ensures.held ∙ c.in-Err-Device.ensures.refused.still_held) refl (ap state_of c.paid-in-Err-Device.ensures.store ∙ c.in-Err-Device.ensures.refused.state) (ap is_down c.paid-in-Err-Device.ensures.store ∙ c.in-Err-Device.ensures.refused.lost (ap Err c.in-Err-Device.field-0-is));
}

-- ---- the group stays held

pub returns-in-Err-Memory-clause-goes_on : goal.returns-in-Err-Memory-clause-goes_on
returns-in-Err-Memory-clause-goes_on g c = record {
  nodes = search rules;
  ran = search rules;
  begun = refl;
  listed = λ builds first is.
      let old = c.args.self.now in
      relisted first old.outbox old.outbox (desk_held old.desk) _ old.taker.got old.taker.got (state_of (desk_store old.desk)) _ (is_down (desk_store old.desk)) _ refl refl
      c.in-Err-Memory.ensures.refused.still_held refl c.in-Err-Memory.ensures.refused.state (c.in-Err-Memory.ensures.refused.stays_up c.requires.up (λ e. cc) ∙ sym c.requires.up) is;
}

pub returns-in-Err-Worn-clause-goes_on : goal.returns-in-Err-Worn-clause-goes_on
returns-in-Err-Worn-clause-goes_on g c = record {
  nodes = search rules;
  ran = search rules;
  begun = refl;
  listed = λ builds first is.
      let old = c.args.self.now in
      relisted first old.outbox old.outbox (desk_held old.desk) _ old.taker.got old.taker.got (state_of (desk_store old.desk)) _ (is_down (desk_store old.desk)) _ refl refl
      c.in-Err-Worn.ensures.refused.still_held refl c.in-Err-Worn.ensures.refused.state (c.in-Err-Worn.ensures.refused.stays_up c.requires.up (λ e. cc) ∙ sym c.requires.up) is;
}
