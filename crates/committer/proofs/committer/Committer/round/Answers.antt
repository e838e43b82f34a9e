use Rattle.std.proofs.Common.{length, drop, refl, ap, sym, ◌∙◌, subst, inl, inr, ⊎_elim}
use Rattle.disk_trait.specs.Disk.{IsSameDevice, ran_none}
use Rattle.checkpoint.specs.StoreWords.{state_of, nodes_of, view_of}
use Rattle.intake.specs.Ends.{Taking}
use Rattle.group_commit.specs.DeskWords.{store_of as desk_store}
use Rattle.group_commit.specs.Settling.{settle}
use Rattle.committer.specs.Answers.{HasCommitted, IsWorn, KeepsGroup, LeavesEither, LosesDevice, OwesMarks}
use Rattle.committer.proofs.Answering.{at_rest, fewer_on, group_is, idle_on, marks_of_none, none_taken, refused_too, takes_none, takes_on}
use Rattle.committer.proofs.Crashing.{none_of, stays}
use Rattle.committer.proofs.Listings.{paid_listed}
use Rattle.committer.proofs.Logs.{tied_paid}
use Rattle.committer.proofs.Telling.{tied_tells}
use Rattle.committer.proofs.committer.Committer.round.Goals as goal

-- ---- the device had failed

pub returns-then-is_down-clause-takes : goal.returns-then-is_down-clause-takes
returns-then-is_down-clause-takes g c = takes_none _ c.args.self.now.taker

pub returns-then-is_down-clause-goes_on : goal.returns-then-is_down-clause-goes_on
returns-then-is_down-clause-goes_on g c = record {
  nodes = refl;
  ran = ran_none _;
  begun = refl;
  listed = λ builds first is. paid_listed first c.args.self.now.outbox c.pay-paid.new.self c.pay-paid.result _ _ _ _ c.pay-paid.ensures is;
}

pub returns-then-is_down-clause-at_rest : goal.returns-then-is_down-clause-at_rest
returns-then-is_down-clause-at_rest g c = record {
  whole = c.args.self.now.whole;
  tells = tied_tells _ _ _ _ _ c.pay-paid.new.self (tied_paid _ _ _ _ _ c.args.self.now.outbox c.pay-paid.new.self c.pay-paid.result c.pay-paid.ensures c.args.self.now.tied);
}

-- ---- what was due is due still

pub returns-then-not-pay-clause-takes : goal.returns-then-not-pay-clause-takes
returns-then-not-pay-clause-takes g c = takes_none _ c.args.self.now.taker

pub returns-then-not-pay-clause-any_moment : goal.returns-then-not-pay-clause-any_moment
returns-then-not-pay-clause-any_moment g c model up = stays (desk_store c.args.self.now.desk) (desk_store c.args.self.now.desk) _ refl model up

pub returns-then-not-pay-clause-goes_on : goal.returns-then-not-pay-clause-goes_on
returns-then-not-pay-clause-goes_on g c = record {
  nodes = refl;
  ran = ran_none _;
  begun = refl;
  listed = λ builds first is. paid_listed first c.args.self.now.outbox c.pay.new.self c.pay.result _ _ _ _ c.pay.ensures is;
}

pub returns-then-not-pay-clause-at_rest : goal.returns-then-not-pay-clause-at_rest
returns-then-not-pay-clause-at_rest g c = record {
  whole = c.args.self.now.whole;
  tells = tied_tells _ _ _ _ _ c.pay.new.self (tied_paid _ _ _ _ _ c.args.self.now.outbox c.pay.new.self c.pay.result c.pay.ensures c.args.self.now.tied);
}

-- ---- nothing is held

pub returns-then-held-eq0-clause-ok : goal.returns-then-held-eq0-clause-ok
returns-then-held-eq0-clause-ok g c =
    let none = none_of _ c.held.result c.held.ensures.same c.if-held-eq0.true in
    let nothing = sym c.take_up-taken.ensures.held ∙ none in
    record {
      number = ap (λ l. length (settle (state_of (desk_store c.args.self.now.desk)) l).accepted) (sym nothing);
      state = ap state_of c.take_up-taken.ensures.store ∙ ap (λ l. (settle (state_of (desk_store c.args.self.now.desk)) l).state) (sym nothing);
      held = none;
      posts = c.take_up-taken.ensures.posts ∙ c.if-not-pay.ensures ∙ marks_of_none _ _ _ nothing;
    }

pub returns-then-held-eq0-clause-takes : goal.returns-then-held-eq0-clause-takes
returns-then-held-eq0-clause-takes g c = c.take_up-taken.ensures.takes

pub returns-then-held-eq0-clause-number : goal.returns-then-held-eq0-clause-number
returns-then-held-eq0-clause-number g c = none_taken _ _ (sym c.take_up-taken.ensures.held ∙ none_of _ c.held.result c.held.ensures.same c.if-held-eq0.true)

pub returns-then-held-eq0-clause-fewer : goal.returns-then-held-eq0-clause-fewer
returns-then-held-eq0-clause-fewer g c few = ⊎_elim (λ some. inl some) (λ empty. inr (inl empty)) (c.take_up-taken.ensures.fewer few)

pub returns-then-held-eq0-clause-goes_on : goal.returns-then-held-eq0-clause-goes_on
returns-then-held-eq0-clause-goes_on g c = record {
  nodes = ap nodes_of c.take_up-taken.ensures.store;
  ran = subst (λ s. IsSameDevice (view_of (desk_store c.args.self.now.desk)) (view_of s)) (sym c.take_up-taken.ensures.store) (ran_none _);
  begun = c.take_up-taken.ensures.begun;
  listed = λ builds first is. c.take_up-taken.ensures.listed builds first (paid_listed first c.args.self.now.outbox c.pay.new.self c.pay.result _ _ _ _ c.pay.ensures is);
}

pub returns-then-held-eq0-clause-any_moment : goal.returns-then-held-eq0-clause-any_moment
returns-then-held-eq0-clause-any_moment g c model up = stays (desk_store c.args.self.now.desk) (desk_store c.take_up-taken.new.self.desk) _ c.take_up-taken.ensures.store model up

pub returns-then-held-eq0-clause-at_rest : goal.returns-then-held-eq0-clause-at_rest
returns-then-held-eq0-clause-at_rest g c = at_rest c.take_up-taken.new.self

-- ---- the commit was refused

pub returns-in_err-accepted-clause-takes : goal.returns-in_err-accepted-clause-takes
returns-in_err-accepted-clause-takes g c = takes_on _ _ _ _ c.commit.ensures.taker c.take_up-taken.ensures.takes

pub returns-in_err-accepted-clause-fewer : goal.returns-in_err-accepted-clause-fewer
returns-in_err-accepted-clause-fewer g c few =
    ⊎_elim (λ some. inl some) (λ empty. inr (inl empty)) (fewer_on c.args.self.now c.take_up-taken.new.self c.commit.new.self c.commit.ensures.taker c.take_up-taken.ensures.fewer few)

pub returns-in_err-accepted-clause-idle : goal.returns-in_err-accepted-clause-idle
returns-in_err-accepted-clause-idle g c =
    let is = group_is c.args.self.now c.take_up-taken.new.self c.commit.new.self c.take_up-taken.ensures.store (c.take_up-taken.ensures.posts ∙ c.if-not-pay.ensures) c.take_up-taken.ensures.held c.commit.ensures.taker in
    idle_on c.take_up-taken.new.self c.commit.new.self _ is c.commit.ensures.idle

pub returns-in_err-accepted-clause-kept : goal.returns-in_err-accepted-clause-kept
returns-in_err-accepted-clause-kept g c which =
    let is = group_is c.args.self.now c.take_up-taken.new.self c.commit.new.self c.take_up-taken.ensures.store (c.take_up-taken.ensures.posts ∙ c.if-not-pay.ensures) c.take_up-taken.ensures.held c.commit.ensures.taker in
    subst (λ group. KeepsGroup group c.commit.new.self) is (c.in_err-accepted.ensures.kept (⊎_elim (λ a. inl (refused_too c.from_residual.result _ _ c.from_residual.ensures.1 a)) (λ b. inr (refused_too c.from_residual.result _ _ c.from_residual.ensures.1 b)) which))

pub returns-in_err-accepted-clause-worn : goal.returns-in_err-accepted-clause-worn
returns-in_err-accepted-clause-worn g c which =
    let is = group_is c.args.self.now c.take_up-taken.new.self c.commit.new.self c.take_up-taken.ensures.store (c.take_up-taken.ensures.posts ∙ c.if-not-pay.ensures) c.take_up-taken.ensures.held c.commit.ensures.taker in
    subst (λ group. IsWorn group c.commit.new.self) is (c.in_err-accepted.ensures.worn (refused_too c.from_residual.result _ _ c.from_residual.ensures.1 which))

pub returns-in_err-accepted-clause-device : goal.returns-in_err-accepted-clause-device
returns-in_err-accepted-clause-device g c which =
    let is = group_is c.args.self.now c.take_up-taken.new.self c.commit.new.self c.take_up-taken.ensures.store (c.take_up-taken.ensures.posts ∙ c.if-not-pay.ensures) c.take_up-taken.ensures.held c.commit.ensures.taker in
    subst (λ group. LosesDevice group c.commit.new.self) is (c.in_err-accepted.ensures.device (refused_too c.from_residual.result _ _ c.from_residual.ensures.1 which))

pub returns-in_err-accepted-clause-board : goal.returns-in_err-accepted-clause-board
returns-in_err-accepted-clause-board g c which =
    let is = group_is c.args.self.now c.take_up-taken.new.self c.commit.new.self c.take_up-taken.ensures.store (c.take_up-taken.ensures.posts ∙ c.if-not-pay.ensures) c.take_up-taken.ensures.held c.commit.ensures.taker in
    inr (subst (λ group. OwesMarks group c.commit.new.self) is (c.in_err-accepted.ensures.board (refused_too c.from_residual.result _ _ c.from_residual.ensures.1 which)))

pub returns-in_err-accepted-clause-any_moment : goal.returns-in_err-accepted-clause-any_moment
returns-in_err-accepted-clause-any_moment g c =
    let is = group_is c.args.self.now c.take_up-taken.new.self c.commit.new.self c.take_up-taken.ensures.store (c.take_up-taken.ensures.posts ∙ c.if-not-pay.ensures) c.take_up-taken.ensures.held c.commit.ensures.taker in
    subst (λ group. LeavesEither group c.commit.new.self) is c.commit.ensures.any_moment

pub returns-in_err-accepted-clause-goes_on : goal.returns-in_err-accepted-clause-goes_on
returns-in_err-accepted-clause-goes_on g c = record {
  nodes = c.commit.ensures.goes_on.nodes ∙ ap nodes_of c.take_up-taken.ensures.store;
  ran = subst (λ s. IsSameDevice (view_of s) (view_of (desk_store c.commit.new.self.desk))) c.take_up-taken.ensures.store c.commit.ensures.goes_on.ran;
  begun = c.commit.ensures.goes_on.begun ∙ c.take_up-taken.ensures.begun;
  listed = λ builds first is. c.commit.ensures.goes_on.listed builds first (c.take_up-taken.ensures.listed builds first (paid_listed first c.args.self.now.outbox c.pay.new.self c.pay.result _ _ _ _ c.pay.ensures is));
}

pub returns-in_err-accepted-clause-at_rest : goal.returns-in_err-accepted-clause-at_rest
returns-in_err-accepted-clause-at_rest g c = at_rest c.commit.new.self

-- ---- the group was committed

pub returns-clause-takes : goal.returns-clause-takes
returns-clause-takes g c = takes_on _ _ _ _ c.commit.ensures.taker c.take_up-taken.ensures.takes

pub returns-clause-number : goal.returns-clause-number
returns-clause-number g c = c.take_up-taken.ensures.number ∙ ap (λ (t : Taking). length (drop (length c.args.self.now.taker.got) t.got)) (sym c.commit.ensures.taker)

pub returns-clause-fewer : goal.returns-clause-fewer
returns-clause-fewer g c few =
    ⊎_elim (λ some. inl some) (λ empty. inr (inl empty)) (fewer_on c.args.self.now c.take_up-taken.new.self c.commit.new.self c.commit.ensures.taker c.take_up-taken.ensures.fewer few)

pub returns-clause-ok : goal.returns-clause-ok
returns-clause-ok g c =
    let is = group_is c.args.self.now c.take_up-taken.new.self c.commit.new.self c.take_up-taken.ensures.store (c.take_up-taken.ensures.posts ∙ c.if-not-pay.ensures) c.take_up-taken.ensures.held c.commit.ensures.taker in
    subst (λ group. HasCommitted group c.commit.new.self c.in_ok-accepted.accepted) is c.in_ok-accepted.ensures.ok

pub returns-clause-idle : goal.returns-clause-idle
returns-clause-idle g c =
    let is = group_is c.args.self.now c.take_up-taken.new.self c.commit.new.self c.take_up-taken.ensures.store (c.take_up-taken.ensures.posts ∙ c.if-not-pay.ensures) c.take_up-taken.ensures.held c.commit.ensures.taker in
    idle_on c.take_up-taken.new.self c.commit.new.self _ is c.commit.ensures.idle

pub returns-clause-any_moment : goal.returns-clause-any_moment
returns-clause-any_moment g c =
    let is = group_is c.args.self.now c.take_up-taken.new.self c.commit.new.self c.take_up-taken.ensures.store (c.take_up-taken.ensures.posts ∙ c.if-not-pay.ensures) c.take_up-taken.ensures.held c.commit.ensures.taker in
    subst (λ group. LeavesEither group c.commit.new.self) is c.commit.ensures.any_moment

pub returns-clause-goes_on : goal.returns-clause-goes_on
returns-clause-goes_on g c = record {
  nodes = c.commit.ensures.goes_on.nodes ∙ ap nodes_of c.take_up-taken.ensures.store;
  ran = subst (λ s. IsSameDevice (view_of s) (view_of (desk_store c.commit.new.self.desk))) c.take_up-taken.ensures.store c.commit.ensures.goes_on.ran;
  begun = c.commit.ensures.goes_on.begun ∙ c.take_up-taken.ensures.begun;
  listed = λ builds first is. c.commit.ensures.goes_on.listed builds first (c.take_up-taken.ensures.listed builds first (paid_listed first c.args.self.now.outbox c.pay.new.self c.pay.result _ _ _ _ c.pay.ensures is));
}

pub returns-clause-at_rest : goal.returns-clause-at_rest
returns-clause-at_rest g c = at_rest c.commit.new.self
