use Rattle.std.proofs.Common.{rules, arith, ◌≡◌, ◌∙◌, refl, ap, ◌++◌, ◌∷◌, []}
use Rattle.std.proofs.lemmas.Grind.{common_steps}
use Rattle.crash_trials.specs.Kinds.{accepted_by}
use Rattle.crash_trials.proofs.KindLemmas.{last_two}
use Rattle.crash_trials.proofs.found.kind_of.Goals as goal

pub accepted_in-requires : goal.accepted_in-requires
accepted_in-requires c =
    let all : c.args.report.now.lives.items ≡ c.in-Some.others.now ++ c.in-Some.last.now ∷ [] = search rules in
    let front : c.in-Some.others.now ≡ c.in-Some-split_last._before.now ++ c.in-Some-split_last.stopped.now ∷ [] = search rules in
    let two = last_two _ _ _ _ _ all front c.requires in
    let here : accepted_by c.deref-2.result.now ≡ accepted_by c.in-Some-split_last.stopped.now.replies.items = ap accepted_by c.deref-2.ensures.value in
    omega (arith, two.1)

pub returns : goal.returns
returns c =
    let all : c.args.report.now.lives.items ≡ c.in-Some.others.now ++ c.in-Some.last.now ∷ [] = search rules in
    let front : c.in-Some.others.now ≡ c.in-Some-split_last._before.now ++ c.in-Some-split_last.stopped.now ∷ [] = search rules in
    let two = last_two _ _ _ _ _ all front c.requires in
    let told = c.accepted_in.ensures ∙ ap accepted_by c.deref-2.ensures.value in
    record {
      all = grind (arith, common_steps);
      before = c.in-Some-split_last._before.now;
      stopped = c.in-Some-split_last.stopped.now;
      last = c.in-Some.last.now;
      is = two.0;
      found = refl;
      acknowledged = told;
      opened = refl;
      kept = rw told two.1;
    }
