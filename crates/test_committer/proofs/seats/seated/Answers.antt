use Rattle.std.proofs.Common.{ap, sym, subst, All, Some, ◌≡◌, ◌∙◌}
use Rattle.std.proofs.lemmas.List.Elements.{All-pop}
use Rattle.generations.specs.Beginnings.{Beginning}
use Rattle.generations.specs.Knowledges.{Knowledge}
use Rattle.intake.specs.Editors.{Editing}
use Rattle.committer.specs.Outboxes.{Outgoing}
use Rattle.test_committer.proofs.Seating.{editors_at}
use Rattle.test_committer.proofs.seats.seated.Goals as goal

pub invariant_of-result : goal.invariant_of-result
invariant_of-result g c =
    let o = c.in_ok-writer.writer.opening in
    let P : Knowledge → Type 0 = λ r. r.all.opening ≡ o in
    let Q : Editing → Type 0 = λ e. e.known.opening ≡ o in
    let all : All P c.in_ok-writer.readers.items = λ k d w. ap (λ (r : Knowledge). r.all.opening) (c.in_ok-writer.ensures.seen k d w) in
    let reader = All-pop P c.in_ok-writer.readers.items c.popped-reader.new.list.items (Some c.popped-reader.result) c.popped-reader.ensures all in
    let three = All-pop P c.popped-reader.new.list.items c.popped-three.new.list.items (Some c.popped-three.result) c.popped-three.ensures reader.0 in
    let two = All-pop P c.popped-three.new.list.items c.popped-two.new.list.items (Some c.popped-two.result) c.popped-two.ensures three.0 in
    let one = All-pop P c.popped-two.new.list.items c.popped-one.new.list.items (Some c.popped-one.result) c.popped-one.ensures two.0 in
    let editors : All Q c.in_ok-taker.editors.items = subst (All Q) (sym c.in_ok-taker.ensures.editors) (editors_at c.in_ok-taker.taker.queue _ 0 c.popped-one.new.list.items o one.0) in
    let fourth = All-pop Q c.in_ok-taker.editors.items c.popped-fourth.new.list.items (Some c.popped-fourth.result) c.popped-fourth.ensures editors in
    let third = All-pop Q c.popped-fourth.new.list.items c.popped-third.new.list.items (Some c.popped-third.result) c.popped-third.ensures fourth.0 in
    let second = All-pop Q c.popped-third.new.list.items c.popped-second.new.list.items (Some c.popped-second.result) c.popped-second.ensures third.0 in
    let first = All-pop Q c.popped-second.new.list.items c.popped-first.new.list.items (Some c.popped-first.result) c.popped-first.ensures second.0 in
    let posted = sym (ap (λ (x : Outgoing). x.opening) c.new.ensures.posts) in
    record {
      first_seat = first.1 ∙ posted;
      second_seat = second.1 ∙ posted;
      one_seat = ap (λ (b : Beginning). b.opening) c.new-2.ensures ∙ (one.1 ∙ posted);
      two_seat = ap (λ (b : Beginning). b.opening) c.new-3.ensures ∙ (two.1 ∙ posted);
      three_seat = ap (λ (b : Beginning). b.opening) c.new-4.ensures ∙ (three.1 ∙ posted);
      reader_seat = reader.1 ∙ posted;
    }
