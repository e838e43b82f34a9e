use Rattle.std.proofs.Common.{rules, ◌≡◌, ◌<◌, ◌+◌, List, length, slice_get, Some, None, refl, sym, ap, ◌∙◌, subst, arith}
use Rattle.std.specs.Option.{option_map}
use Rattle.std.proofs.lemmas.Option.{slice_get_read}
use Rattle.checkpoint.specs.StoreWords.{state_of, is_down}
use Rattle.requests.specs.declared.request.Request.{Request}
use Rattle.layout_2.specs.State.{IsNext}
use Rattle.generations.specs.Notices.{notice_of}
use Rattle.group_commit.specs.DeskWords.{store_of, held_of, due_of, tickets_of}
use Rattle.group_commit.specs.Limits.{most_held}
use Rattle.event_model.specs.declared.reply.Reply.TheVariants.{Taken}
use Rattle.event_model.specs.Machines.{Machine, held}
use Rattle.event_model.specs.Answers.{answer, take_one}
use Rattle.interleave.specs.WorldWords.{machine_of}
use Rattle.interleave.proofs.Steps.{exactly, takes}
use Rattle.interleave.proofs.Tickets.{next_here}
use Rattle.interleave.proofs.world.World.take.Goals as goal

pub give-requires-clause-next : goal.give-requires-clause-next
give-requires-clause-next g c =
    let world = c.args.self.now in
    let l : List Request = world.stored.asked.items in
    let x : Request = c.index.result.now in
    let known = world.stored.asked.ok.0 in
    let lt : world.stored.taken < length l = let a = c.if-self-len.false in let b = c.len.ensures in omega (arith, a, b, known) in
    let next = next_here (state_of (store_of world.desk)).tickets world.stored.starts l (held_of world.desk) world.stored.done world.stored.taken x world.in_turn world.behind world.split world.started lt c.index.ensures in
    let same : x ≡ c.copy-request.result = sym c.copy-request.ensures in
    subst (λ (r : Request). IsNext (tickets_of world.desk) r) same next

pub returns-clause-answers : goal.returns-clause-answers
returns-clause-answers g c =
    let world = c.args.self.now in
    let m : Machine = machine_of world in
    let l : List Request = world.stored.asked.items in
    let r : Request = c.copy-request.result in
    let known = world.stored.asked.ok.0 in
    let there : slice_get l world.stored.taken ≡ Some r =
    slice_get_read l (length l) world.stored.taken c.index.result.now refl (let a = c.if-self-len.false in let b = c.len.ensures in omega (arith, a, b, known)) c.index.ensures ∙ ap Some (sym c.copy-request.ensures) in
    let none : due_of world.desk ≡ None = search rules in
    let due : m.due ≡ None = ap (option_map notice_of) none in
    let many : length (held_of world.desk) ≡ length (held m) = ap length world.split in
    let room : length (held m) < most_held = let a = c.if-held-ge-MOST_HELD.false in let b = c.held.ensures.same in omega (arith, a, b, many) in
    let state : state_of (store_of c.give.new.self) ≡ m.state = ap (λ st. state_of st) c.give.ensures.store in
    let down : is_down (store_of c.give.new.self) ≡ m.down = ap (λ st. is_down st) c.give.ensures.store in
    let after : option_map notice_of (due_of c.give.new.self) ≡ m.due = ap (option_map notice_of) (c.give.ensures.due ∙ sym none) in
    exactly (take_one m) (answer (Taken r.session r.ticket) (record m { taken = m.taken + 1 })) (Taken r.session r.ticket) _ (takes m r there due room) refl
    (λ i. record m { taken = m.taken + 1; due = after i; state = state i; down = down i })
