use Rattle.std.proofs.Common.{arith, ◌≡◌, ◌+◌, ◌++◌, ◌∷◌, [], ℕ, List, length, subst, sym, ap, ◌∙◌, IsTrue, take}
use Rattle.std.proofs.lemmas.List.{take_more, take_all}
use Rattle.disk_trait.specs.Disk.{ran_none, ran_on}
use Rattle.checkpoint.specs.StoreWords.{disk_of}
use Rattle.layout_2.specs.State.{State}
use Rattle.event_laws.specs.Listed.{IsListed}
use Rattle.event_laws.specs.Runs.{IsRun}
use Rattle.event_laws.specs.Ways.{AreOnWay}
use Rattle.event_model.specs.declared.event.Event.{Event}
use Rattle.event_model.specs.declared.reply.Reply.{Reply}
use Rattle.event_model.specs.Answers.{number_of}
use Rattle.event_model.specs.Machines.{Machine}
use Rattle.event_model.specs.Runs.{Run}
use Rattle.interleave.specs.WorldWords.{lists_of, machine_of, world_store, world_view}
use Rattle.interleave.specs.Crashes.{HasWorlds, moment_at}
use Rattle.interleave.proofs.Going.{none_yet, one_more, safe_each, desks_run}
use Rattle.interleave.proofs.world.World.run_into.Goals as goal

pub loop-event-init : goal.loop-event-init
loop-event-init g c =
    let world = c.args.self.now in
    let none = c.requires.none in
    let long = ap length none in
    let known = c.args.replies.now.ok.0 in
    let room = c.requires.room in
    record {
      room = omega (arith, long, known, room);
      ran = ran_none (world_view world);
      worlds = subst (λ (rs : List Reply). HasWorlds world [] rs world) (sym none) (none_yet world);
    }

pub loop-event-preserved : goal.loop-event-preserved
loop-event-preserved g c =
    let inv = c.loop-event.invariant in
    let start = c.args.self.now in
    let v = world_view c.loop-event.self in
    let a = lists_of c.loop-event.self in
    let b = lists_of c.step-reply.new.self in
    let i = c.loop-event.event-index in
    let es : List Event = c.args.events.now in
    let rs : List Reply = c.loop-event.replies.items in
    let e : Event = c.event-item.result in
    let r : Reply = c.step-reply.result in
    let now_es : take (i + 1) es ≡ take i es ++ e ∷ [] = take_more es i e c.loop-event-test.true ∙ ap (λ x. take i es ++ x ∷ []) (sym c.event-item.is) in
    let was = inv.room in
    let len = c.add.ensures.len in
    let most = c.add.ensures.capacity in
    let lt = c.loop-event-test.true in
    let step = c.step-reply.ensures.step in
    let more : HasWorlds start (take i es ++ e ∷ []) (rs ++ r ∷ []) c.step-reply.new.self =
    one_more start c.loop-event.self (take i es) rs e r c.step-reply.new.self inv.worlds step
    (λ model first ms run. c.history_law.ensures.goes_on first (disk_of (world_store c.loop-event.self)) (disk_of (world_store c.step-reply.new.self)) a b (number_of r) ms run
    (c.step-reply.ensures.happens (subst IsTrue (sym inv.ran.model) model))) in
    record {
      room = omega (arith, was, len, most, lt);
      ran = ran_on (world_view start) v (world_view c.step-reply.new.self) inv.ran step.ran;
      worlds = subst (λ (l : List Reply). HasWorlds start (take (i + 1) es) l c.step-reply.new.self) (sym c.add.ensures.items) (subst (λ (l : List Event). HasWorlds start l (rs ++ r ∷ []) c.step-reply.new.self) (sym now_es) more);
    }

pub returns-clause-run : goal.returns-clause-run
returns-clause-run g c =
    let es : List Event = c.args.events.now in
    let i : ℕ = c.loop-event.event-index in
    let old = c.args.self.now in
    let new = c.loop-event.self in
    let m : Machine = machine_of old in
    let n : Machine = machine_of new in
    let rs : List Reply = c.loop-event.replies.items in
    let all : take i es ≡ es = take_all i es (let past = c.loop-event-test.false in omega (arith, past)) in
    let ran : HasWorlds old es rs new = subst (λ (l : List Event). HasWorlds old l rs new) all c.loop-event.invariant.worlds in
    let answers : Run m es rs n = desks_run old new es rs ran.each ran.steps in
    let lists : (first : State) → IsListed first m → IsListed first n = λ first is. c.lists_law.ensures.run first m es rs n is answers in
    let ways = λ (first : State) (is : IsListed first m) (ways : AreOnWay m). c.ways_law.ensures.runs first m es rs n is ways answers in
    record {
      machine = record {
        answers = answers;
        lists = lists;
        asked = c.queue_law.ensures.asked m es rs n answers;
        on_way = λ first is on_way. (ways first is on_way).0;
        routes = λ first is on_way. (ways first is on_way).1;
        go_on = λ first is on_way. (ways first is on_way).2;
        routed_well = λ first is on_way. c.ways_law.ensures.routed_well first n (lists first is) ((ways first is on_way).0);
        arrive = λ first is. c.ways_law.ensures.arrive first m es rs n is answers;
      };
      worlds = ran;
      safe = λ model first run is.
          let here : IsRun first (world_view old) (lists_of old) (moment_at old ∷ []) = c.history_law.ensures.now_counts first (disk_of (world_store old)) (lists_of old) [] run in
          safe_each c.lists_law.ensures.answers c.acknowledged_law.ensures.later first new old es rs ran.each is ran.steps (ran.goes_on model first (moment_at old ∷ []) here).holds;
      acknowledged = λ model first before run is image left.
          let prefix = (ran.goes_on model first before run).now image left in
          record {
            prefix = prefix;
            acknowledged = c.acknowledged_law.ensures.prefixes first n image (lists first is) prefix;
          };
    }
