use Rattle.std.proofs.Common.{◌≡◌, [], ◌∷◌, ℕ, List, length, subst, sym, ap, ◌∙◌, IsTrue, Bool, false}
use Rattle.std.specs.Option.{option_map}
use Rattle.std.proofs.lemmas.List.{length-replicate}
use Rattle.disk_trait.specs.Disk.{OnlyRead}
use Rattle.layout_2.specs.State.{State}
use Rattle.checkpoint.specs.StoreWords.{state_of, view_of, is_down, disk_of, stands_now}
use Rattle.generations.specs.Notices.{notice_of}
use Rattle.group_commit.specs.DeskWords.{store_of, due_of}
use Rattle.event_laws.specs.History.{Lists, lists_begun as none_yet}
use Rattle.event_laws.specs.Runs.{IsRun}
use Rattle.event_model.specs.declared.event.Event.{Event}
use Rattle.event_model.specs.Machines.{Machine, begun, fresh_session}
use Rattle.event_model.specs.Answers.{RebuildAnswers}
use Rattle.event_laws.specs.Listed.{IsListed}
use Rattle.event_laws.specs.OneLife.{history_of}
use Rattle.event_laws.specs.Ways.{AreOnWay}
use Rattle.event_laws.specs.Replies.{RunRoutes}
use Rattle.interleave.specs.declared.stored.Stored.{Stored}
use Rattle.interleave.specs.Stores.{machine_with}
use Rattle.interleave.specs.WorldWords.{lists_of, machine_of, world_view, world_store, desk_of}
use Rattle.interleave.specs.Runs.{HasRun}
use Rattle.life_chain.specs.declared.life.Life.{Life}
use Rattle.life_chain.specs.declared.report.LifeReport.{LifeReport}
use Rattle.life_chain.specs.Reports.{opened_of}
use Rattle.life_chain.specs.Sound.{HasCrashed}
use Rattle.life_chain.proofs.EventLemmas.{life_fits}
use Rattle.event_laws.proofs.Every.{all_as}
use Rattle.life_chain.proofs.LifeLemmas.{Counted, lived_is, counted_is, served, serves_opened, safe_is, read_same, handed_is, by_parts, tells}
use Rattle.life_chain.proofs.living.live.Goals as goal

pub returns-in-Err-clause-refused : goal.returns-in-Err-clause-refused
returns-in-Err-clause-refused g c model =
    let is = c.in-Err.ensures.refused in
    let content = is.of_model model in
    record {
      not_opened = record { read = content.reads; ran = is.ran; device = is.device; served = is.served; none = content.stands_for_none };
      front = tells c.in-Err.refused.0 (g.D.Disk.view c.args.disk).content content.not_formatted content.bad_version content.damaged content.memory;
    }

pub returns-clause-lived : goal.returns-clause-lived
returns-clause-lived g c model =
    let opened = c.in-Ok.ensures.opened in
    let store = c.in-Ok.store in
    let disk = c.args.disk in
    let life : Life = c.args.life.now in
    let s : State = state_of store in
    let world = c.with_sessions-world.result in
    let built = c.rebuild-rebuilt.new.self in
    let armed = c.arm.new.self in
    let end = c.run_into.new.self in
    let start : Machine = begun life.capacity life.sessions s false in
    let reply = c.rebuild-rebuilt.result in
    let replies = c.run_into.new.replies in
    let report : LifeReport = record { count = c.count-count.result; graph = c.in-Ok-parts_of.graph; tickets = c.starts-tickets.result; rebuilt = reply; replies = replies; stored = c.into_parts-stored.result.0 } in
    let due = option_map notice_of (due_of (desk_of end)) in
    let state : State = state_of (world_store end) in
    let down : Bool = is_down (world_store end) in
    let left = c.crash-disk.result in
    let many : length c.in-Ok-parts_of.sessions.items ≡ life.sessions = ap length c.in-Ok-parts_of.ensures.sessions ∙ length-replicate life.sessions fresh_session in
    let store_is : world_store world ≡ store = ap (λ d. store_of d) c.with_sessions-world.ensures.fresh.given ∙ c.new.ensures.store in
    let machine_is : machine_of world ≡ start =
    c.with_sessions-world.ensures.fresh.machine ∙ (ap (λ st. begun life.capacity (length c.in-Ok-parts_of.sessions.items) (state_of st) (is_down st)) c.new.ensures.store
    ∙ (ap (λ (b : Bool). begun life.capacity (length c.in-Ok-parts_of.sessions.items) s b) opened.up ∙ ap (λ (n : ℕ). begun life.capacity n s false) many)) in
    let built_is : world_store built ≡ store = c.rebuild-rebuilt.ensures.leaves.store ∙ store_is in
    let lists_is : lists_of armed ≡ none_yet s = c.arm.ensures.lists ∙ (c.rebuild-rebuilt.ensures.leaves.lists ∙ ap (λ (m : Machine). history_of m) machine_is) in
    let model_store : IsTrue (view_of store).keeps_model = subst IsTrue (sym opened.ran.model) model in
    let model_built : IsTrue (world_view built).keeps_model = subst (λ st. IsTrue (view_of st).keeps_model) (sym built_is) model_store in
    let model_armed : IsTrue (world_view armed).keeps_model = subst IsTrue (sym c.arm.ensures.same.model) model_built in
    let model_end : IsTrue (world_view end).keeps_model = subst IsTrue (sym c.run_into.ensures.ran.model) model_armed in
    let rebuilt : RebuildAnswers life.words.items start reply (machine_of armed) =
    subst (λ (m : Machine). RebuildAnswers life.words.items start reply m) (sym c.arm.ensures.machine)
    (subst (λ (l : List ℕ). RebuildAnswers l start reply (machine_of built)) c.as_slice.ensures.value (subst (λ (m : Machine). RebuildAnswers c.as_slice.result.now m reply (machine_of built)) machine_is c.rebuild-rebuilt.ensures.answers)) in
    let begun_run : IsRun s (world_view built) (none_yet s) [] =
    subst (λ st. IsRun s (view_of st) (none_yet s) []) (sym built_is) (c.history_law.ensures.begins s (disk_of store) (stands_now store model_store opened.up)) in
    let armed_run : IsRun s (world_view armed) (lists_of armed) [] =
    subst (λ (a : Lists). IsRun s (world_view armed) a []) (sym lists_is) (c.history_law.ensures.stays_run s (disk_of (world_store built)) (disk_of (world_store armed)) (none_yet s) [] begun_run c.arm.ensures.same) in
    let listed_built : IsListed s (machine_of built) = c.rebuild-rebuilt.ensures.listed s (subst (λ st. IsListed (state_of st) (machine_of world)) c.new.ensures.store c.with_sessions-world.ensures.listed) in
    let listed_armed : IsListed s (machine_of armed) = subst (λ (m : Machine). IsListed s m) (sym c.arm.ensures.machine) listed_built in
    let ways_armed : AreOnWay (machine_of armed) = subst (λ (m : Machine). AreOnWay m) (sym c.arm.ensures.machine) (c.rebuild-rebuilt.ensures.ways c.with_sessions-world.ensures.on_way) in
    let run : HasRun armed life.events.items replies.items end = subst (λ (l : List Event). HasRun armed l replies.items end) c.as_slice-2.ensures.value c.run_into.ensures.run in
    let answers : RunRoutes s (machine_of armed) life.events.items replies.items (machine_of end) = run.machine.routes s listed_armed ways_armed in
    let read : OnlyRead (g.D.Disk.view disk) (world_view armed) =
    read_same (g.D.Disk.view disk) (world_view built) (world_view armed) (subst (λ st. OnlyRead (g.D.Disk.view disk) (view_of st)) (sym built_is) (opened.of_model model).reads) c.arm.ensures.same in
    let reported : machine_of end ≡ machine_with report.stored due state down = ap (λ (x : Stored). machine_with x due state down) (sym c.into_parts-stored.ensures.stored) in
    let built_of = served s life.capacity life.sessions life.words.items reply (machine_of armed) rebuilt in
    let counted : Counted life report = counted_is s life report (machine_of armed) (machine_of end) reported rebuilt run.machine.asked answers in
    let fits = life_fits s life.capacity life.sessions life.words.items reply (machine_of armed) life.events.items replies.items (machine_of end) rebuilt answers in
    let disk_is : c.into_disk-2.result ≡ disk_of (world_store end) = c.into_disk-2.ensures ∙ ap (λ st. disk_of st) (c.into_store.ensures ∙ ap (λ d. store_of d) c.into_parts-stored.ensures.desk) in
    let crashed : HasCrashed g.D.Disk (disk_of (world_store end)) left =
    subst (λ d. IsTrue (g.D.Disk.view d).keeps_model → HasCrashed g.D.Disk d left) disk_is (λ m. record { image = c.crash-disk.ensures.image m; settled = c.crash-disk.ensures.settled m; ran = c.crash-disk.ensures.ran }) model_end in
    let opened_is : opened_of report ≡ s = by_parts c.count-count.result s.count c.in-Ok-parts_of.graph s.graph c.starts-tickets.result s.tickets c.count-count.ensures.same c.in-Ok-parts_of.ensures.graph c.starts-tickets.ensures in
    lived_is g.D.Disk g.C.Crash.by_word disk left s life report opened_is (record {
      started = armed;
      worlds = run.worlds.each;
      stopped = end;
      sound = record {
        opened = (opened.of_model model).stands;
        read = read;
        served = c.arm.ensures.same.failures ∙ (ap (λ st. (view_of st).failures) built_is ∙ opened.no_failure);
        keeps_model = model_armed;
        safe = record {
          handed = λ stands image was.
              safe_is s life report (machine_of end) fits (machine_of armed) image
              (handed_is g.D.Disk c.acknowledged_law.ensures.later s disk armed end life.events.items replies.items run.worlds model_armed listed_armed lists_is armed_run read (c.history_law.ensures.begins s disk stands) image was);
          since = all_as (λ w safe image was. safe_is s life report (machine_of end) fits (machine_of w) image (safe image was)) (armed ∷ run.worlds.each) (run.safe model_armed s armed_run listed_armed);
          now = λ image is. safe_is s life report (machine_of end) fits (machine_of end) image (run.acknowledged model_armed s [] armed_run listed_armed image is);
        };
        crashed = crashed;
        word = subst (λ d. g.C.Crash.by_word d life.word left) disk_is c.crash-disk.ensures.by_word;
        asked = counted.asked;
        taken = counted.taken;
        done = counted.done;
        serves = serves_opened s life.words.items reply (machine_of armed) built_of;
        routed_well = run.machine.routed_well s listed_armed ways_armed;
      };
      answered = record { rebuilt = rebuilt; serves = built_of; answers = answers; reported = reported; listed = run.machine.lists s listed_armed };
      ran = run.worlds.steps;
    })
