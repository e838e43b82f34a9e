use Rattle.std.proofs.Common.{◌≡◌, ◌⊎◌, ⊎_elim, ◌++◌, ◌∷◌, [], List, length, take, subst, sym, ap, ◌∙◌, refl, true, false, IsTrue}
use Rattle.std.specs.Prelude.{Err}
use Rattle.std.proofs.lemmas.Bool.{false_from_ne_true}
use Rattle.std.proofs.lemmas.List.{length-take-le}
use Rattle.disk_trait.specs.Disk.{LeavesOnly}
use Rattle.requests.specs.declared.request.Request.{Request}
use Rattle.requests.specs.Tickets.{tickets_after}
use Rattle.layout_2.specs.State.{State, asked}
use Rattle.layout_2.specs.Standing.{StandsFor}
use Rattle.checkpoint.specs.StoreWords.{state_of, view_of, is_down, stands_now}
use Rattle.group_commit.specs.declared.refused.DeskRefused.TheVariants.{Device}
use Rattle.group_commit.specs.Settling.{settle}
use Rattle.group_commit.specs.Turns.{AreBehind}
use Rattle.group_commit.specs.DeskWords.{store_of, held_of}
use Rattle.event_laws.specs.History.{settled}
use Rattle.event_laws.specs.Happenings.{state_held, IsEither, won, lost}
use Rattle.interleave.specs.WorldWords.{lists_of, world_view}
use Rattle.interleave.proofs.Parts.{lists_are, none_left}
use Rattle.interleave.proofs.Tickets.{won_behind}
use Rattle.interleave.proofs.world.World.commit.Goals as goal

pub invariant_of-self-in-Ok-clause-split : goal.invariant_of-self-in-Ok-clause-split
invariant_of-self-in-Ok-clause-split g c = c.in-Ok.ensures.ok.none_held ∙ sym (none_left c.args.self.now.stored.taken c.args.self.now.stored.asked.items)

pub invariant_of-self-in-Ok-clause-behind : goal.invariant_of-self-in-Ok-clause-behind
invariant_of-self-in-Ok-clause-behind g c =
    let world = c.args.self.now in
    let l : List Request = world.stored.asked.items in
    let held : List Request = held_of world.desk in
    let after = won_behind c.settling_law.ensures.tickets_stay_behind (state_of (store_of world.desk)) world.stored.starts l held world.stored.done world.stored.taken world.in_turn world.behind world.split world.started in
    subst (λ (s : State). AreBehind s.tickets (tickets_after world.stored.starts (asked (take world.stored.taken l)))) (sym c.in-Ok.ensures.ok.state) after

pub returns-in-Ok-clause-happens : goal.returns-in-Ok-clause-happens
returns-in-Ok-clause-happens g c model =
    let world = c.args.self.now in
    let desk = world.desk in
    let new = store_of c.commit.new.self in
    let v = world_view world in
    let a = lists_of world in
    let w = view_of new in
    let long : world.stored.taken ≡ length a.taken = sym (length-take-le world.stored.taken world.stored.asked.items world.within) in
    let up : is_down (store_of desk) ≡ false = false_from_ne_true (is_down (store_of desk)) (λ e. let d = c.commit.ensures.refused.down.1 e in let is = c.in-Ok.is in cc) in
    let leaves : LeavesOnly v w (IsEither a) = subst (λ (l : List Request). LeavesOnly v w (λ image. StandsFor a.state image ⊎ StandsFor (settled a.state l) image)) world.split (c.commit.ensures.any_moment model up) in
    let state : state_of new ≡ state_held a = c.in-Ok.ensures.ok.state ∙ ap (λ l. settled a.state l) world.split in
    let down : is_down new ≡ false = c.commit.ensures.refused.stays_up up (λ h. let is = c.in-Ok.is in cc) in
    let new_model : IsTrue w.keeps_model = subst IsTrue (sym c.commit.ensures.ran.model) model in
    let groups : c.add.new.list.items ≡ a.groups ++ (a.done, length a.taken) ∷ [] = c.add.ensures.items ∙ ap (λ l. l ++ (world.stored.done, world.stored.taken) ∷ []) c.reserve.ensures.items ∙ ap (λ k. a.groups ++ (a.done, k) ∷ []) long in
    won (record {
      up = up;
      leaves = leaves;
      lists = lists_are a.taken world.stored.taken (length a.taken) c.add.new.list.items (a.groups ++ (a.done, length a.taken) ∷ []) (state_of new) (state_held a) (is_down new) false long groups state down;
      stands = λ image left. subst (λ (t : State). StandsFor t image) state (stands_now new new_model down image left);
      number_is = c.in-Ok.ensures.ok.number ∙ ap (λ l. length (settle a.state l).accepted) world.split;
    })

pub returns-in-Err-Device-clause-happens : goal.returns-in-Err-Device-clause-happens
returns-in-Err-Device-clause-happens g c model =
    let world = c.args.self.now in
    let desk = world.desk in
    let new = store_of c.commit.new.self in
    let v = world_view world in
    let a = lists_of world in
    let w = view_of new in
    let is : c.commit.result ≡ Err Device = c.in-Err-Device.is ∙ ap Err c.in-Err-Device.field-0-is in
    let long : world.stored.taken ≡ length a.taken = sym (length-take-le world.stored.taken world.stored.asked.items world.within) in
    let up : is_down (store_of desk) ≡ false = false_from_ne_true (is_down (store_of desk)) (λ e. let d = c.commit.ensures.refused.down.1 e in cc) in
    let leaves : LeavesOnly v w (IsEither a) = subst (λ (l : List Request). LeavesOnly v w (λ image. StandsFor a.state image ⊎ StandsFor (settled a.state l) image)) world.split (c.commit.ensures.any_moment model up) in
    let groups : c.add-in-Err-Device.new.list.items ≡ a.groups ++ (a.done, length a.taken) ∷ [] =
    c.add-in-Err-Device.ensures.items ∙ ap (λ l. l ++ (world.stored.done, world.stored.taken) ∷ []) c.reserve.ensures.items ∙ ap (λ k. a.groups ++ (a.done, k) ∷ []) long in
    lost (record {
      up = up;
      leaves = leaves;
      lists = lists_are a.taken a.done a.done c.add-in-Err-Device.new.list.items (a.groups ++ (a.done, length a.taken) ∷ []) (state_of new) a.state (is_down new) true refl groups c.in-Err-Device.ensures.refused.state (c.commit.ensures.refused.lost is);
      none = refl;
    })

pub returns-in-Ok-clause-commits : goal.returns-in-Ok-clause-commits
returns-in-Ok-clause-commits g c =
    let store = store_of c.args.self.now.desk in
    let up : is_down store ≡ false = false_from_ne_true (is_down store) (λ e. let d = c.commit.ensures.refused.down.1 e in let is = c.in-Ok.is in cc) in
    record {
      served = c.in-Ok.ensures.ok.no_failure;
      durable = c.in-Ok.ensures.ok.durable;
      within = λ past. ⊎_elim (λ worn. let is = c.in-Ok.is in cc) (λ memory. let is = c.in-Ok.is in cc) (c.commit.ensures.refused.past_limits up past);
      none = c.commit.ensures.idle;
      appended = c.in-Ok.ensures.ok.appended;
      rolled = c.in-Ok.ensures.ok.rolled;
    }
