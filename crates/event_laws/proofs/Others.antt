-- The other events leave the ways, and at most add postings; and so a packet stays where no hop moves it.
use Rattle.std.proofs.Common.{◌≡◌, cond, ℕ, List, [], ◌∷◌, ◌++◌, Bool, true, false, Some, None, option_to_list, Ok, Err, slice_get, refl, sym, ap, ◌∙◌, subst, append_assoc, arith}
use mathlib.Core.List.{IsPrefix}
use Rattle.std.specs.List.{AllByRecursion}
use Rattle.requests.specs.declared.request.Request.{Request}
use Rattle.generations.specs.declared.posting.Notice.TheVariants.{Built}
use Rattle.generations.proofs.Prefixes.{prefix_self}
use Rattle.forwarders.specs.Answers.{hop_at}
use Rattle.event_model.specs.declared.event.Event.{Event}
use Rattle.event_model.specs.declared.event.Event.TheVariants.{Launch, Hop}
use Rattle.event_model.specs.declared.reply.Reply.{Reply}
use Rattle.event_model.specs.declared.reply.Reply.TheVariants.{NoActor}
use Rattle.event_model.specs.Trips.{Trip, sent, launch_by, hop_way}
use Rattle.event_model.specs.Machines.{Machine}
use Rattle.event_model.specs.Answers.{answer, looked, launch_as, launch, hop_as, hop_by, hop, Answers}
use Rattle.event_laws.specs.Ways.{IsOnWay, seen_by, AreOnWay}
use Rattle.event_laws.specs.Replies.{shelf_seen}
use Rattle.event_laws.specs.Later.{AllGoOn}
use Rattle.event_laws.specs.Queues.{let_in_by}
use Rattle.event_laws.proofs.Every.{all_as, get_other}
use Rattle.event_laws.proofs.CameTo.{CameTo, stays, asks, looks, takes, commits, loses, wears, posts, builds, or_memory, came_to}
use Rattle.event_laws.proofs.Shelves.{seen_more}
use Rattle.event_laws.proofs.WayLemmas.{way_prefix, get_more, ListGoesOn, list_same}

-- the forwarder has seen as much, the ways are the same, and postings were at most added
abbrev pub Adds : Machine → Machine → Type 0
Adds m n = IsPrefix m.postings n.postings × (n.seen ≡ m.seen) × (n.ways ≡ m.ways)

pub adds : (m n : Machine) (more : List Request) (reply : Reply) → CameTo m false more reply n → Adds m n
adds m n more reply (stays b q quiet) = (prefix_self m.postings, refl, refl)
adds m n more reply (asks x r at none) = (prefix_self m.postings, refl, refl)
adds m n more reply (looks s x seen outcome at) = (prefix_self m.postings, refl, refl)
adds m n more reply (takes r at none) = (prefix_self m.postings, refl, refl)
adds m n more reply (commits some up) = (prefix_self m.postings, refl, refl)
adds m n more reply (loses some up) = (prefix_self m.postings, refl, refl)
adds m n more reply wears = (prefix_self m.postings, refl, refl)
adds m n more reply (posts q quiet) = ((option_to_list m.due, refl), refl, refl)
adds m n more reply (builds scheme up newest given serves) =
    let p = Built m.state.count scheme in
    ((option_to_list m.due ++ p ∷ [], sym (append_assoc m.postings (option_to_list m.due) (p ∷ []))), refl, refl)

-- what was on its way stays so
pub adds_ways : (m n : Machine) → Adds m n → AreOnWay m → AreOnWay n
adds_ways m n a h =
    let longer = seen_more m.seen n.seen m.postings n.postings (let e = a.1 in omega (arith, e)) a.0 in
    subst (AllByRecursion (IsOnWay (seen_by n))) (sym a.2) (all_as (way_prefix (seen_by m) (seen_by n) longer) m.ways h)

-- and each packet goes on
pub adds_go_on : (m n : Machine) → Adds m n → AllGoOn m n
adds_go_on m n a = subst (ListGoesOn m.ways) (sym a.2) (list_same m.ways)

-- ---- the packet of a number, where no hop is its own

-- the packet stands there still, and postings were at most added
abbrev pub Leaves : ℕ → Trip → Machine → Machine → Type 0
Leaves i w m n = (slice_get n.ways i ≡ Some w) × IsPrefix m.postings n.postings

-- the event is no hop of this packet
abbrev pub IsElse : ℕ → Event → Type 0
IsElse i (Hop j at) = j ≡ i → ⊥
IsElse i event = Unit {0}

pub leaves : (i : ℕ) (w : Trip) (event : Event) (m : Machine) (reply : Reply) (n : Machine) → IsElse i event → Answers event m reply n → slice_get m.ways i ≡ Some w → Leaves i w m n
leaves i w (Launch u v at) m reply n other h is = or_memory (λ q k. Leaves i w m k) (launch m u v at) m reply n h (is, prefix_self m.postings)
    (elim (launch_by (shelf_seen m at) u v) as (λ o. Leaves i w m (launch_as (looked m at) u v o).after) [
      | Ok k ↦ (get_more m.ways (sent u v k ∷ []) i w is, prefix_self m.postings)
      | Err e ↦ (is, prefix_self m.postings)
    ])
leaves i w (Hop j at) m reply n other h is = or_memory (λ q k. Leaves i w m k) (hop m j at) m reply n h (is, prefix_self m.postings)
    (elim (slice_get m.ways j) as (λ o. Leaves i w m (hop_by m j at o).after) [
      | None ↦ (is, prefix_self m.postings)
      | Some v ↦
          (let o = hop_at v.at v.packet (shelf_seen m at) in
          elim v.there as (λ b. Leaves i w m (cond b (hop_as (looked m at) j v o) (answer NoActor m)).after) [
            | true ↦ (get_other m.ways i j (hop_way v o) (λ e. other (sym e)) ∙ is, prefix_self m.postings)
            | false ↦ (is, prefix_self m.postings)
          ])
    ])
leaves i w event m reply n other h is = (let a = adds m n (let_in_by event reply) reply (came_to event m reply n h) in (ap (λ (ws : List Trip). slice_get ws i) a.2 ∙ is, a.0))

-- a hop of the packet that is there, or isn't any more
pub hop_is : (m : Machine) (i at : ℕ) (w : Trip) (b : Bool) → slice_get m.ways i ≡ Some w → w.there ≡ b → hop m i at ≡ cond b (hop_as (looked m at) i w (hop_at w.at w.packet (shelf_seen m at))) (answer NoActor m)
hop_is m i at w b is there = ap (hop_by m i at) is ∙ ap (λ (c : Bool). cond c (hop_as (looked m at) i w (hop_at w.at w.packet (shelf_seen m at))) (answer NoActor m)) there
