-- What becomes of a packet over a run: one that is gone isn't moved any more, and one that is hopped often enough is delivered.
use Rattle.std.proofs.Common.{arith, ◌≡◌, ◌⊎◌, inl, inr, ◌<◌, ◌+◌, ℕ, cond, List, [], ◌∷◌, ◌++◌, length, Bool, true, Some, Result, Ok, slice_get, refl, sym, subst, ⊎_elim, eq-eqb, ne_eqb, false}
use Rattle.std.proofs.lemmas.Bool.{cases_eq}
use Rattle.layout_2.specs.State.{State}
use Rattle.schemes.specs.declared.parts.Parts.{Parts}
use Rattle.schemes.specs.declared.packet.Move.{Move}
use Rattle.schemes.specs.declared.packet.Move.TheVariants as packets
use Rattle.schemes.specs.declared.packet.Refused as scheme
use Rattle.schemes.specs.Tables.{Tables, tables}
use Rattle.schemes.specs.Service.{node_step, one_less, Carries}
use Rattle.generations.specs.Boards.{scheme_of}
use Rattle.forwarders.specs.Answers.{by, by_name}
use Rattle.event_model.specs.declared.event.Event.{Event}
use Rattle.event_model.specs.declared.event.Event.TheVariants.{Hop}
use Rattle.event_model.specs.declared.reply.Reply.{Reply}
use Rattle.event_model.specs.declared.reply.Reply.TheVariants.{Delivered}
use Rattle.event_model.specs.Trips.{Trip}
use Rattle.event_model.specs.Machines.{Machine}
use Rattle.event_model.specs.Answers.{Answer, sees, looked, hop_as, hop, Answers}
use Rattle.event_model.specs.Runs.{Run}
use Rattle.event_laws.specs.Listed.{IsListed}
use Rattle.event_laws.specs.Ways.{IsPosted}
use Rattle.event_laws.specs.Replies.{shelf_seen}
use Rattle.event_laws.specs.Arriving.{hops_of, Keeps, IsNeverKept, HasArrived, HoppedArrive}
use Rattle.event_laws.specs.Later.{IsGone, HopsNowhere}
use Rattle.event_laws.specs.WayLaws.{GoneStayGone}
use Rattle.event_laws.proofs.Every.{get_set, on_option}
use Rattle.event_laws.proofs.CameTo.{or_memory}
use Rattle.event_laws.proofs.Known.{Laws, knows_of}
use Rattle.event_laws.proofs.Shelves.{posted_prefix, taken_prefix, found_posted, one_scheme}
use Rattle.event_laws.proofs.Others.{Leaves, leaves, hop_is}

-- an event leaves it gone
abbrev StaysGone : ℕ → Trip → Event → Reply → Machine → Type 0
StaysGone i way event reply n = IsGone i way n × HopsNowhere i event reply

gone_hop : (i : ℕ) (way : Trip) (j at : ℕ) (m : Machine) (reply : Reply) (n : Machine) → j ≡ i → Answers (Hop j at) m reply n → IsGone i way m → StaysGone i way (Hop j at) reply n
gone_hop i way j at m reply n same h gone = or_memory (StaysGone i way (Hop j at)) (hop m j at) m reply n h (gone, λ _. inr refl)
    (subst (λ (k : ℕ). StaysGone i way (Hop k at) (hop m k at).reply (hop m k at).after) (sym same)
    (subst (λ (a : Answer). StaysGone i way (Hop i at) a.reply a.after) (sym (hop_is m i at way false gone.0 gone.1)) (gone, λ _. inl refl)))

stays_gone : (i : ℕ) (way : Trip) (event : Event) (m : Machine) (reply : Reply) (n : Machine) → Answers event m reply n → IsGone i way m → StaysGone i way event reply n
stays_gone i way (Hop j at) m r n h gone = elim (cases_eq j i) [
  | inl same ↦ gone_hop i way j at m r n same h gone
  | inr other ↦ (((leaves i way (Hop j at) m r n other h gone.0).0, gone.1), λ same. absurd (other same))
]
stays_gone i way event m r n h gone = (((leaves i way event m r n tt h gone.0).0, gone.1), tt)

pub gone_stay_gone : GoneStayGone
gone_stay_gone i way m [] [] n gone run = (subst (IsGone i way) (sym run) gone, tt)
gone_stay_gone i way m (e ∷ es) (r ∷ rs) n gone run =
    let one = stays_gone i way e m r run.0 run.1.0 gone in
    let rest = gone_stay_gone i way run.0 es rs n one.0 run.1.1 in
    (rest.0, (one.1, rest.1))
gone_stay_gone i way m es rs n gone run = absurd run

-- the packet of this number is there, its scheme was posted, and by that it has so many edges to go
record HasToGo (i : ℕ) (m : Machine) (many : ℕ) : Type 0 where
  way : Trip
  is : slice_get m.ways i ≡ Some way
  there : way.there ≡ true
  scheme : Parts
  posted : IsPosted m.postings way.packet.generation scheme
  more : List ℕ
  ports : List ℕ
  carried : Carries (tables scheme) way.at more ports way.packet
  long : length more ≡ many

-- where it is left
still : (i many : ℕ) (m n : Machine) → (h : HasToGo i m many) → Leaves i h.way m n → HasToGo i n many
still i many m n h left = record { way = h.way; is = left.0; there = h.there; scheme = h.scheme; posted = posted_prefix m.postings n.postings h.way.packet.generation h.scheme left.1 h.posted; more = h.more; ports = h.ports; carried = h.carried; long = h.long }

-- a hop of this packet: it is delivered, or has one edge less to go, or is kept
abbrev Moves : ℕ → ℕ → Reply → Machine → Type 0
Moves i many r n = (r ≡ Delivered) ⊎ (((less : ℕ) × ((many ≡ less + 1) × HasToGo i n less)) ⊎ Keeps r)

module _ (laws : Laws) (first : State) (m : Machine) (is : IsListed first m) (i at many : ℕ) (h : HasToGo i m many) where
  -- so it is by this answer of its scheme
  abbrev MovesBy : Result Move scheme.Refused → Type 0
  MovesBy o = Moves i many (hop_as (looked m at) i h.way (by_name o)).reply (hop_as (looked m at) i h.way (by_name o)).after

  by_step : (more ports : List ℕ) → Carries (tables h.scheme) h.way.at more ports h.way.packet → length more ≡ many → MovesBy (node_step (tables h.scheme) h.way.at h.way.packet)
  by_step [] [] c long = subst MovesBy (sym c) (inl refl)
  by_step (y ∷ ys) (q ∷ qs) c long =
      let next : Trip = record h.way { visited = h.way.visited ++ y ∷ []; at = y; packet = one_less h.way.packet } in
      let on : HasToGo i (hop_as (looked m at) i h.way (Ok (packets.Forward q y (one_less h.way.packet)))).after (length ys) = record { way = next; is = get_set m.ways i h.way next h.is; there = h.there; scheme = h.scheme; posted = h.posted; more = ys; ports = qs; carried = c.1; long = refl } in
      subst MovesBy (sym c.0) (inr (inl (length ys, ((let e = long in omega arith), on))))
  by_step [] (q ∷ qs) c long = absurd c
  by_step (y ∷ ys) [] c long = absurd c

  own_hop : Moves i many (hop m i at).reply (hop m i at).after
  own_hop = subst (λ (a : Answer). Moves i many a.reply a.after) (sym (hop_is m i at h.way true h.is h.there))
      (on_option (λ o. let a : Answer = hop_as (looked m at) i h.way (by (λ (t : Tables). node_step t h.way.at h.way.packet) o) in Moves i many a.reply a.after) (scheme_of h.way.packet.generation (shelf_seen m at))
      (λ _. inr (inr tt))
      (λ p found.
      let g = h.way.packet.generation in
      let seen = posted_prefix _ m.postings g p (taken_prefix (sees m at) m.postings) (found_posted m.starts m.start _ g p found) in
      let same : h.scheme ≡ p = one_scheme m.postings g h.scheme p (knows_of laws first m is).rises h.posted seen in
      subst (λ (s : Parts). MovesBy (node_step (tables s) h.way.at h.way.packet)) same (by_step h.more h.ports h.carried h.long)))

arrive : Laws → (first : State) (i many : ℕ) (m : Machine) (es : List Event) (rs : List Reply) (n : Machine) → IsListed first m → Run m es rs n → HasToGo i m many → many < hops_of i es → IsNeverKept i es rs → HasArrived i es rs
arrive laws first i many m [] rs n is run h few never = absurd (let f : many < 0 = few in omega arith)
arrive laws first i many m (e ∷ es) [] n is run h few never = absurd run
arrive laws first i many m (Hop j at ∷ es) (r ∷ rs) n is run h few never =
    let listed = laws.lists first (Hop j at) m r run.0 is run.1.0 in
    elim (cases_eq j i) [
      | inl same ↦
          (let moved : Moves i many r run.0 = or_memory (Moves i many) (hop m j at) m r run.0 run.1.0 (inr (inr tt))
          (subst (λ (k : ℕ). Moves i many (hop m k at).reply (hop m k at).after) (sym same) (own_hop laws first m is i at many h)) in
          let f : many < 1 + hops_of i es = subst (λ (b : Bool). many < cond b 1 0 + hops_of i es) (eq-eqb j i same) few in
          ⊎_elim (λ d. inl (same, d)) (λ x. ⊎_elim (λ g. inr (arrive laws first i g.0 run.0 es rs n listed run.1.1 g.1.1 (let e : many ≡ g.0 + 1 = g.1.0 in omega arith) never.1)) (λ k. absurd (never.0 same k)) x) moved)
      | inr other ↦
          (let f : many < 0 + hops_of i es = subst (λ (b : Bool). many < cond b 1 0 + hops_of i es) (ne_eqb j i other) few in
          inr (arrive laws first i many run.0 es rs n listed run.1.1 (still i many m run.0 h (leaves i h.way (Hop j at) m r run.0 other run.1.0 h.is)) (omega arith) never.1))
    ]
arrive laws first i many m (e ∷ es) (r ∷ rs) n is run h few never =
    let f : many < 0 + hops_of i es = few in
    arrive laws first i many run.0 es rs n (laws.lists first e m r run.0 is run.1.0) run.1.1 (still i many m run.0 h (leaves i h.way e m r run.0 tt run.1.0 h.is)) (omega arith) never

pub hopped_arrive : Laws → HoppedArrive
hopped_arrive laws first m es rs n is run i way at there well few never =
    let course = well.course.course in
    let h : HasToGo i m (length course.more) = record { way = way; is = at; there = there; scheme = well.scheme; posted = well.known.posted; more = course.more; ports = course.ports; carried = course.carried; long = refl } in
    arrive laws first i (length course.more) m es rs n is run h few never
