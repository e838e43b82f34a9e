-- A launch or a hop leaves each packet on its way, and its reply says what it should.
use Rattle.std.proofs.Common.{◌≡◌, ◌<◌, inl, inr, cond, ℕ, List, [], ◌∷◌, ◌++◌, true, false, Some, Result, Ok, slice_get, refl, sym, ap, ◌∙◌, subst, append-nil}
use Rattle.std.specs.List.{AllByRecursion}
use Rattle.graph_edits.specs.Edges.{Network, over_port}
use Rattle.layout_2.specs.State.{State}
use Rattle.schemes.specs.declared.parts.Parts.{Parts}
use Rattle.schemes.specs.declared.packet.Packet.{Packet}
use Rattle.schemes.specs.declared.packet.Move.{Move}
use Rattle.schemes.specs.declared.packet.Move.TheVariants as packets
use Rattle.schemes.specs.declared.packet.Refused as scheme
use Rattle.schemes.specs.Tables.{Tables, tables}
use Rattle.schemes.specs.Service.{node_step, one_less, Carries, LeadAlong}
use Rattle.schemes.specs.Ways.{Went, ServedStayOnCourse}
use Rattle.generations.specs.declared.posting.Notice.{Notice}
use Rattle.generations.specs.Boards.{latest_of, scheme_of}
use Rattle.forwarders.specs.declared.refused.Refused.{Refused}
use Rattle.forwarders.specs.Answers.{by, by_name, hop_at}
use Rattle.event_model.specs.declared.event.Event.{Event}
use Rattle.event_model.specs.declared.event.Event.TheVariants.{Launch, Hop}
use Rattle.event_model.specs.declared.reply.Reply.TheVariants.{NoActor}
use Rattle.event_model.specs.Trips.{Trip, sent, launch_in}
use Rattle.event_model.specs.Machines.{Machine}
use Rattle.event_model.specs.Answers.{Answer, answer, sees, looked, launch_as, launch, hop_as, hop_by, hop}
use Rattle.event_laws.specs.Ways.{IsPosted, IsOnWay, seen_by, AreOnWay}
use Rattle.event_laws.specs.Courses.{graph_of, IsRoutedWell}
use Rattle.event_laws.specs.Replies.{shelf_seen, IsNewest, Tells}
use Rattle.event_laws.specs.Later.{AllGoOn}
use Rattle.event_laws.proofs.Every.{all_push, all_set, all_at, get_set, on_option, on_bool}
use Rattle.event_laws.proofs.Shelves.{posted_prefix, taken_prefix, found_posted, latest_found, one_scheme, left_behind}
use Rattle.event_laws.proofs.Sending.{sent_is, Launches, missing, unreachable, launches, launched_in}
use Rattle.event_laws.proofs.Known.{Knows, well, looked_ways}
use Rattle.event_laws.proofs.WayLemmas.{get_push, same_goes, list_same, list_push, list_set}

went_push : (t : Tables) (x : ℕ) (ys : List ℕ) (k : Packet) (at : ℕ) (left : Packet) (q y : ℕ) (next : Packet) → Went t x ys k at left → node_step t at left ≡ Ok (packets.Forward q y next) → Went t x (ys ++ y ∷ []) k y next
went_push t x [] k at left q y next went e = (q, next, ap (λ (z : ℕ). node_step t z k) went.0 ∙ ap (λ (z : Packet). node_step t at z) went.1 ∙ e, (refl, refl))
went_push t x (z ∷ ys) k at left q y next went e = (went.0, went.1, went.2, went_push t z ys went.1 at left q y next went.3 e)

-- a step of a packet on its course is no refusal, and a forward goes over a port that leads and has one hop less
data Steps (m : Network) (at : ℕ) (k : Packet) : Result Move scheme.Refused → Type 0 where
  delivers : Steps m at k (Ok packets.Delivered)
  forwards : (q y : ℕ) → over_port m at q ≡ Some y → Steps m at k (Ok (packets.Forward q y (one_less k)))

steps : (m : Network) (t : Tables) (at : ℕ) (more ports : List ℕ) (k : Packet) → Carries t at more ports k → LeadAlong m at more ports → Steps m at k (node_step t at k)
steps m t at [] [] k c lead = subst (Steps m at k) (sym c) delivers
steps m t at (y ∷ ys) (q ∷ qs) k c lead = subst (Steps m at k) (sym c.0) (forwards q y lead.0)
steps m t at [] (q ∷ qs) k c lead = absurd c
steps m t at (y ∷ ys) [] k c lead = absurd c

-- the answer leaves each packet on its way, its reply says what it should, and each packet goes on
abbrev pub IsGood : State → Event → Machine → Answer → Type 0
IsGood first event m a = AreOnWay a.after × Tells first event m a.reply a.after × AllGoOn m a.after

module _ (law : ServedStayOnCourse) (first : State) (m : Machine) (knows : Knows first m) (was_ways : AreOnWay m) (at : ℕ) where
  -- the postings that the forwarder sees
  abbrev log : List Notice
  log = seen_by (looked m at)

  -- they are a beginning of all
  in_all : (n : ℕ) (p : Parts) → IsPosted log n p → IsPosted m.postings n p
  in_all n p posted = posted_prefix log m.postings n p (taken_prefix (sees m at) m.postings) posted

  ways : AllByRecursion (IsOnWay log) m.ways
  ways = looked_ways m at was_ways

  -- a packet on its way is routed well
  abbrev routed : (w : Trip) → IsOnWay log w → IsRoutedWell first m.asked m.postings w
  routed w way = well law first m knows log (taken_prefix (sees m at) m.postings) w way

  -- ---- a launch, in the newest generation

  abbrev newest_at : (n : ℕ) (p : Parts) → latest_of (shelf_seen m at) ≡ Some n → IsPosted log n p → IsNewest first m at
  newest_at n p is posted = record { number = n; scheme = p; is = is; known = knows.known n p (in_all n p posted) }

  by_newest : (u v n : ℕ) (p : Parts) (is : latest_of (shelf_seen m at) ≡ Some n) → IsPosted log n p → p.generation ≡ n → (o : Result Packet Refused) → Launches (tables p) u v o
      → IsGood first (Launch u v at) m (launch_as (looked m at) u v o)
  by_newest u v n p is posted named o (missing not) =
      let newest = newest_at n p is posted in
      let nodes : p.nodes ≡ (graph_of newest.known).nodes = newest.known.durable.serves.nodes in
      (ways, (newest, λ a b. not (rw nodes a) (rw nodes b)), list_same m.ways)
  by_newest u v n p is posted named o (unreachable a b e) =
      let newest = newest_at n p is posted in
      let nodes : p.nodes ≡ (graph_of newest.known).nodes = newest.known.durable.serves.nodes in
      let c = subst (λ (k : ℕ). u < k) nodes a in
      let d = subst (λ (k : ℕ). v < k) nodes b in
      (ways, (newest, (c, (d, λ xs walk. let arrives = newest.known.durable.serves.connected u v xs c d walk in absurd (cc (arrives.decided, e))))), list_same m.ways)
  by_newest u v n p is posted named o (launches k e) =
      let number : k.generation ≡ n = (sent_is (tables p) u v k e).generation ∙ named in
      let way : IsOnWay log (sent u v k) = record { scheme = p; posted = subst (λ (g : ℕ). IsPosted log g p) (sym number) posted; sent = k; decided = e; rest = []; starts = refl; went = (refl, refl); delivered = λ gone. cc } in (
        all_push (IsOnWay log) m.ways (sent u v k) ways way,
        record { packet = k; newest = is ∙ ap (λ (g : ℕ). Some g) (sym number); filed = get_push m.ways (sent u v k); routed_well = routed (sent u v k) way },
        list_push m.ways (sent u v k),
      )

  pub launch_good : (u v : ℕ) → IsGood first (Launch u v at) m (launch m u v at)
  launch_good u v = on_option (λ o. IsGood first (Launch u v at) m (launch_as (looked m at) u v (launch_in (shelf_seen m at) u v o))) (latest_of (shelf_seen m at))
      (λ none. (ways, none, list_same m.ways))
      (λ n is.
      let found = latest_found (shelf_seen m at) n is in
      let posted = found_posted m.starts m.start log n found.0 found.1 in
      let named : found.0.generation ≡ n = (knows.known n found.0 (in_all n found.0 posted)).durable.named in
      by_newest u v n found.0 is posted named (launch_in (shelf_seen m at) u v (Some n)) (launched_in (shelf_seen m at) u v n found.0 found.1 named))

  -- ---- a hop, by the step of the packet's own scheme

  module _ (i : ℕ) (w : Trip) (was : slice_get m.ways i ≡ Some w) (there : w.there ≡ true) where
    way : IsOnWay log w
    way = all_at (IsOnWay log) m.ways i w ways was

    stepped : (o : Result Move scheme.Refused) → node_step (tables way.scheme) w.at w.packet ≡ o → Steps (graph_of (routed w way).known) w.at w.packet o
        → IsGood first (Hop i at) m (hop_as (looked m at) i w (by_name o))
    stepped o e delivers =
        let gone : Trip = record w { there = false } in
        let is_gone : IsOnWay log gone = record { scheme = way.scheme; posted = way.posted; sent = way.sent; decided = way.decided; rest = way.rest; starts = way.starts; went = way.went; delivered = λ _. e } in (
          all_set (IsOnWay log) m.ways i gone ways is_gone,
          record { way = w; was = was; there = there; is = get_set m.ways i w gone was; routed_well = routed w way; at_end = ((routed gone is_gone).course.gone refl).1 },
          list_set m.ways i w gone was (record { from = refl; to = refl; generation = refl; visited = ([], append-nil w.visited); gone = λ no. cc }),
        )
    stepped o e (forwards q y lead) =
        let on : Trip = record w { visited = w.visited ++ y ∷ []; at = y; packet = one_less w.packet } in
        let is_on : IsOnWay log on = record { scheme = way.scheme; posted = way.posted; sent = way.sent; decided = way.decided; rest = way.rest ++ y ∷ []; starts = ap (λ (l : List ℕ). l ++ y ∷ []) way.starts; went = went_push (tables way.scheme) w.from way.rest way.sent w.at w.packet q y (one_less w.packet) way.went e; delivered = λ gone. cc } in (
          all_set (IsOnWay log) m.ways i on ways is_on,
          record { way = w; was = was; there = there; is = get_set m.ways i w on was; routed_well = routed w way; leads = lead },
          list_set m.ways i w on was (record { from = refl; to = refl; generation = refl; visited = (y ∷ [], refl); gone = λ no. cc }),
        )

    by_scheme : IsGood first (Hop i at) m (hop_as (looked m at) i w (hop_at w.at w.packet (shelf_seen m at)))
    by_scheme = on_option (λ o. IsGood first (Hop i at) m (hop_as (looked m at) i w (by (λ (t : Tables). node_step t w.at w.packet) o))) (scheme_of w.packet.generation (shelf_seen m at))
        (λ none. (
          all_set (IsOnWay log) m.ways i w ways way,
          record { way = w; was = was; there = there; only = refl; left = none; behind = left_behind m.starts m.start log w.packet.generation way.scheme way.posted none },
          list_set m.ways i w w was (same_goes w),
        ))
        (λ p found.
        let is = routed w way in
        let seen = in_all w.packet.generation p (found_posted m.starts m.start log w.packet.generation p found) in
        let same : way.scheme ≡ p = one_scheme m.postings w.packet.generation way.scheme p knows.rises is.known.posted seen in
        subst (λ (s : Parts). IsGood first (Hop i at) m (hop_as (looked m at) i w (by_name (node_step (tables s) w.at w.packet)))) same
        (stepped (node_step (tables way.scheme) w.at w.packet) refl
        (steps (graph_of is.known) (tables way.scheme) w.at is.course.course.more is.course.course.ports w.packet is.course.course.carried is.course.course.lead)))

  pub hop_good : (i : ℕ) → IsGood first (Hop i at) m (hop m i at)
  hop_good i = on_option (λ o. IsGood first (Hop i at) m (hop_by m i at o)) (slice_get m.ways i) (λ none. (was_ways, inl none, list_same m.ways))
      (λ w was. on_bool (λ b. IsGood first (Hop i at) m (cond b (hop_as (looked m at) i w (hop_at w.at w.packet (shelf_seen m at))) (answer NoActor m))) w.there
      (λ there. by_scheme i w was there)
      (λ gone. (was_ways, inr (w, (was, gone)), list_same m.ways)))
