-- What is known of the generations that were posted, and that a packet on its way is routed well.
use Rattle.std.proofs.Common.{◌≡◌, ◌<◌, ℕ, List, [], ◌∷◌, ◌++◌, Result, Ok, refl, sym, ap, ◌∙◌, subst, append-nil, arith}
use mathlib.Core.List.{IsPrefix}
use Rattle.std.specs.List.Sorted.{IsStrictlyIncreasing}
use Rattle.graph_edits.specs.Edges.{EdgeMap, Network}
use Rattle.graph_edits.specs.Walks.{IsWalk}
use Rattle.layout_2.specs.State.{State}
use Rattle.schemes.specs.declared.parts.Parts.{Parts}
use Rattle.schemes.specs.declared.packet.Packet.{Packet}
use Rattle.schemes.specs.declared.packet.Move.{Move}
use Rattle.schemes.specs.declared.packet.Move.TheVariants.{Delivered, Forward}
use Rattle.schemes.specs.declared.packet.Refused.{Refused}
use Rattle.schemes.specs.Tables.{Tables, tables}
use Rattle.schemes.specs.Service.{node_step, one_less, Carries, Serves}
use Rattle.schemes.specs.Ways.{Went, ServedStayOnCourse}
use Rattle.generations.specs.declared.posting.Notice.{Notice}
use Rattle.generations.specs.Notices.{numbers_in}
use Rattle.generations.proofs.Prefixes.{prefix_self}
use Rattle.event_model.specs.Trips.{Trip}
use Rattle.event_model.specs.Machines.{Machine}
use Rattle.event_model.specs.Answers.{sees, looked}
use Rattle.event_laws.specs.Listed.{IsListed}
use Rattle.event_laws.specs.QueueLaws.{AnswersKeep, PostingsAreLawful, PostingsAreDurable}
use Rattle.event_laws.specs.Ways.{IsPosted, IsOnWay, seen_by, AreOnWay}
use Rattle.event_laws.specs.Courses.{IsOnCourse, IsKnown, graph_of, IsRoutedWell, AreRoutedWell}
use Rattle.event_laws.proofs.Every.{all_as}
use Rattle.event_laws.proofs.Shelves.{posted_prefix, taken_prefix, seen_more}
use Rattle.event_laws.proofs.Sending.{sent_is}
use Rattle.event_laws.proofs.WayLemmas.{way_prefix}

-- the laws of lower crates that are used
pub record Laws : Type 0 where
  pub course : ServedStayOnCourse
  pub lists : AnswersKeep
  pub lawful : PostingsAreLawful
  pub durable : PostingsAreDurable

-- each generation that was posted is durable, and their numbers rise
pub record Knows (first : State) (m : Machine) : Type 0 where
  pub known : (n : ℕ) (p : Parts) → IsPosted m.postings n p → IsKnown first m.asked m.postings n p
  pub rises : IsStrictlyIncreasing (numbers_in m.postings)

pub knows_of : Laws → (first : State) (m : Machine) → IsListed first m → Knows first m
knows_of laws first m is = record {
  known = λ n p posted. record { posted = posted; durable = laws.durable first m is posted.before posted.after n p posted.there };
  rises = (laws.lawful first m is).numbers;
}

-- ---- a packet on its way is on its course

none_more : (t : Tables) (at : ℕ) (more ports : List ℕ) (left : Packet) → Carries t at more ports left → node_step t at left ≡ Ok Delivered → more ≡ []
none_more t at [] ports left carries done = refl
none_more t at (z ∷ more) [] left carries done = absurd carries
none_more t at (z ∷ more) (q ∷ qs) left carries done = (let e : ◌≡◌ {A = Result Move Refused} (Ok (Forward q z (one_less left))) (Ok Delivered) = sym carries.0 ∙ done in cc)

-- where a packet stands that went over a walk
went_end : (edges : EdgeMap) (t : Tables) (x : ℕ) (ys : List ℕ) (k : Packet) (at : ℕ) (left : Packet) (v : ℕ) → Went t x ys k at left → IsWalk edges x ys v → at ≡ v
went_end edges t x [] k at left v went walk = sym went.0 ∙ walk
went_end edges t x (y ∷ ys) k at left v went walk = went_end edges t y ys went.1 at left v went.3 walk.1

pub on_course : ServedStayOnCourse → (m : Network) (log : List Notice) (w : Trip) (is : IsOnWay log w) → Serves m (tables is.scheme) → IsOnCourse m (tables is.scheme) w
on_course law m log w is serves =
    let t = tables is.scheme in
    let sent = sent_is t w.from w.to is.sent is.decided in
    let course = law m t serves w.from w.to is.sent is.rest w.at w.packet
    (subst (λ (n : ℕ). w.from < n) serves.nodes sent.from) (subst (λ (n : ℕ). w.to < n) serves.nodes sent.to) is.decided is.went in
    record {
      rest = is.rest;
      starts = is.starts;
      course = course;
      gone = λ gone.
          let none : course.more ≡ [] = none_more t w.at course.more course.ports w.packet course.carried (is.delivered gone) in
          let whole : course.arrives.trip ≡ is.rest = course.beginning ∙ ap (λ (l : List ℕ). is.rest ++ l) none ∙ append-nil is.rest in
          (none, went_end m.edges t w.from is.rest is.sent w.at w.packet w.to is.went (subst (λ (l : List ℕ). IsWalk m.edges w.from l w.to) whole course.arrives.good.walk));
    }

-- a packet on its way is routed well
abbrev pub well : ServedStayOnCourse → (first : State) (m : Machine) → Knows first m → (log : List Notice) → IsPrefix log m.postings → (w : Trip) → IsOnWay log w → IsRoutedWell first m.asked m.postings w
well law first m knows log prefix w way =
    let known = knows.known w.packet.generation way.scheme (posted_prefix log m.postings w.packet.generation way.scheme prefix way.posted) in
    record { scheme = way.scheme; known = known; course = on_course law (graph_of known) log w way known.durable.serves }

pub routed_well : ServedStayOnCourse → (first : State) (m : Machine) → Knows first m → AreOnWay m → AreRoutedWell first m
routed_well law first m knows ways = all_as (λ w way. well law first m knows (seen_by m) (taken_prefix m.seen m.postings) w way) m.ways ways

-- and stays on its way where the forwarder looks further
pub looked_ways : (m : Machine) (at : ℕ) → AreOnWay m → AreOnWay (looked m at)
looked_ways m at ways =
    all_as (way_prefix (seen_by m) (seen_by (looked m at)) (seen_more m.seen (sees m at) m.postings m.postings (omega arith) (prefix_self m.postings))) m.ways ways
