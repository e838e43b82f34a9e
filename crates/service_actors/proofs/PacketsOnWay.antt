-- A packet's way, one look at the board after another.
use Rattle.std.proofs.Common.{◌≡◌, ◌⊎◌, inl, inr, ◌<◌, ◌+◌, ◌-◌, ◌^◌, ℕ, Bool, true, false, cond, nat_lt, ◌&&◌, List, [], ◌∷◌, ◌++◌, length, min, refl, sym, ap, ◌∙◌, subst, arith}
use Rattle.std.specs.Prelude.{Option, Some, None, Result, Ok, Err, IfOk, is_some}
use Rattle.std.proofs.lemmas.Bool.Decides.{nat_tests}
use Rattle.schemes.specs.declared.parts.Parts.{Parts}
use Rattle.heavy_labels.specs.Label.{Label}
use Rattle.schemes.specs.declared.packet.Address.{Address}
use Rattle.schemes.specs.declared.packet.Home.{Home}
use Rattle.schemes.specs.declared.packet.Packet.{Packet}
use Rattle.schemes.specs.declared.packet.Move.{Move}
use Rattle.schemes.specs.declared.packet.Move.TheVariants.{Delivered, Forward}
use Rattle.schemes.specs.declared.packet.Refused as scheme
use Rattle.schemes.specs.declared.packet.Refused.TheVariants as by_scheme
use Rattle.schemes.specs.Tables.{Tables, tables}
use Rattle.schemes.specs.Trails as trail
use Rattle.schemes.specs.Service.{address, address_given, by_directory, decide, node_step, packet_by, through_home, IsOfGeneration}
use Rattle.schemes.proofs.OnTheWay.CarriedTrails.{under_way_more}
use Rattle.schemes.proofs.OnTheWay.Generations.{decide_generation, node_step_generation}
use Rattle.generations.specs.Boards.{scheme_of}
use Rattle.generations.specs.Beginnings.{Beginning, GoesOn, board_after}
use Rattle.generations.proofs.Sharing.{goes_trans}
use Rattle.forwarders.specs.declared.refused.Refused.{Refused}
use Rattle.forwarders.specs.declared.refused.Refused.TheVariants.{BoardShut, NoNode, Unreachable}
use Rattle.forwarders.specs.Answers.{address_at, by, by_name, handed_back, hop_at, launch_at}
use Rattle.forwarders.specs.Arrivals.{IsLawfulList, IsPublished}
use Rattle.forwarders.proofs.Published.{found_published, published_there}
use Rattle.packet_ways.specs.declared.carried.Carried.{Carried}
use Rattle.packet_ways.specs.declared.carried.Carried.TheVariants as carried
use Rattle.packet_ways.specs.declared.carried.Trip.{Trip}
use Rattle.packet_ways.specs.Carried.{HoldsOf, IsCarried, IsUnderWay}
use Rattle.service_actors.specs.Forwarded.{IsLaunched, IsOnWay, IsSent, launched_at}

-- ---- answers of a shelf

ok_by_name : {A : Type 0} (r : Result A scheme.Refused) (a : A) → by_name r ≡ Ok a → r ≡ Ok a
ok_by_name (Ok b) a is = cc
ok_by_name (Err e) a is = absurd (cc)

pub ok_by : {A : Type 0} (answer : Tables → Result A scheme.Refused) (found : Option Parts) (a : A) → by answer found ≡ Ok a → (q : Parts) × (found ≡ Some q) × (answer (tables q) ≡ Ok a)
ok_by answer None a is = absurd (cc)
ok_by answer (Some q) a is = (q, refl, ok_by_name (answer (tables q)) a is)

no_node_by_name : {A : Type 0} (r : Result A scheme.Refused) → by_name r ≡ Err NoNode → r ≡ Err by_scheme.NoNode
no_node_by_name (Err by_scheme.NoNode) is = refl
no_node_by_name _ is = absurd (cc)

unreachable_by_name : {A : Type 0} (r : Result A scheme.Refused) → by_name r ≡ Err Unreachable → r ≡ Err by_scheme.Unreachable
unreachable_by_name (Err by_scheme.Unreachable) is = refl
unreachable_by_name _ is = absurd (cc)

pub no_node_by : {A : Type 0} (answer : Tables → Result A scheme.Refused) (found : Option Parts) → by answer found ≡ Err NoNode → (q : Parts) × (found ≡ Some q) × (answer (tables q) ≡ Err by_scheme.NoNode)
no_node_by answer None is = absurd (cc)
no_node_by answer (Some q) is = (q, refl, no_node_by_name (answer (tables q)) is)

unreachable_by : {A : Type 0} (answer : Tables → Result A scheme.Refused) (found : Option Parts) → by answer found ≡ Err Unreachable → (q : Parts) × (found ≡ Some q) × (answer (tables q) ≡ Err by_scheme.Unreachable)
unreachable_by answer None is = absurd (cc)
unreachable_by answer (Some q) is = (q, refl, unreachable_by_name (answer (tables q)) is)

-- ---- addresses

-- an address that is given is the tables' own
pub record IsGiven (t : Tables) (v : ℕ) (a : Address) : Type 0 where
  pub own : a ≡ address t v
  pub inside : v < t.nodes

pub address_is : (t : Tables) (v : ℕ) (a : Address) → address_given t v ≡ Ok a → IsGiven t v a
address_is t v a is = by_test (nat_lt v t.nodes) refl is
  where
    by_test : (b : Bool) → nat_lt v t.nodes ≡ b → cond b (Ok (address t v)) (Err by_scheme.NoNode) ≡ Ok a → IsGiven t v a
    by_test true less given = record { own = cc; inside = grind (arith, nat_tests) }
    by_test false less given = absurd (cc)

-- where none is given, it isn't a node
pub address_none : (t : Tables) (v : ℕ) → address_given t v ≡ Err by_scheme.NoNode → v < t.nodes → ⊥
address_none t v is inside = by_test (nat_lt v t.nodes) refl is
  where
    by_test : (b : Bool) → nat_lt v t.nodes ≡ b → cond b (Ok (address t v)) (Err by_scheme.NoNode) ≡ Err by_scheme.NoNode → ⊥
    by_test true less given = cc
    by_test false less given = grind (arith, nat_tests)

never_unreachable : (t : Tables) (v : ℕ) → address_given t v ≡ Err by_scheme.Unreachable → ⊥
never_unreachable t v is = by_test (nat_lt v t.nodes) is
  where
    by_test : (b : Bool) → cond b (Ok (address t v)) (Err by_scheme.NoNode) ≡ Err by_scheme.Unreachable → ⊥
    by_test true given = cc
    by_test false given = cc

-- a packet that isn't sent for want of a node
home_names : (t : Tables) (u : ℕ) (a : Address) (o : Option Home) → through_home t u a o ≡ Err by_scheme.NoNode → ⊥
home_names t u a None is = cc
home_names t u a (Some h) is = by_test (is_some (t.entry u h.landmark)) is
  where
    by_test : (b : Bool) → cond b (Ok (packet_by t a.node h.landmark h.label)) (Err by_scheme.Unreachable) ≡ Err by_scheme.NoNode → ⊥
    by_test true e = cc
    by_test false e = cc

directory_names : (t : Tables) (u : ℕ) (a : Address) (o : Option Label) → by_directory t u a o ≡ Err by_scheme.NoNode → ⊥
directory_names t u a None is = home_names t u a a.home is
directory_names t u a (Some l) is = cc

no_node_sends : (t : Tables) (u : ℕ) (a : Address) → decide t u a ≡ Err by_scheme.NoNode → u < t.nodes → a.node < t.nodes → ⊥
no_node_sends t u a is first second =
    let both : (nat_lt u t.nodes && nat_lt a.node t.nodes) ≡ true = grind (arith, nat_tests) in
    directory_names t u a (t.listed u a.node) (sym (ap (λ (b : Bool). cond b (by_directory t u a (t.listed u a.node)) (Err by_scheme.NoNode)) both) ∙ is)

-- ---- a launch

abbrev Looked : {A : Type 0} → Result A Refused → Result A Refused → Type 0
Looked answer by_shelf = (answer ≡ Err BoardShut) ⊎ (answer ≡ by_shelf)

not_shut : {A : Type 0} (answer by_shelf : Result A Refused) (a : A) → Looked answer by_shelf → answer ≡ Ok a → by_shelf ≡ Ok a
not_shut answer by_shelf a (inl shut) is = absurd (cc)
not_shut answer by_shelf a (inr at) is = sym at ∙ is

refused_by : {A : Type 0} (answer by_shelf : Result A Refused) (refused : Refused) → Looked answer by_shelf → answer ≡ Err refused → (refused ≡ BoardShut → ⊥) → by_shelf ≡ Err refused
refused_by answer by_shelf refused (inl shut) is other = absurd (other (let same : Err BoardShut ≡ Err refused = sym shut ∙ is in cc))
refused_by answer by_shelf refused (inr at) is other = sym at ∙ is

-- one scheme gave the address
abbrev IsAddressed : ℕ → ℕ → Address → Beginning → Type 0
IsAddressed generation v a all = (p : Parts) × IsPublished all generation p × (p.generation ≡ generation) × IsGiven (tables p) v a

addressed : (seen : Beginning) (generation v : ℕ) (a : Address) (answer : Result Address Refused) → Looked answer (address_at generation v (board_after seen).shelf) → answer ≡ Ok a
    → HoldsOf seen (IsAddressed generation v a)
addressed seen generation v a answer looked is all lawful are_named on =
    let found = ok_by (λ t. address_given t v) (scheme_of generation (board_after seen).shelf) a (not_shut answer _ a looked is) in
    let there : IsPublished all generation found.0 = published_there all seen generation found.0 on found.1 in
    (found.0, there, are_named generation found.0 there, address_is (tables found.0) v a found.2)

-- the scheme that a later look finds under the address's generation is the one that gave the address
same_scheme : (all seen : Beginning) (generation v : ℕ) (a : Address) (q : Parts) → IsLawfulList all → GoesOn seen all → (is : IsAddressed generation v a all)
    → scheme_of a.generation (board_after seen).shelf ≡ Some q → q ≡ is.0
same_scheme all seen generation v a q lawful on is found =
    let number : a.generation ≡ generation = ap (λ (b : Address). b.generation) is.3.own ∙ is.2 in
    found_published all seen generation is.0 q lawful is.1 on (subst (λ (n : ℕ). scheme_of n (board_after seen).shelf ≡ Some q) number found)

pub sent_by : (known later : Beginning) (generation u v : ℕ) (a : Address) (given : Result Address Refused) (sent : Result Packet Refused) (packet : Packet)
    → GoesOn known later → Looked given (address_at generation v (board_after known).shelf) → given ≡ Ok a → Looked sent (launch_at u a (board_after later).shelf) → sent ≡ Ok packet
    → IsSent later u v packet
sent_by known later generation u v a given sent packet on looked is launched ok all lawful are_named from_here =
    let by_one = addressed known generation v a given looked is all lawful are_named (goes_trans known later all on from_here) in
    let found = ok_by (λ t. decide t u a) (scheme_of a.generation (board_after later).shelf) packet (not_shut sent _ packet launched ok) in
    let p : Parts = by_one.0 in
    let same : found.0 ≡ p = same_scheme all later generation v a found.0 lawful from_here by_one found.1 in
    let decided : decide (tables p) u a ≡ Ok packet = subst (λ (q : Parts). decide (tables q) u a ≡ Ok packet) same found.2 in
    let of : packet.generation ≡ p.generation = subst (λ (r : Result Packet scheme.Refused). IfOk r (λ (z : Packet). z.generation ≡ p.generation)) decided (decide_generation (tables p) u a) in
    (p, subst (λ (n : ℕ). IsPublished all n p) (sym (of ∙ by_one.2)) by_one.1, subst (λ (b : Address). decide (tables p) u b ≡ Ok packet) by_one.3.own decided)

-- an address that isn't given
pub address_refused : (known : Beginning) (trip : Trip) (generation : ℕ) (given : Result Address Refused) (refused : Refused) → Looked given (address_at generation trip.to (board_after known).shelf)
    → given ≡ Err refused → IsLaunched known trip (launched_at generation refused)
address_refused known trip generation given NoNode looked is = λ all lawful are_named on.
    let found = no_node_by (λ t. address_given t trip.to) (scheme_of generation (board_after known).shelf) (refused_by given _ NoNode looked is (λ e. cc)) in
    (generation, found.0, published_there all known generation found.0 on found.1, λ first second. address_none (tables found.0) trip.to found.2 second)
address_refused known trip generation given Unreachable looked is = λ all lawful are_named on.
    let found = unreachable_by (λ t. address_given t trip.to) (scheme_of generation (board_after known).shelf) (refused_by given _ Unreachable looked is (λ e. cc)) in
    absurd (never_unreachable (tables found.0) trip.to found.2)
address_refused known trip generation given _ looked is = tt

-- a packet that isn't sent
pub launch_refused : (known later : Beginning) (trip : Trip) (generation : ℕ) (a : Address) (given : Result Address Refused) (sent : Result Packet Refused) (refused : Refused)
    → GoesOn known later → Looked given (address_at generation trip.to (board_after known).shelf) → given ≡ Ok a → Looked sent (launch_at trip.from a (board_after later).shelf) → sent ≡ Err refused
    → IsLaunched later trip (launched_at generation refused)
launch_refused known later trip generation a given sent NoNode on looked is launched lost = λ all lawful are_named from_here.
    let by_one = addressed known generation trip.to a given looked is all lawful are_named (goes_trans known later all on from_here) in
    let found = no_node_by (λ t. decide t trip.from a) (scheme_of a.generation (board_after later).shelf) (refused_by sent _ NoNode launched lost (λ e. cc)) in
    let p : Parts = by_one.0 in
    let same : found.0 ≡ p = same_scheme all later generation trip.to a found.0 lawful from_here by_one found.1 in
    let decided : decide (tables p) trip.from a ≡ Err by_scheme.NoNode = subst (λ (q : Parts). decide (tables q) trip.from a ≡ Err by_scheme.NoNode) same found.2 in
    let node : a.node ≡ trip.to = ap (λ (b : Address). b.node) by_one.3.own in
    (generation, p, by_one.1, λ first second. no_node_sends (tables p) trip.from a decided first (subst (λ (n : ℕ). n < p.nodes) (sym node) second))
launch_refused known later trip generation a given sent Unreachable on looked is launched lost = λ all lawful are_named from_here.
    let by_one = addressed known generation trip.to a given looked is all lawful are_named (goes_trans known later all on from_here) in
    let found = unreachable_by (λ t. decide t trip.from a) (scheme_of a.generation (board_after later).shelf) (refused_by sent _ Unreachable launched lost (λ e. cc)) in
    let p : Parts = by_one.0 in
    let same : found.0 ≡ p = same_scheme all later generation trip.to a found.0 lawful from_here by_one found.1 in
    let decided : decide (tables p) trip.from a ≡ Err by_scheme.Unreachable = subst (λ (q : Parts). decide (tables q) trip.from a ≡ Err by_scheme.Unreachable) same found.2 in
    (p, by_one.1, subst (λ (b : Address). decide (tables p) trip.from b ≡ Err by_scheme.Unreachable) by_one.3.own decided)
launch_refused known later trip generation a given sent _ on looked is launched lost = tt

-- ---- hops

pub on_way_first : (known : Beginning) (u v : ℕ) (packet : Packet) (nodes : List ℕ) → IsSent known u v packet → nodes ≡ u ∷ [] → IsOnWay known u v packet.generation nodes u packet
on_way_first known u v packet nodes sent is all lawful are_named on =
    let by_one = sent all lawful are_named on in
    (by_one.0, by_one.1, refl, ([], 0, record { sent = packet; decided = by_one.2; rest = []; starts = is; goes = (refl, refl); same_root = refl; long = omega arith }))

pub on_way_later : (known later : Beginning) (u v generation : ℕ) (nodes : List ℕ) (at : ℕ) (packet : Packet) → GoesOn known later → IsOnWay known u v generation nodes at packet
    → IsOnWay later u v generation nodes at packet
on_way_later known later u v generation nodes at packet on way all lawful are_named from_here = way all lawful are_named (goes_trans known later all on from_here)

-- what a hop is answered
abbrev pub Hopped : Beginning → ℕ → Packet → Result Move (Refused × Packet) → Type 0
Hopped seen at packet answer = (answer ≡ Err (BoardShut, packet)) ⊎ (answer ≡ handed_back packet (hop_at at packet (board_after seen).shelf))

moved_by : (packet : Packet) (answer : Result Move (Refused × Packet)) (by_shelf : Result Move Refused) (move : Move) → (answer ≡ Err (BoardShut, packet)) ⊎ (answer ≡ handed_back packet by_shelf) → answer ≡ Ok move
    → by_shelf ≡ Ok move
moved_by packet answer by_shelf move (inl shut) is = absurd (cc)
moved_by packet answer (Ok other) move (inr at) is = cc
moved_by packet answer (Err e) move (inr at) is = absurd (cc)

-- the move is that of the one scheme
moved : (all later : Beginning) (at generation : ℕ) (packet : Packet) (answer : Result Move (Refused × Packet)) (move : Move) (p : Parts) → IsLawfulList all → GoesOn later all → IsPublished all generation p
    → packet.generation ≡ generation → Hopped later at packet answer → answer ≡ Ok move → node_step (tables p) at packet ≡ Ok move
moved all later at generation packet answer move p lawful on has of hopped is =
    let found = ok_by (λ t. node_step t at packet) (scheme_of packet.generation (board_after later).shelf) move (moved_by packet answer _ move hopped is) in
    let same : found.0 ≡ p = found_published all later generation p found.0 lawful has on (subst (λ (n : ℕ). scheme_of n (board_after later).shelf ≡ Some found.0) of found.1) in
    subst (λ (q : Parts). node_step (tables q) at packet ≡ Ok move) same found.2

pub hopped_on : (known later : Beginning) (u v generation : ℕ) (nodes more : List ℕ) (at : ℕ) (packet : Packet) (port next : ℕ) (left : Packet) (answer : Result Move (Refused × Packet))
    → GoesOn known later → IsOnWay known u v generation nodes at packet → Hopped later at packet answer → answer ≡ Ok (Forward port next left) → more ≡ nodes ++ next ∷ []
    → IsOnWay later u v generation more next left
hopped_on known later u v generation nodes more at packet port next left answer on way hopped is longer all lawful are_named from_here =
    let here = way all lawful are_named (goes_trans known later all on from_here) in
    let p : Parts = here.0 in
    let step : node_step (tables p) at packet ≡ Ok (Forward port next left) = moved all later at generation packet answer (Forward port next left) p lawful from_here here.1 here.2 hopped is in
    let kept : left.generation ≡ packet.generation = subst (λ (r : Result Move scheme.Refused). IfOk r (IsOfGeneration packet.generation)) step (node_step_generation (tables p) at packet) in
    let under = here.3.2 in
    let next_way = under_way_more (tables p) u (address (tables p) v) nodes here.3.0 here.3.1 at packet port next left under step in
    let ports : List ℕ = here.3.0 ++ port ∷ [] in
    let long : ℕ = min (here.3.1 + trail.gap (tables p) packet.root at next) (2 ^ 64 - 1) in
    (p, here.1, kept ∙ here.2, (ports, long, subst (λ (ns : List ℕ). trail.IsUnderWay (tables p) u (address (tables p) v) ns ports long next left) (sym longer) next_way))

-- what is told is this way in this generation
abbrev pub IsAlong : Carried → ℕ → List ℕ → Type 0
IsAlong (carried.Along g ns length) generation nodes = (g ≡ generation) × (ns.items ≡ nodes)
IsAlong (carried.Unreachable g) generation nodes = ⊥
IsAlong carried.NoNode generation nodes = ⊥

pub delivered_there : (known later : Beginning) (trip : Trip) (generation at : ℕ) (packet : Packet) (answer : Result Move (Refused × Packet)) (carried_so : Carried) (nodes : List ℕ)
    → GoesOn known later → IsOnWay known trip.from trip.to generation nodes at packet → Hopped later at packet answer → answer ≡ Ok Delivered → IsAlong carried_so generation nodes
    → IsCarried later trip carried_so
delivered_there known later trip generation at packet answer (carried.Along g ns long) nodes on way hopped is along = λ all lawful are_named from_here.
    let here = way all lawful are_named (goes_trans known later all on from_here) in
    let p : Parts = here.0 in
    let step : node_step (tables p) at packet ≡ Ok Delivered = moved all later at generation packet answer Delivered p lawful from_here here.1 here.2 hopped is in
    (p, subst (λ (n : ℕ). IsPublished all n p) (sym along.0) here.1, (at, packet, subst (λ (l : List ℕ). IsUnderWay (tables p) trip.from trip.to l at packet) (sym along.1) here.3, step))
delivered_there known later trip generation at packet answer (carried.Unreachable g) nodes on way hopped is along = absurd along
delivered_there known later trip generation at packet answer carried.NoNode nodes on way hopped is along = absurd along

second : (e f : Refused) (k l : Packet) → (let a : Result Move (Refused × Packet) = Err (e, k) in a) ≡ Err (f, l) → l ≡ k
second e f k l is = (let pair : (e, k) ≡ (f, l) = cc in sym (ap (λ (z : Refused × Packet). z.1) pair))

-- a packet that is put off comes back as it was
pub back_as_it_was : (seen : Beginning) (at : ℕ) (packet back : Packet) (answer : Result Move (Refused × Packet)) (refused : Refused) → Hopped seen at packet answer → answer ≡ Err (refused, back) → back ≡ packet
back_as_it_was seen at packet back answer refused (inl shut) is = second BoardShut refused packet back (sym shut ∙ is)
back_as_it_was seen at packet back answer refused (inr handed) is = by_shelf (hop_at at packet (board_after seen).shelf) handed
  where
    by_shelf : (r : Result Move Refused) → answer ≡ handed_back packet r → back ≡ packet
    by_shelf (Ok move) e = absurd (cc)
    by_shelf (Err e) f = second e refused packet back (sym f ∙ is)
