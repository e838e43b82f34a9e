-- What forwarders answer, by each list that goes on from what they know.
use Rattle.std.proofs.Common.{◌≡◌, ◌≢◌, ◌⊎◌, inl, inr, ⊎_elim, ℕ, refl, sym, ap, ◌∙◌, subst}
use Rattle.std.specs.Prelude.{Option, Some, None, IsSome, Result, Ok, Err}
use Rattle.schemes.specs.declared.parts.Parts.{Parts}
use Rattle.schemes.specs.declared.packet.Address.{Address}
use Rattle.schemes.specs.declared.packet.Packet.{Packet}
use Rattle.schemes.specs.declared.packet.Move.{Move}
use Rattle.schemes.specs.declared.packet.Refused as scheme
use Rattle.schemes.specs.declared.packet.Refused.TheVariants as by_scheme
use Rattle.schemes.specs.Tables.{Tables, tables}
use Rattle.schemes.specs.Service.{address_given, decide, node_step}
use Rattle.generations.specs.Boards.{scheme_of}
use Rattle.generations.specs.Notices.{newest_in}
use Rattle.generations.specs.Beginnings.{Beginning, board_after}
use Rattle.forwarders.specs.declared.refused.Refused.{Refused}
use Rattle.forwarders.specs.declared.refused.Refused.TheVariants as refused
use Rattle.forwarders.specs.Answers.{address_at, by, by_name, hop_at, launch_at, named}
use Rattle.forwarders.specs.Arrivals.{IsPublished}
use Rattle.forwarders.proofs.Published.{published_there}
use Rattle.packet_ways.specs.declared.carried.Carried.{Carried}
use Rattle.packet_ways.specs.Carried.{HoldsOf, IsCarried}
use Rattle.service_actors.proofs.PacketsOnWay.{address_is, address_none, no_node_by, ok_by}
use Rattle.live_lines.specs.declared.asked.Asked.TheVariants as asks
use Rattle.live_lines.specs.Answers.{generation_gone}
use Rattle.live_lines.specs.declared.answer.Answer.TheVariants.{Way, NoNode, Told, Sent, Moved, NotCarried}
use Rattle.line_exchange.specs.OneList.{AnswersBy, GivesIn, IsGoneAfter, IsRefusalIn, IsSaidBy}

-- ---- routes

pub route_said : (known : Beginning) (from to : ℕ) (way : Carried) → IsCarried known (record { from = from; to = to }) way → IsSaidBy known (asks.Route from to) (Way way)
route_said known from to way is = is

-- ---- refusals

-- a scheme's refusal
abbrev IsByScheme : Refused → Type 0
IsByScheme refused.BoardShut = ⊥
IsByScheme refused.GenerationGone = ⊥
IsByScheme other = Unit {0}

named_so : (e : scheme.Refused) → IsByScheme (named e)
named_so by_scheme.NoNode = tt
named_so by_scheme.Unreachable = tt
named_so by_scheme.Stray = tt
named_so by_scheme.Spent = tt

refused_so : {A : Type 0} (r : Result A scheme.Refused) (why : Refused) → Err why ≡ by_name r → IsByScheme why
refused_so (Ok a) why is = absurd (cc)
refused_so (Err e) why is = (let same : named e ≡ why = cc in subst IsByScheme same (named_so e))

-- there was no scheme, or it is the scheme's refusal
refused_by : {A : Type 0} (answer : Tables → Result A scheme.Refused) (found : Option Parts) (why : Refused) → Err why ≡ by answer found
    → ((found ≡ None) × (why ≡ refused.GenerationGone)) ⊎ ((q : Parts) × (found ≡ Some q) × (by_name (answer (tables q)) ≡ Err why) × IsByScheme why)
refused_by answer None why is = inl (refl, cc)
refused_by answer (Some q) why is = inr (q, refl, sym is, refused_so (answer (tables q)) why is)

-- ---- addresses

pub address_said : (known : Beginning) (generation node : ℕ) (a : Address) → Ok a ≡ address_at generation node (board_after known).shelf → IsSaidBy known (asks.Address node) (Told a)
address_said known generation node a is all lawful are_named on =
    let found = ok_by (λ t. address_given t node) (scheme_of generation (board_after known).shelf) a (sym is) in
    let there = published_there all known generation found.0 on found.1 in
    let own = (address_is (tables found.0) node a found.2).own in
    let same : a.generation ≡ generation = ap (λ (b : Address). b.generation) own ∙ are_named generation found.0 there in
    (found.0, subst (λ (n : ℕ). IsPublished all n found.0) (sym same) there, found.2)

pub no_address_said : (known : Beginning) (generation node : ℕ) → Err refused.NoNode ≡ address_at generation node (board_after known).shelf → IsSaidBy known (asks.Address node) NoNode
no_address_said known generation node is all lawful are_named on =
    let found = no_node_by (λ t. address_given t node) (scheme_of generation (board_after known).shelf) (sym is) in
    (generation, found.0, published_there all known generation found.0 on found.1, λ inside. address_none (tables found.0) node found.2 inside)

-- ---- what a board's scheme gives, each list gives that goes on from there

gives_said : {A : Type 0} (known : Beginning) (generation : ℕ) (ask : Tables → Result A scheme.Refused) (a : A) → Ok a ≡ by ask (scheme_of generation (board_after known).shelf)
    → HoldsOf known (λ all. GivesIn all generation ask (Ok a))
gives_said known generation ask a is all lawful are_named on =
    let found = ok_by ask (scheme_of generation (board_after known).shelf) a (sym is) in
    (found.0, published_there all known generation found.0 on found.1, found.2)

-- a refusal is said, isn't that the board is shut, and is that the generation is gone only where it is
no_step : {A : Type 0} (known : Beginning) (generation : ℕ) (ask : Tables → Result A scheme.Refused) (why : Refused) → IsSome (newest_in known.log) → Err why ≡ by ask (scheme_of generation (board_after known).shelf)
    → (why ≢ refused.BoardShut) × HoldsOf known (λ all. IsRefusalIn all generation ask (NotCarried why)) × (NotCarried why ≡ generation_gone → IsGoneAfter known generation)
no_step known generation ask why some is =
    ⊎_elim (λ none. (
      (λ shut. (let other = sym none.1 ∙ shut in absurd (cc))),
      (λ all lawful are_named on other. absurd (other none.1)),
      (λ gone. (some, none.0)),
    ))
    (λ found. (
      (λ shut. subst IsByScheme shut found.3),
      (λ all lawful are_named on other. (found.0, published_there all known generation found.0 on found.1, found.2)),
      (λ gone. (let same : why ≡ refused.GenerationGone = cc in absurd (subst IsByScheme same found.3))),
    ))
    (refused_by ask (scheme_of generation (board_after known).shelf) why is)

-- ---- launches

pub launch_said : (known : Beginning) (from : ℕ) (to : Address) (packet : Packet) → Ok packet ≡ launch_at from to (board_after known).shelf → IsSaidBy known (asks.Launch from to) (Sent packet)
launch_said known from to packet is = gives_said known to.generation (λ t. decide t from to) packet is

-- where no packet is sent
pub no_launch : (known : Beginning) (from : ℕ) (to : Address) (why : Refused) → IsSome (newest_in known.log) → Err why ≡ launch_at from to (board_after known).shelf → AnswersBy known (asks.Launch from to) (NotCarried why)
no_launch known from to why some is = (let by = no_step known to.generation (λ t. decide t from to) why some is in record { fits = by.0; said = by.1; off = by.2 })

-- ---- hops

pub hop_said : (known : Beginning) (at : ℕ) (packet : Packet) (move : Move) → Ok move ≡ hop_at at packet (board_after known).shelf → IsSaidBy known (asks.Hop at packet) (Moved move)
hop_said known at packet move is = gives_said known packet.generation (λ t. node_step t at packet) move is

-- where the packet isn't moved
pub no_hop : (known : Beginning) (at : ℕ) (packet : Packet) (why : Refused) → IsSome (newest_in known.log) → Err why ≡ hop_at at packet (board_after known).shelf → AnswersBy known (asks.Hop at packet) (NotCarried why)
no_hop known at packet why some is = (let by = no_step known packet.generation (λ t. node_step t at packet) why some is in record { fits = by.0; said = by.1; off = by.2 })
