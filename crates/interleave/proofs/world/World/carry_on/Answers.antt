use Rattle.std.proofs.Common.{◌≡◌, ◌<◌, ℕ, List, map, set, length, inl, inr, refl, ap, sym, ◌∙◌, subst, arith}
use Rattle.std.proofs.lemmas.List.{length-map}
use Rattle.forwarders.specs.Answers.{hop_at}
use Rattle.event_model.specs.Machines.{Machine}
use Rattle.event_model.specs.Trips.{Trip, hop_reply, hop_way}
use Rattle.interleave.specs.declared.stored.Way.{Way}
use Rattle.interleave.specs.Stores.{trip_of}
use Rattle.interleave.specs.WorldWords.{machine_of}
use Rattle.interleave.proofs.Parts.{next_ways, same_ways, is_there}
use Rattle.interleave.proofs.world.World.carry_on.Goals as goal

pub returns-then-is_err-clause-answers : goal.returns-then-is_err-clause-answers
returns-then-is_err-clause-answers g c w e =
    let m : Machine = machine_of c.args.self.now in
    let ws : List Way = c.args.self.now.stored.ways.items in
    let v : Way = c.index_mut-way.result.now in
    let now : Way = record v { visited = c.reserve.new.self } in
    let trip : trip_of now ≡ trip_of v = ap (λ l. record (trip_of v) { visited = l }) c.reserve.ensures.items in
    let same : map trip_of (set ws c.args.packet now) ≡ map trip_of ws = same_ways ws c.args.packet v now c.index_mut-way.ensures.value trip in
    inr (refl, ap (λ (l : List Trip). record m { ways = l }) same)

pub returns-clause-answers : goal.returns-clause-answers
returns-clause-answers g c w e =
    let m : Machine = machine_of c.args.self.now in
    let ws : List Way = c.args.self.now.stored.ways.items in
    let i : ℕ = c.args.packet in
    let v : Way = c.index_mut-way.result.now in
    let old : Way = record v { visited = c.reserve.new.self } in
    let shelf = c.args.board.now.shelf in
    let trip : trip_of old ≡ trip_of v = ap (λ l. record (trip_of v) { visited = l }) c.reserve.ensures.items in
    let within : i < length ws = let h = c.requires.within in omega (arith, length-map ws trip_of) in
    let to : trip_of old ≡ w = trip ∙ sym (is_there ws i v w c.index_mut-way.ensures.value within e) in
    let P : Trip → Type 0 = λ t. (c.hop_along.result ≡ hop_reply (hop_at t.at t.packet shelf)) × (map trip_of (set ws i c.hop_along.new.way) ≡ set (map trip_of ws) i (hop_way t (hop_at t.at t.packet shelf))) in
    let x : P w = subst P to (c.hop_along.ensures.reply, next_ways ws i c.hop_along.new.way (hop_way (trip_of old) (hop_at old.at old.packet shelf)) c.hop_along.ensures.way) in
    inl (x.0, ap (λ (l : List Trip). record m { seen = c.args.seen; ways = l }) x.1)
