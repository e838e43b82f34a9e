use Rattle.std.proofs.Common.{rules, ◌≡◌, ℕ, true, List, length, map, slice_get, Some, refl, ap, ◌∙◌, subst, arith}
use Rattle.std.specs.Option.{option_map}
use Rattle.std.proofs.lemmas.Option.{slice_get_read, slice_get-map}
use Rattle.generations.specs.Boards.{BoardState}
use Rattle.forwarders.specs.Answers.{hop_at}
use Rattle.event_model.specs.Trips.{Trip}
use Rattle.event_model.specs.Machines.{Machine, board_at}
use Rattle.event_model.specs.Answers.{OrMemory, hop, hop_as, looked, sees}
use Rattle.interleave.specs.declared.stored.Way.{Way}
use Rattle.interleave.specs.Stores.{trip_of}
use Rattle.interleave.specs.WorldWords.{machine_of}
use Rattle.interleave.proofs.Steps.{either, hops}
use Rattle.interleave.proofs.world.World.hop.Goals as goal

pub returns-clause-answers : goal.returns-clause-answers
returns-clause-answers g c =
    let world = c.args.self.now in
    let m : Machine = machine_of world in
    let n : Machine = machine_of c.carry_on.new.self in
    let i : ℕ = c.args.packet in
    let ws : List Way = world.stored.ways.items in
    let v : Way = c.index.result.now in
    let way : Trip = trip_of v in
    let known = world.stored.ways.ok.0 in
    let one : slice_get ws i ≡ Some v = slice_get_read ws (length ws) i v refl (let a = c.if-packet-len.false in let b = c.len.ensures in omega (arith, a, b, known)) c.index.ensures in
    let at : slice_get (map trip_of ws) i ≡ Some way = slice_get-map trip_of ws i ∙ ap (option_map trip_of) one in
    let there : way.there ≡ true = search rules in
    let seen : c.further-seen.result ≡ sees m c.args.at = c.further-seen.ensures in
    let board : c.in-Ok.board ≡ board_at m (sees m c.args.at) = c.in-Ok.ensures ∙ ap (board_at m) seen in
    let moved = c.carry_on.ensures.answers way at in
    let now : OrMemory (hop_as (looked m c.args.at) i way (hop_at way.at way.packet (board_at m (sees m c.args.at)).shelf)) m c.carry_on.result n =
    subst (λ (x : ℕ × BoardState). OrMemory (hop_as (record m { seen = x.0 }) i way (hop_at way.at way.packet x.1.shelf)) m c.carry_on.result n) (λ j. (seen j, board j)) moved in
    either (hop m i c.args.at) (hop_as (looked m c.args.at) i way (hop_at way.at way.packet (board_at m (sees m c.args.at)).shelf)) m c.carry_on.result n (hops m i c.args.at way at there) now
