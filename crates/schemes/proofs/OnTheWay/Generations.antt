-- A packet has the generation of the scheme that sends it, and keeps it on its way.
use Rattle.std.proofs.Common.{◌≡◌, ℕ, Bool, cond, refl, nat_lt, ◌==◌, ◌&&◌}
use Rattle.std.specs.Prelude.{Option, Some, None, Result, Ok, Err, IfOk, is_some}
use Rattle.std.proofs.lemmas.Bool.{cond_both}
use Rattle.heavy_labels.specs.Label.{Label}
use Rattle.heavy_labels.specs.Numbering.{Step, arrived, port, no_parent, no_light, step}
use Rattle.heavy_labels.specs.Stepped.{record_of}
use Rattle.schemes.specs.Entry.{Entry}
use Rattle.schemes.specs.declared.packet.Address.{Address}
use Rattle.schemes.specs.declared.packet.Home.{Home}
use Rattle.schemes.specs.declared.packet.Packet.{Packet}
use Rattle.schemes.specs.declared.packet.Move.TheVariants.{Delivered, Forward}
use Rattle.schemes.specs.declared.packet.Refused.{Refused}
use Rattle.schemes.specs.declared.packet.Refused.TheVariants.{NoNode, Unreachable, Stray, Spent}
use Rattle.schemes.specs.Tables.{Tables}
use Rattle.schemes.specs.Service.{IsOfGeneration, by_directory, through_home, decide, packet_by, forward_over, move_by, move_at, node_step, one_less}

either : {X : Type 0} (P : X → Type 0) (b : Bool) (r s : Result X Refused) → IfOk r P → IfOk s P → IfOk (cond b r s) P
either P b r s h k = cond_both b r s (λ z. IfOk z P) (λ _. h) (λ _. k)

abbrev OfScheme : Tables → Packet → Type 0
OfScheme t k = k.generation ≡ t.generation

home_sends : (t : Tables) (u : ℕ) (a : Address) (o : Option Home) → IfOk (through_home t u a o) (OfScheme t)
home_sends t u a None = tt
home_sends t u a (Some h) = either (OfScheme t) (is_some (t.entry u h.landmark)) (Ok (packet_by t a.node h.landmark h.label)) (Err Unreachable) refl tt

directory_sends : (t : Tables) (u : ℕ) (a : Address) (o : Option Label) → IfOk (by_directory t u a o) (OfScheme t)
directory_sends t u a None = home_sends t u a a.home
directory_sends t u a (Some l) = refl

pub decide_generation : (t : Tables) (u : ℕ) (a : Address) → IfOk (decide t u a) (λ k. k.generation ≡ t.generation)
decide_generation t u a = either (OfScheme t) (nat_lt u t.nodes && nat_lt a.node t.nodes) (by_directory t u a (t.listed u a.node)) (Err NoNode) (directory_sends t u a (t.listed u a.node)) tt

over_port_keeps : (k : Packet) (q : ℕ) (o : Option ℕ) → IfOk (forward_over k q o) (IsOfGeneration k.generation)
over_port_keeps k q None = tt
over_port_keeps k q (Some y) = either (IsOfGeneration k.generation) (k.hops_left == 0) (Err Spent) (Ok (Forward q y (one_less k))) tt refl

step_keeps : (t : Tables) (x : ℕ) (k : Packet) (s : Step) → IfOk (move_by t x k s) (IsOfGeneration k.generation)
step_keeps t x k arrived = either (IsOfGeneration k.generation) (x == k.destination) (Ok Delivered) (Err Stray) tt tt
step_keeps t x k (port q) = over_port_keeps k q (t.over x q)
step_keeps t x k no_parent = tt
step_keeps t x k no_light = tt

entry_keeps : (t : Tables) (x : ℕ) (k : Packet) (o : Option Entry) → IfOk (move_at t x k o) (IsOfGeneration k.generation)
entry_keeps t x k None = tt
entry_keeps t x k (Some e) = step_keeps t x k (step (record_of e.tree_record) k.label)

pub node_step_generation : (t : Tables) (x : ℕ) (k : Packet) → IfOk (node_step t x k) (IsOfGeneration k.generation)
node_step_generation t x k =
    either (IsOfGeneration k.generation) (nat_lt x t.nodes) (cond (nat_lt k.hops_left t.nodes) (move_at t x k (t.entry x k.root)) (Err Stray)) (Err NoNode)
    (either (IsOfGeneration k.generation) (nat_lt k.hops_left t.nodes) (move_at t x k (t.entry x k.root)) (Err Stray) (entry_keeps t x k (t.entry x k.root)) tt) tt
