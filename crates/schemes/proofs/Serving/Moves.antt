-- What a move says.
use Rattle.std.proofs.Common.{◌≡◌, ℕ, ◌<◌, ◌==◌, nat_lt, Bool, true, false, cond, sym, refl, ap, subst, ◌∙◌, arith, List, [], ◌∷◌, map}
use Rattle.std.specs.Prelude.{Option, Some, None, Result, Ok, Err, slice_get, option_map}
use Rattle.std.proofs.lemmas.Bool.{eqb-false, ltb-true}
use Rattle.std.proofs.lemmas.Option.{slice_get-map}
use Rattle.graph_edits.specs.Edges.{Network, neighbours_of}
use Rattle.heavy_labels.specs.Numbering.{Step, arrived, port, no_parent, no_light, step}
use Rattle.heavy_labels.specs.Stepped.{record_of}
use Rattle.schemes.specs.Entry.{Entry}
use Rattle.schemes.specs.declared.packet.Packet.{Packet}
use Rattle.schemes.specs.declared.packet.Move.{Move}
use Rattle.schemes.specs.declared.packet.Move.TheVariants.{Delivered, Forward}
use Rattle.schemes.specs.declared.packet.Refused.{Refused}
use Rattle.schemes.specs.declared.packet.Refused.TheVariants.{NoNode, Stray, Spent}
use Rattle.schemes.specs.Tables.{Tables}
use Rattle.schemes.specs.Service.{node_step, move_at, move_by, forward_over, one_less, Carries, LeadAlong}
use Rattle.schemes.proofs.Basics.Options.{same_ok, ok_not_err}
use Rattle.schemes.proofs.Serving.StepsAsMoves.{Ports, Passes}

passes : (b : Bool) (x : Result Move Refused) (e : Refused) (w : Move) → cond b x (Err e) ≡ Ok w → (b ≡ true) × (x ≡ Ok w)
passes true x e w h = (refl, h)
passes false x e w h = absurd (ok_not_err h refl)

not_passed : (b : Bool) (x : Result Move Refused) (e : Refused) (w : Move) → cond b (Err e) x ≡ Ok w → (b ≡ false) × (x ≡ Ok w)
not_passed false x e w h = (refl, h)
not_passed true x e w h = absurd (ok_not_err h refl)

pub delivered_not_forward : {X : Type 0} (q y : ℕ) (left : Packet) (o : Result Move Refused) → o ≡ Ok Delivered → o ≡ Ok (Forward q y left) → X
delivered_not_forward q y left o e f = absurd (apart (same_ok e f))
  where
    apart : Delivered ≡ Forward q y left → ⊥
    apart g = cc

-- what a node says that sends a packet on
pub record IsForward (t : Tables) (x : ℕ) (k : Packet) (q y : ℕ) (left : Packet) : Type 0 where
  pub inside : x < t.nodes
  pub below : k.hops_left < t.nodes
  pub behind : t.over x q ≡ Some y
  pub some : 0 < k.hops_left
  pub less : left ≡ one_less k

forward_by_port : (t : Tables) (x : ℕ) (k : Packet) (q y : ℕ) (left : Packet) (p : ℕ) (o : Option ℕ) → t.over x p ≡ o → forward_over k p o ≡ Ok (Forward q y left) → x < t.nodes → k.hops_left < t.nodes → IsForward t x k q y left
forward_by_port t x k q y left p None g h i l = absurd (ok_not_err h refl)
forward_by_port t x k q y left p (Some z) g h i l =
    let n = not_passed (k.hops_left == 0) (Ok (Forward p z (one_less k))) Spent (Forward q y left) h in
    let same : Forward p z (one_less k) ≡ Forward q y left = same_ok refl n.1 in
    let a : p ≡ q = cc in
    let b : z ≡ y = cc in
    let c : one_less k ≡ left = cc in
    record { inside = i; below = l; behind = ap (t.over x) (sym a) ∙ g ∙ ap (λ w. Some w) b; some = (let f = eqb-false k.hops_left 0 n.0 in omega (arith, f)); less = sym c }

forward_by_step : (t : Tables) (x : ℕ) (k : Packet) (q y : ℕ) (left : Packet) (s : Step) → move_by t x k s ≡ Ok (Forward q y left) → x < t.nodes → k.hops_left < t.nodes → IsForward t x k q y left
forward_by_step t x k q y left arrived h i l = delivered_not_forward q y left (Ok Delivered) refl (passes (x == k.destination) (Ok Delivered) Stray (Forward q y left) h).1
forward_by_step t x k q y left (port p) h i l = forward_by_port t x k q y left p (t.over x p) refl h i l
forward_by_step t x k q y left no_parent h i l = absurd (ok_not_err h refl)
forward_by_step t x k q y left no_light h i l = absurd (ok_not_err h refl)

forward_by_entry : (t : Tables) (x : ℕ) (k : Packet) (q y : ℕ) (left : Packet) (o : Option Entry) → move_at t x k o ≡ Ok (Forward q y left) → x < t.nodes → k.hops_left < t.nodes → IsForward t x k q y left
forward_by_entry t x k q y left None h i l = absurd (ok_not_err h refl)
forward_by_entry t x k q y left (Some e) h i l = forward_by_step t x k q y left (step (record_of e.tree_record) k.label) h i l

pub forward_is : (t : Tables) (x : ℕ) (k : Packet) (q y : ℕ) (left : Packet) → node_step t x k ≡ Ok (Forward q y left) → IsForward t x k q y left
forward_is t x k q y left h =
    let a = passes (nat_lt x t.nodes) (cond (nat_lt k.hops_left t.nodes) (move_at t x k (t.entry x k.root)) (Err Stray)) NoNode (Forward q y left) h in
    let b = passes (nat_lt k.hops_left t.nodes) (move_at t x k (t.entry x k.root)) Stray (Forward q y left) a.1 in
    forward_by_entry t x k q y left (t.entry x k.root) b.1 (ltb-true x t.nodes a.0) (ltb-true k.hops_left t.nodes b.0)

-- ---- the ports of a way

pub get_map : (f : ℕ × ℕ → ℕ) (xs : List (ℕ × ℕ)) (i : ℕ) → slice_get (map f xs) i ≡ option_map f (slice_get xs i)
get_map f xs i = slice_get-map f xs i

-- the ports by which the nodes of the list pass a packet on: they lead along it in the network
pub record Ported (m : Network) (t : Tables) (x : ℕ) (trip : List ℕ) (k : Packet) : Type 0 where
  pub ports : List ℕ
  pub carried : Carries t x trip ports k
  pub lead : LeadAlong m x trip ports

pub ported : (m : Network) (t : Tables) → Ports m t → (x : ℕ) (trip : List ℕ) (k : Packet) → Passes t x trip k → Ported m t x trip k
ported m t ports x [] k passed = record { ports = []; carried = passed; lead = tt }
ported m t ports x (y ∷ ys) k passed =
    let q = passed.0.0 in
    let f = forward_is t x k q y (one_less k) passed.0.1 in
    let i : x < m.nodes = subst (λ n. x < n) ports.nodes f.inside in
    let rest = ported m t ports y ys (one_less k) passed.1 in
    record {
      ports = q ∷ rest.ports;
      carried = (passed.0.1, rest.carried);
      lead = (sym (get_map (λ e. e.0) (neighbours_of m x) q) ∙ sym (ports.over x q i) ∙ f.behind, rest.lead);
    }
