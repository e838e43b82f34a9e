-- From steps along a way in a tree to the moves of a packet.
use Rattle.std.proofs.Common.{◌≡◌, ℕ, ◌≤◌, ◌<◌, inl, inr, sym, refl, ap, ◌∙◌, arith, List, [], ◌∷◌, map, length, ◌==◌, add-one}
use Rattle.std.specs.Prelude.{Some, Ok, slice_get}
use Rattle.std.proofs.lemmas.Bool.Decides.{nat_tests}
use Rattle.std.proofs.lemmas.Bool.{lt-ltb, eqb-true}
use Rattle.heavy_labels.specs.Numbering.{Place, arrived, port, step, Follows, Joins}
use Rattle.heavy_labels.specs.Stepped.{record_of}
use Rattle.schemes.proofs.Basics.Options.{not_none}
use Rattle.schemes.proofs.Basics.Searches.{found_split}
use Rattle.schemes.specs.Entry.{Entry}
use Rattle.graph_edits.specs.Edges.{Network}
use Rattle.schemes.specs.Ports.{index_of, neighbours, port_to}
use Rattle.schemes.specs.Tables.{Tables}
use Rattle.schemes.specs.Checks.{up_port, down_port}
use Rattle.schemes.specs.declared.packet.Packet.{Packet}
use Rattle.schemes.specs.declared.packet.Move.TheVariants.{Delivered, Forward}
use Rattle.schemes.specs.Service.{node_step, one_less}

pub index_get : (y q : ℕ) (xs : List ℕ) → index_of y xs ≡ Some q → slice_get xs q ≡ Some y
index_get y q [] e = absurd (not_none e refl)
index_get y q (x ∷ xs) e = elim (found_split (x == y) (index_of y xs) q e) [
  | inl k ↦ rw k.1 (ap (λ w. Some w) (eqb-true x y k.0))
  | inr k ↦ (let r = k.1 in rw (r.1.1, add-one r.0) (index_get y r.0 xs r.1.0))
]

-- the place stands for what the tables say of its node
pub record IsAtPlace (m : Network) (t : Tables) (r : ℕ) (a : Place) : Type 0 where
  pub entry : Entry
  pub is : t.entry a.node r ≡ Some entry
  pub tree_record : record_of entry.tree_record ≡ a.tree_record
  pub parent : entry.parent ≡ a.parent
  pub up : a.up ≡ up_port m a.node (Some entry)
  pub down : a.down ≡ down_port m a.node (Some entry)
  pub inside : a.node < m.nodes

abbrev pub AreAtPlaces : Network → Tables → ℕ → List Place → Type 0
AreAtPlaces m t r [] = Unit {0}
AreAtPlaces m t r (a ∷ rest) = IsAtPlace m t r a × AreAtPlaces m t r rest

pub up_at : (m : Network) (x y : ℕ) (e : Entry) → e.parent ≡ Some y → up_port m x (Some e) ≡ port_to m x y
up_at m x y e h = rw h refl

pub down_at : (m : Network) (x y : ℕ) (e : Entry) → e.parent ≡ Some y → down_port m x (Some e) ≡ port_to m y x
down_at m x y e h = rw h refl

-- either way the port is that of the next node
pub next_port : (m : Network) (t : Tables) (r : ℕ) (a b : Place) (q : ℕ) → IsAtPlace m t r a → IsAtPlace m t r b → Joins a b q → port_to m a.node b.node ≡ Some q
next_port m t r a b q sa sb (inl j) = sym (up_at m a.node b.node sa.entry (sa.parent ∙ j.0)) ∙ sym sa.up ∙ j.1
next_port m t r a b q sa sb (inr j) = sym (down_at m b.node a.node sb.entry (sb.parent ∙ j.0)) ∙ sym sb.down ∙ j.1

-- the tables' ports are the network's
pub record Ports (m : Network) (t : Tables) : Type 0 where
  pub nodes : t.nodes ≡ m.nodes
  pub over : (x k : ℕ) → x < m.nodes → t.over x k ≡ slice_get (neighbours m x) k

step_arrives : (t : Tables) (x : ℕ) (k : Packet) (e : Entry) → x < t.nodes → k.hops_left < t.nodes → t.entry x k.root ≡ Some e → step (record_of e.tree_record) k.label ≡ arrived → x ≡ k.destination → node_step t x k ≡ Ok Delivered
step_arrives t x k e h1 h2 g s d = rw (lt-ltb x t.nodes h1, lt-ltb k.hops_left t.nodes h2, g, s) (grind (arith, nat_tests))

step_forwards : (t : Tables) (x y q : ℕ) (k : Packet) (e : Entry) → x < t.nodes → k.hops_left < t.nodes → 0 < k.hops_left → t.entry x k.root ≡ Some e → step (record_of e.tree_record) k.label ≡ port q → t.over x q ≡ Some y → node_step t x k ≡ Ok (Forward q y (one_less k))
step_forwards t x y q k e h1 h2 h3 g s o = rw (lt-ltb x t.nodes h1, lt-ltb k.hops_left t.nodes h2, g, s, o) (grind (arith, nat_tests))

-- x and the nodes of the list pass a packet on, each to the next by some port, and the last one says that it is delivered
abbrev pub Passes : Tables → ℕ → List ℕ → Packet → Type 0
Passes t x [] k = node_step t x k ≡ Ok Delivered
Passes t x (y ∷ rest) k = ((q : ℕ) × (node_step t x k ≡ Ok (Forward q y (one_less k)))) × Passes t y rest (one_less k)

abbrev pub EndsAt : List Place → ℕ → Type 0
EndsAt [] v = ⊥
EndsAt (a ∷ []) v = a.node ≡ v
EndsAt (a ∷ b ∷ rest) v = EndsAt (b ∷ rest) v

-- a packet is carried along what its label's steps follow
pub carry : (m : Network) (t : Tables) (r : ℕ) → Ports m t → (a : Place) (rest : List Place) (k : Packet) → AreAtPlaces m t r (a ∷ rest) → Follows k.label (a ∷ rest) → k.root ≡ r → EndsAt (a ∷ rest) k.destination
    → length rest ≤ k.hops_left → k.hops_left < m.nodes → Passes t a.node (map (λ b. b.node) rest) k
carry m t r ports a [] k placed f is ends room below =
    let s = placed.0 in
    let same : step (record_of s.entry.tree_record) k.label ≡ arrived = ap (λ z. step z k.label) s.tree_record ∙ f in
    step_arrives t a.node k s.entry (rw ports.nodes s.inside) (rw ports.nodes below) (rw is s.is) same ends
carry m t r ports a (b ∷ rest) k placed f is ends room below =
    let s = placed.0 in
    let q = f.0.0 in
    let same : step (record_of s.entry.tree_record) k.label ≡ port q = ap (λ z. step z k.label) s.tree_record ∙ f.0.1.0 in
    let over : t.over a.node q ≡ Some b.node = ports.over a.node q s.inside ∙ index_get b.node q (neighbours m a.node) (next_port m t r a b q s placed.1.0 f.0.1.1) in (
      (q, step_forwards t a.node b.node q k s.entry (rw ports.nodes s.inside) (rw ports.nodes below) (omega arith) (rw is s.is) same over),
      carry m t r ports b rest (one_less k) placed.1 f.1 is ends (omega arith) (omega arith),
    )
