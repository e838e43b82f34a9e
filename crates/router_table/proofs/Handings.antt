-- A table says of its node what the tables of all nodes say, so packets go by it as by them.
use Rattle.std.proofs.Common.{◌≡◌, ℕ, ◌+◌, ◌-◌, ◌<◌, ◌==◌, nat_lt, ◌&&◌, true, false, cond, List, [], ◌∷◌, length, map, Option, Some, None, refl, sym, ap, subst, ◌∙◌, arith, inl, inr}
use Rattle.std.specs.Prelude.{Result, Ok, Err, is_some, option_map}
use Rattle.std.proofs.lemmas.Bool.{cases_lt, le-ltb}
use Rattle.heavy_labels.specs.Label.{Label}
use Rattle.heavy_labels.specs.Numbering.{Step, arrived, port, step}
use Rattle.heavy_labels.specs.Stepped.{record_of}
use Rattle.heavy_labels.specs.declared.tree_record.Record.{Record}
use Rattle.schemes.specs.declared.packet.Address.{Address}
use Rattle.schemes.specs.declared.packet.Home.{Home}
use Rattle.schemes.specs.declared.packet.Packet.{Packet}
use Rattle.schemes.specs.declared.packet.Move.{Move}
use Rattle.schemes.specs.declared.packet.Move.TheVariants.{Delivered, Forward}
use Rattle.schemes.specs.declared.packet.Refused.{Refused}
use Rattle.schemes.specs.declared.packet.Refused.TheVariants.{NoNode, Stray}
use Rattle.schemes.specs.Entry.{Entry}
use Rattle.schemes.specs.declared.parts.Listed.{Listed}
use Rattle.schemes.specs.declared.parts.Parts.{Parts}
use Rattle.schemes.specs.Service.{Carries, address, by_directory, decide, move_at, move_by, node_step, one_less, through_home}
use Rattle.schemes.specs.Tables.{Tables, directory_at, entries_at, first_entry, first_listed, tables}
use Rattle.schemes.proofs.Serving.Moves.{forward_is}
use Rattle.router_table.specs.declared.tree_entry.TreeEntry.{TreeEntry}
use Rattle.router_table.specs.Handing.{AreTablesOf, Hands, WasHanded, hopped, launched}
use Rattle.router_table.specs.Items.{item_at}
use Rattle.router_table.specs.Laws.{ApartIsUnreachable, HandingEnds, TablesCarry}
use Rattle.router_table.specs.Table.{IsTableOf, Table, entry_for, shown, shown_entry, table_at, tree_entry}

-- ---- the table of a scheme's node

same_records : (r : ℕ) (es : List Entry) → option_map (λ e. e.tree_record) (item_at (λ e. e.root) r (map tree_entry es)) ≡ option_map (λ e. e.tree_record) (first_entry r es)
same_records r [] = refl
same_records r (e ∷ es) =
    elim (e.root == r) as (λ b. option_map (λ e. e.tree_record) (cond b (Some (tree_entry e)) (item_at (λ e. e.root) r (map tree_entry es))) ≡ option_map (λ e. e.tree_record) (cond b (Some e) (first_entry r es))) [
      | true ↦ refl
      | false ↦ same_records r es
    ]

same_labels : (v : ℕ) (ms : List Listed) → option_map (λ m. m.label) (item_at (λ m. m.node) v ms) ≡ first_listed v ms
same_labels v [] = refl
same_labels v (m ∷ ms) = elim (m.node == v) as (λ b. option_map (λ m. m.label) (cond b (Some m) (item_at (λ m. m.node) v ms)) ≡ cond b (Some m.label) (first_listed v ms)) [ true ↦ refl | false ↦ same_labels v ms ]

pub is_table_of : (p : Parts) (x : ℕ) → IsTableOf (tables p) x (table_at p x)
is_table_of p x = record {
  node = refl;
  nodes = refl;
  generation = refl;
  home = refl;
  ports = λ port. refl;
  records = λ r. same_records r (entries_at p x);
  labels = λ v. same_labels v (directory_at p x);
}

-- ---- by a table as by all tables

record_there : (o : Option TreeEntry) (q : Option Entry) → option_map (λ e. e.tree_record) o ≡ option_map (λ e. e.tree_record) q → is_some (option_map shown_entry o) ≡ is_some q
record_there None None e = refl
record_there None (Some f) e = cc
record_there (Some f) None e = cc
record_there (Some f) (Some g) e = refl

-- at x a table and the tables of all nodes differ in no more than what entries tell beside their records
module _ (t : Tables) (x : ℕ) (a : Table) (h : IsTableOf t x a) where
  abbrev half : Tables
  half = record (shown a) { nodes = t.nodes; generation = t.generation; over = λ _ port. t.over x port; listed = λ _ node. t.listed x node }

  seen : shown a ≡ half
  seen = λ i. record (shown a) { nodes = h.nodes i; generation = h.generation i; over = λ _ port. h.ports port i; listed = λ _ node. h.labels node i }

  by_home : (to : Address) (o : Option Home) → through_home half x to o ≡ through_home t x to o
  by_home to None = refl
  by_home to (Some home) = rw (record_there (entry_for a home.landmark) (t.entry x home.landmark) (h.records home.landmark)) refl

  by_list : (to : Address) (o : Option Label) → by_directory half x to o ≡ by_directory t x to o
  by_list to None = by_home to to.home
  by_list to (Some l) = refl

  by_step : (k : Packet) (s : Step) → move_by half x k s ≡ move_by t x k s
  by_step k arrived = refl
  by_step k s = refl

  by_entry : (k : Packet) (o : Option TreeEntry) (q : Option Entry) → option_map (λ e. e.tree_record) o ≡ option_map (λ e. e.tree_record) q → move_at half x k (option_map shown_entry o) ≡ move_at t x k q
  by_entry k None None e = refl
  by_entry k None (Some f) e = cc
  by_entry k (Some f) None e = cc
  by_entry k (Some f) (Some g) e =
      let same : f.tree_record ≡ g.tree_record = cc in
      by_step k (step (record_of f.tree_record) k.label) ∙ ap (λ (r : Record). move_by t x k (step (record_of r) k.label)) same

pub same_launch : (t : Tables) (x : ℕ) (a : Table) (to : Address) → IsTableOf t x a → launched a to ≡ decide t x to
same_launch t x a to h =
    ap (λ (y : ℕ). decide (shown a) y to) h.node ∙ ap (λ (s : Tables). decide s x to) (seen t x a h)
    ∙ ap (λ (r : Result Packet Refused). cond (nat_lt x t.nodes && nat_lt to.node t.nodes) r (Err NoNode)) (by_list t x a h to (t.listed x to.node))

pub same_hop : (t : Tables) (x : ℕ) (a : Table) (k : Packet) → IsTableOf t x a → hopped a k ≡ node_step t x k
same_hop t x a k h =
    ap (λ (y : ℕ). node_step (shown a) y k) h.node ∙ ap (λ (s : Tables). node_step s x k) (seen t x a h)
    ∙ ap (λ (r : Result Move Refused). cond (nat_lt x t.nodes) (cond (nat_lt k.hops_left t.nodes) r (Err Stray)) (Err NoNode)) (by_entry t x a h k (entry_for a k.root) (t.entry x k.root) (h.records k.root))

-- ---- from table to table

-- who answers a packet is a node
answers_inside : (t : Tables) (x : ℕ) (k : Packet) (r : Move) → node_step t x k ≡ Ok r → x < t.nodes
answers_inside t x k r e = elim (cases_lt x t.nodes) [
  | inl lt ↦ lt
  | inr le ↦ absurd (let f = rw (le-ltb x t.nodes le) at e in cc)
]

hands : (t : Tables) (router : ℕ → Table) → AreTablesOf t router → (x : ℕ) (ys qs : List ℕ) (k : Packet) → Carries t x ys qs k → Hands router x ys qs k
hands t router each x [] [] k c = same_hop t x (router x) k (each x (answers_inside t x k Delivered c)) ∙ c
hands t router each x [] (q ∷ qs) k c = c
hands t router each x (y ∷ ys) [] k c = c
hands t router each x (y ∷ ys) (q ∷ qs) k c = (same_hop t x (router x) k (each x (answers_inside t x k (Forward q y (one_less k)) c.0)) ∙ c.0, hands t router each y ys qs (one_less k) c.1)

pub tables_carry : TablesCarry
tables_carry m t router serves each u v xs i j walk =
    let arrives = serves.connected u v xs i j walk in
    record {
      sent = arrives.sent;
      trip = arrives.trip;
      ports = arrives.ports;
      is_sent = same_launch t u (router u) (address t v) (each u (subst (λ n. u < n) (sym serves.nodes) i)) ∙ arrives.decided;
      handed = hands t router each u arrives.trip arrives.ports arrives.sent arrives.carried;
      lead = arrives.lead;
      good = arrives.good;
    }

pub apart_is_unreachable : ApartIsUnreachable
apart_is_unreachable m t router serves each u v i j none =
    same_launch t u (router u) (address t v) (each u (subst (λ n. u < n) (sym serves.nodes) i)) ∙ serves.apart u v i j none

-- ---- to an end

handed_less : (tables : List Table) (k left : Packet) → WasHanded tables k left → length tables + left.hops_left ≡ k.hops_left
handed_less [] k left same = (let e = ap (λ (p : Packet). p.hops_left) same in omega (arith, e))
handed_less (a ∷ others) k left (q, next, given, stepped, rest) =
    let f = forward_is (shown a) a.head.node k q next given stepped in
    let hops : given.hops_left ≡ k.hops_left - 1 = ap (λ (p : Packet). p.hops_left) f.less in
    let some = f.some in
    let after = handed_less others given left rest in
    omega (arith, hops, some, after)

pub handing_ends : HandingEnds
handing_ends a others k left handed =
    let f = forward_is (shown a) a.head.node k handed.0 handed.1 handed.2 handed.3 in
    let below = f.below in
    let all = handed_less (a ∷ others) k left handed in
    (omega (arith, below, all), all)
