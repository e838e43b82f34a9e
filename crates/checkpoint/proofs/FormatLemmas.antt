-- What a fresh device stands for.
use Rattle.std.proofs.Common.{◌≡◌, ℕ, zero, suc, ◌+◌, ◌≤◌, List, [], ◌∷◌, ◌++◌, length, get_or, replicate, Some, None, refl, sym, ◌∙◌, ap, arith, lit<, lit≤}
use Rattle.std.specs.FinMap.{empty, get, get-empty}
use Rattle.std.specs.Int.{w16, w32, w64, to_be_bytes}
use Rattle.std.specs.List.{flat_map, AllByRecursion}
use Rattle.disk_trait.specs.Disk.{bytes_at, overwritten}
use Rattle.graph_edits.specs.Edges.{pair_cmp}
use Rattle.layout_2.specs.Layout.{device_len, worn_limit, most_nodes, sessions, header, journal_start, slot_start}
use Rattle.layout_2.specs.State.{first_state, checkpoint_text, tickets_text, edge_text, IsLawful, AreTickets}
use Rattle.layout_reader.specs.Heads.{head_text}
use Rattle.checkpoint.specs.Formatting.{first_slot}
use Rattle.layout_2.specs.Slots.{HasCheckpoint}
use Rattle.layout_2.specs.Standing.{StandsFor}
use Rattle.layout_reader.proofs.EdgeLemmas.{no_entries}
use Rattle.layout_2.proofs.Texts.{length_text}
use Rattle.layout_2.proofs.Folds.{after-nil}
use Rattle.layout_reader.proofs.HeadLemmas.{gate_and}

-- bytes written, and then others
pub written_twice : (v0 v1 v2 : List ℕ) (a b : ℕ) (xs ys first second : List ℕ) → v1 ≡ overwritten v0 a xs → v2 ≡ overwritten v1 b ys → xs ≡ first → ys ≡ second
    → v2 ≡ overwritten (overwritten v0 a first) b second
written_twice v0 v1 v2 a b xs ys first second one two is_first is_second =
    two ∙ ap (λ (l : List ℕ). overwritten v1 b l) is_second ∙ ap (λ (l : List ℕ). overwritten l b second) (one ∙ ap (λ (l : List ℕ). overwritten v0 a l) is_first)

first_lawful : (nodes : ℕ) → 1 ≤ nodes → nodes ≤ most_nodes → IsLawful (first_state nodes).graph
first_lawful nodes some few = record {
  some_nodes = some;
  few_nodes = few;
  few_edges = omega (arith, ap length no_entries);
  each = λ pair weight is. absurd (none pair weight is);
}
  where
    none : (pair : ℕ × ℕ) (weight : ℕ) → get (empty {K = ℕ × ℕ} {X = ℕ} {R = pair_cmp}) pair ≡ Some weight → ⊥
    none pair weight is = let clash : None ≡ Some weight = sym (get-empty pair_cmp pair) ∙ is in cc

-- ---- the front of a fresh slot

first_size : (nodes : ℕ) → length (checkpoint_text 1 (first_state nodes)) ≡ 534
first_size nodes = omega (arith, length_text 1 (first_state nodes) refl, ap length no_entries)

pub length_first : (nodes : ℕ) → length (first_slot nodes) ≡ 535
length_first nodes = ap suc (first_size nodes)

-- a head, and zeros behind it
pub headed : (nodes : ℕ) (head : List ℕ) → head ≡ 1 ∷ head_text 1 0 nodes 0 → head ++ replicate 512 0 ≡ first_slot nodes
headed nodes head is =
    let text : List ((ℕ × ℕ) × ℕ) → List ℕ = λ es.
    1 ∷ (to_be_bytes w64 1 ++ (to_be_bytes w64 0 ++ (to_be_bytes w16 nodes ++ (to_be_bytes w32 (length es) ++ (tickets_text (replicate sessions 0) ++ flat_map edge_text es))))) in
    ap (λ (l : List ℕ). l ++ replicate 512 0) is ∙ ap text (sym no_entries)

first_tickets : (nodes : ℕ) → AreTickets (first_state nodes).tickets
first_tickets nodes = record { wide = refl; fit = zeros sessions }
  where
    zeros : (n : ℕ) → AllByRecursion (λ ticket. ticket ≤ worn_limit) (replicate n 0)
    zeros zero = tt
    zeros (suc n) = (omega arith, zeros n)

module _ (nodes : ℕ) (some : 1 ≤ nodes) (few : nodes ≤ most_nodes) (image : List ℕ) (long : length image ≡ device_len) (front : bytes_at image 0 10 ≡ header nodes)
    (there : bytes_at image (slot_start 0) 535 ≡ first_slot nodes) (journal : get_or image (journal_start 0) 1 ≡ 0) (closed : get_or image (slot_start 1) 0 ≡ 0) where
  both_there : (get_or image (slot_start 0) 0 ≡ 1) × (bytes_at image (slot_start 0 + 1) 534 ≡ checkpoint_text 1 (first_state nodes))
  both_there = let two = gate_and image (first_slot nodes) (slot_start 0) 534 (sym there) in (two.0, two.1)

  text_there : HasCheckpoint 0 1 (first_state nodes) image
  text_there = ap (bytes_at image (slot_start 0 + 1)) (first_size nodes) ∙ both_there.1

  pub fresh_stands : StandsFor (first_state nodes) image
  fresh_stands = record {
    slot = 0;
    epoch = 1;
    base = first_state nodes;
    groups = [];
    is_slot = omega arith;
    by = record {
      as_long = long;
      head = front;
      gate = both_there.0;
      text = text_there;
      lawful = first_lawful nodes some few;
      tickets = first_tickets nodes;
      epoch_fits = lit≤ tt;
      older = λ is_open. absurd (let clash : 0 ≡ 1 = sym closed ∙ is_open in omega arith);
      records = record {
        each = tt;
        open_records = refl;
        gate = λ one. let clash : 0 ≡ 1 = sym journal ∙ one in omega arith;
        within = lit< tt;
      };
    };
    folds = after-nil (first_state nodes);
    in_turn = (tt, tt);
    count_fits = lit≤ tt;
  }
