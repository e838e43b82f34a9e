-- The sizes of a checkpoint's text.
use Rattle.std.proofs.Common.{◌≡◌, ℕ, ◌+◌, ◌*◌, ◌<◌, List, ◌++◌, length, refl, arith, length-append}
use Rattle.std.specs.List.{flat_map}
use Rattle.std.specs.Int.{w16, w32, w64, to_be_bytes}
use Rattle.byte_forms.specs.FormLaws.{length_items}
use Rattle.std.specs.FinMap.{entries}
use Rattle.journal.specs.Forms.{EntryForm}
use Rattle.layout_reader.specs.EdgeTexts.{edge_text}
use Rattle.layout_reader.specs.Forms.{LayoutForm, IsLayoutForm}
use Rattle.layout_reader.specs.State.{State, state_text, checkpoint_text, IsLawful}

pub length_edges : (es : List ((ℕ × ℕ) × ℕ)) → length (flat_map edge_text es) ≡ 8 * length es
length_edges es = length_items edge_text 8 (λ e. refl) es

module _ {E T : Type 0} {F : EntryForm E} (form : LayoutForm F T) where
  pub length_text : (epoch : ℕ) (state : State T) → length (form.tickets_text state.tickets) ≡ form.sizes.tickets_len → length (checkpoint_text form epoch state) ≡ 22 + (form.sizes.tickets_len + 8 * length (entries state.graph.edges))
  length_text epoch state wide =
      let es = entries state.graph.edges in
      let five = form.tickets_text state.tickets ++ flat_map edge_text es in
      let four = to_be_bytes w32 (length es) ++ five in
      let six = to_be_bytes w16 state.graph.nodes ++ four in
      omega (arith, length-append (to_be_bytes w64 epoch) (state_text form.tickets_text state), length-append (to_be_bytes w64 state.count) six, length-append (to_be_bytes w16 state.graph.nodes) four, length-append (to_be_bytes w32 (length es)) five, length-append (form.tickets_text state.tickets) (flat_map edge_text es), wide, length_edges es)

  -- it fits in its area
  pub text_fits : IsLayoutForm form → (epoch : ℕ) (state : State T) → length (form.tickets_text state.tickets) ≡ form.sizes.tickets_len → IsLawful form.sizes state.graph → length (checkpoint_text form epoch state) < form.sizes.checkpoint_room
  text_fits laws epoch state wide lawful = omega (arith, length_text epoch state wide, lawful.few_edges, laws.fit.checkpoint)
