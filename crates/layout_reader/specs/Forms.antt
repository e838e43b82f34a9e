-- What a layout is: its sizes, what the entries of its journal change, and its tickets.
use Rattle.std.specs.Prelude.{◌≡◌, ◌↔◌, ℕ, List, [], ◌∷◌, ◌++◌, length}
use Rattle.graph_edits.specs.declared.edits.Op.{Op}
use Rattle.journal.specs.Forms.{EntryForm, IsForm}
use Rattle.layout_reader.specs.declared.sizes.Sizes.{Sizes}
use Rattle.layout_reader.specs.Sizes.{AreSizes}

-- the form of a layout whose journal has entries of this form, and whose checkpoints hold tickets of type T
pub record LayoutForm {E : Type 0} (entries : EntryForm E) (T : Type 0) : Type 1 where
  pub sizes : Sizes
  -- what an entry changes
  pub change_of : E → List Op
  -- the text of tickets
  pub tickets_text : T → List ℕ
  -- what tickets may be
  pub AreTickets : T → Type 0
  -- the tickets after entries
  pub tickets_after : T → List E → T
  -- entries may come in this order, from tickets on
  pub AreInTurn : T → List E → Type 0

-- no tickets have this text
abbrev pub SpellsNoTickets : {E T : Type 0} {entries : EntryForm E} → LayoutForm entries T → List ℕ → Type 0
SpellsNoTickets {T = T} form text = (tickets : T) → form.AreTickets tickets → form.tickets_text tickets ≡ text → ⊥

-- what a form keeps
pub record IsLayoutForm {E T : Type 0} {entries : EntryForm E} (form : LayoutForm entries T) : Type 0 where
  pub fit : AreSizes form.sizes
  pub entries_form : IsForm entries
  -- the texts of tickets are equally long, and tickets with the same text are the same
  pub wide : (tickets : T) → form.AreTickets tickets → length (form.tickets_text tickets) ≡ form.sizes.tickets_len
  pub same : (ts us : T) → form.AreTickets ts → form.AreTickets us → form.tickets_text ts ≡ form.tickets_text us → ts ≡ us
  -- entries are taken part by part
  pub after_none : (tickets : T) → form.tickets_after tickets [] ≡ tickets
  pub after_parts : (tickets : T) (xs ys : List E) → form.tickets_after tickets (xs ++ ys) ≡ form.tickets_after (form.tickets_after tickets xs) ys
  pub in_turn_none : (tickets : T) → form.AreInTurn tickets []
  pub in_turn_parts : (tickets : T) (x : E) (ys : List E) → form.AreInTurn tickets (x ∷ ys) ↔ (form.AreInTurn tickets (x ∷ []) × form.AreInTurn (form.tickets_after tickets (x ∷ [])) ys)
