-- The form of layout 1: its journal lists accepted changes, and its checkpoints hold no tickets.
use Rattle.std.specs.Prelude.{[]}
use Rattle.journal.specs.ChangeForm.{change_form}
use Rattle.layout_reader.specs.Forms.{LayoutForm}
use Rattle.layout_1.specs.Layout.{sizes}

-- what the reader and the laws of layout_reader are told of layout 1
abbrev pub layout_form : LayoutForm change_form (Unit {0})
layout_form = record {
  sizes = sizes;
  change_of = λ change. change;
  tickets_text = λ none. [];
  AreTickets = λ none. Unit {0};
  tickets_after = λ none changes. none;
  AreInTurn = λ none changes. Unit {0};
}
