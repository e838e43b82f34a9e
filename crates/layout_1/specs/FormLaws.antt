-- What the form of layout 1 keeps.
use Rattle.std.proofs.Common.{refl, arith}
use Rattle.journal.specs.ChangeForm.{change_is_form}
use Rattle.layout_reader.specs.Forms.{IsLayoutForm}
use Rattle.layout_1.specs.Form.{layout_form}

pub layout_is_form : IsLayoutForm layout_form
layout_is_form = record {
  fit = record { nodes = omega arith; edges = omega arith; checkpoint = omega arith; slots = omega arith; journal = omega arith };
  entries_form = change_is_form;
  wide = λ none are. refl;
  same = λ none no are_none are_no text. refl;
  after_none = λ none. refl;
  after_parts = λ none xs ys. refl;
  in_turn_none = λ none. tt;
  in_turn_parts = λ none x ys. (λ h. (tt, tt), λ h. tt);
}
