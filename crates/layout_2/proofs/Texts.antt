-- The sizes of a checkpoint's text.
use Rattle.std.proofs.Common.{◌≡◌, ℕ, ◌+◌, ◌*◌, ◌<◌, length}
use Rattle.std.specs.FinMap.{entries}
use Rattle.layout_reader.proofs.Texts as parts
use Rattle.layout_2.specs.Layout.{checkpoint_room, tickets_len, sessions}
use Rattle.layout_2.specs.State.{State, checkpoint_text, IsLawful}
use Rattle.layout_2.specs.Form.{layout_form}
use Rattle.layout_2.specs.FormLaws.{layout_is_form}
use Rattle.layout_2.specs.TicketTexts.{tickets_wide}

pub length_text : (epoch : ℕ) (state : State) → length state.tickets ≡ sessions → length (checkpoint_text epoch state) ≡ 22 + (tickets_len + 8 * length (entries state.graph.edges))
length_text epoch state wide = parts.length_text layout_form epoch state (tickets_wide state.tickets wide)

-- it fits in its area
pub text_fits : (epoch : ℕ) (state : State) → length state.tickets ≡ sessions → IsLawful state.graph → length (checkpoint_text epoch state) < checkpoint_room
text_fits epoch state wide lawful = parts.text_fits layout_form layout_is_form epoch state (tickets_wide state.tickets wide) lawful
