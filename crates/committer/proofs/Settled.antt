-- What a list of marks and a state have to do with a group, so that the one may be told and the other be stored.
use Rattle.std.proofs.Common.{◌≡◌, ℕ, ◌+◌, List, map, fold}
use Rattle.std.specs.List.{range_with_len}
use Rattle.layout_2.specs.State.{State, asked}
use Rattle.requests.specs.declared.request.Request.{Request}
use Rattle.generations.specs.declared.posting.Mark.{Mark}
use Rattle.generations.specs.Notices.{told_to, counts_of}
use Rattle.generations.specs.Boards.{accepting}

-- the marks are those of the requests, so many accept, and then the state is this one
pub record IsSettled (state : State) (held : List Request) (marks : List Mark) (many : ℕ) (next : State) : Type 0 where
  pub each : map told_to marks ≡ asked held
  pub counts : counts_of marks ≡ range_with_len (state.count + 1) many
  pub count : next.count ≡ state.count + many
  pub graph : many ≡ 0 → next.graph ≡ state.graph
  pub tickets : fold accepting state.tickets marks ≡ next.tickets
