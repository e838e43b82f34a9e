-- How what a committer took, what it holds, what it posted and the state of its store go together.
use Rattle.std.specs.Prelude.{ℕ, ◌≡◌, ◌+◌, ◌-◌, ◌≤◌, ◌++◌, Bool, List, length, map, fold, take, Option, Some, refl}
use Rattle.std.specs.Coded.{Coded, coded×, coded_ℕ, coded_list, code_by}
use Rattle.std.specs.Option.{option_map}
use Rattle.graph_edits.specs.Edges.{Network, network_code}
use Rattle.checkpoint.specs.Kept.{kept_props}
use Rattle.layout_2.specs.State.{State, asked}
use Rattle.schemes.specs.declared.parts.Parts.{Parts}
use Rattle.schemes.specs.Tables.{tables}
use Rattle.schemes.specs.Service.{Serves}
use Rattle.requests.specs.Tickets.{Rises}
use Rattle.requests.specs.declared.request.Request.{Request}
use Rattle.generations.specs.declared.posting.Notice.{Notice}
use Rattle.generations.specs.Notices.{told_to, counts_of, marks_in, newest_in, says_down}
use Rattle.generations.specs.Beginnings.{Opening}
use Rattle.generations.specs.Boards.{accepting}
use Rattle.generations.specs.Lawful.{IsLawful}
use Rattle.group_commit.specs.Settling.{settle}

-- What was taken, what is held, what is posted and what is due behind it (the log), and the store's state go together.
pub record IsTied (opening : Opening) (log : List Notice) (newest : Option ℕ) (held got : List Request) (state : State) (down : Bool) : Type 0 where
  pub lawful : IsLawful opening.starts opening.count log
  -- what was taken is in each editor's order
  pub rises : Rises opening.starts (asked got)
  -- each request that was taken has its mark, or is held
  pub told : map told_to (marks_in log) ++ asked held ≡ asked got
  -- the Accepted counts end at the store's
  pub counted : opening.count + length (counts_of (marks_in log)) ≡ state.count
  -- the Accepted tickets are the store's last ones
  pub tickets : fold accepting opening.starts (marks_in log) ≡ state.tickets
  pub is_down : says_down log ≡ down
  pub newest_is : newest ≡ option_map (λ g. g.0) (newest_in log)
  -- no generation is ahead of the store
  pub behind : (g : ℕ × Parts) → newest_in log ≡ Some g → g.0 ≤ state.count
  -- the newest generation serves the store's graph, as long as nothing was accepted since
  pub serves : (g : ℕ × Parts) → newest_in log ≡ Some g → g.0 ≡ state.count → ∥ Serves state.graph (tables g.1) ∥₁

-- of what was taken, the requests before those that are held
abbrev pub before_held : List Request → List Request → List Request
before_held held got = take (length got - length held) got

-- What is held was taken last, and settling what was taken before led from the first state to this one.
pub record IsLed (first : State) (held got : List Request) (state : State) : Type 0 where
  pub last : before_held held got ++ held ≡ got
  pub led : state ≡ (settle first (before_held held got)).state

-- a state is stored as its fields
abbrev pub state_code : Coded State
state_code =
    code_by (ℕ × (Network × List ℕ)) (coded× coded_ℕ (coded× network_code (coded_list coded_ℕ))) (λ s. (s.count, (s.graph, s.tickets))) (λ p. record { count = p.0; graph = p.1.0; tickets = p.1.1 }) (λ _. refl)

pub ruleset led_props = (kept_props, state_code)
