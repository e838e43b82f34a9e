-- What the command prints.
use Rattle.std.specs.Prelude.{◌≡◌, ◌-◌, ℕ, Bool, true, false, not, Option, Some, None, List, [], ◌∷◌, ◌++◌, codes, cond, decimal, string_bytes}
use Rattle.graph_edits.specs.Edges.{Network}
use Rattle.landmark_choice.specs.Choices.{IsChoice, IsFourRoots}
use Rattle.landmark_choice.specs.declared.limits.Limits.{Limits}
use Rattle.lab_landmarks.specs.Lines.{choice_text}
use Rattle.lab_landmarks.specs.Reports.{IsReport}
use Rattle.lab_landmarks.specs.declared.choosing.Chosen.{Chosen}
use Rattle.lab_landmarks.specs.declared.choosing.Wanted.{Wanted}
use Rattle.lab_landmarks.specs.declared.reports.Report.{Report}
use Rattle.lab_parts.specs.Places.{OutputStep, Prints}

-- the limit that is named, or four times the square root of the nodes
abbrev pub IsLimit : Option ℕ → ℕ → ℕ → Type 0
IsLimit (Some named) nodes limit = limit ≡ named
IsLimit None nodes limit = IsFourRoots nodes limit

-- the limits that are asked for in a network of so many nodes
pub record AreLimits (wanted : Wanted) (nodes : ℕ) (limits : Limits) : Type 0 where
  pub entries : IsLimit wanted.most_entries nodes limits.most_entries
  pub landmarks : IsLimit wanted.most nodes limits.most

-- a text where it is asked for
abbrev pub where_asked : Bool → List ℕ → List ℕ
where_asked true text = text
where_asked false text = []

-- the lines of the figures
abbrev pub figures_text : Report → List ℕ
figures_text report = string_bytes report.figures

-- what is printed of a choice and its report: the line of the landmarks, and the figures where they are asked for
abbrev pub printed_text : Wanted → List ℕ → Report → List ℕ
printed_text wanted nodes report = (choice_text nodes ++ 10 ∷ []) ++ where_asked wanted.with_figures (figures_text report)

-- by how much the largest table is over the limit, where limits aren't kept
abbrev pub excess_text : Limits → Report → List ℕ
excess_text limits report = cond report.is_kept [] (codes "tzlab: the largest table has " ++ (decimal report.greatest ++ (codes " entries and members, "
    ++ (decimal (report.greatest - limits.most_entries) ++ (codes " more than " ++ (decimal limits.most_entries ++ 10 ∷ []))))))

-- what is told of a choice and its report: the figures where they aren't printed, and by how much it is over the limit
abbrev pub told_text : Wanted → Limits → Report → List ℕ
told_text wanted limits report = where_asked (not wanted.with_figures) (figures_text report) ++ excess_text limits report

-- these texts are printed and told of a choice within limits, which keeps them or doesn't
pub record IsSaid (m : Network) (generation : ℕ) (wanted : Wanted) (text told : List ℕ) (is_kept : Bool) : Type 0 where
  pub limits : Limits
  pub nodes : List ℕ
  pub report : Report
  pub are_limits : AreLimits wanted m.nodes limits
  pub choice : IsChoice m.nodes limits.most nodes
  pub is_report : IsReport m generation wanted.seed nodes limits report
  pub kept : report.is_kept ≡ is_kept
  pub printed : text ≡ printed_text wanted nodes report
  pub to_tell : told ≡ told_text wanted limits report

-- an answer has these texts
abbrev pub IsAnswer : Network → ℕ → Wanted → Chosen → Type 0
IsAnswer m generation wanted chosen = IsSaid m generation wanted (string_bytes chosen.text) (string_bytes chosen.told) chosen.is_kept

-- the text of a choice was printed
abbrev pub HasChosen : Network → ℕ → Wanted → {W : Type 0} → OutputStep W → Chosen → Type 0
HasChosen m generation wanted out chosen = IsAnswer m generation wanted chosen × Prints out (string_bytes chosen.text)
