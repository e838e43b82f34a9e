-- The changes behind the checkpoint of a device, and their lines.
use Rattle.std.specs.Prelude.{◌≡◌, ◌+◌, ◌-◌, ℕ, List, [], ◌∷◌, ◌++◌, Option, Some, None, codes, decimal, drop, length, flat_map}
use Rattle.graph_edits.specs.declared.edits.Op.{Op}
use Rattle.layout_2.specs.Layout.{journal_of}
use Rattle.layout_2.specs.Records.{Entry, Spells, entries_of}
use Rattle.layout_2.specs.State.{State}
use Rattle.layout_2.specs.Standing.{StandsFor}
use Rattle.value_syntax.specs.OpText.{op_text}
use Rattle.device_info.specs.declared.changes.RecentChanges.{RecentChanges}

-- the changes are those of the records by which the image stands for its state, and those before them are the checkpoint's
pub record AreChangesOf (changes : RecentChanges) (image : List ℕ) : Type 0 where
  pub state : State
  pub stands : StandsFor state image
  pub before : changes.before ≡ stands.base.count
  pub requests : changes.requests.items ≡ entries_of stands.groups

-- these are the requests that the journal of this slot lists
abbrev pub AreListedIn : ℕ → List ℕ → List Entry → Type 0
AreListedIn slot image requests = (groups : List (List Entry)) × Spells (journal_of slot) groups image × (requests ≡ entries_of groups)

-- ---- lines

-- ops, with a blank before each
abbrev pub ops_text : List Op → List ℕ
ops_text ops = flat_map (λ op. 32 ∷ op_text op) ops

-- the line of a request: how many changes were accepted with it, who sent it, and what it asks for
abbrev pub change_line : ℕ → Entry → List ℕ
change_line count request = codes "count=" ++ (decimal count ++ (codes " session=" ++ (decimal request.session
    ++ (codes " ticket=" ++ (decimal request.ticket ++ (ops_text request.change ++ 10 ∷ []))))))

-- the lines of requests, before which so many were accepted
abbrev pub change_lines : ℕ → List Entry → List ℕ
change_lines before [] = []
change_lines before (request ∷ requests) = change_line (before + 1) request ++ change_lines (before + 1) requests

-- how many changes are left out where only so many are asked for
abbrev pub left_out : Option ℕ → List Entry → ℕ
left_out None requests = 0
left_out (Some last) requests = length requests - last

-- the lines of the last changes, of as many as are asked for
abbrev pub last_lines : Option ℕ → RecentChanges → List ℕ
last_lines last changes =
    change_lines (changes.before + left_out last changes.requests.items) (drop (left_out last changes.requests.items) changes.requests.items)
