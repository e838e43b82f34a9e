-- What an answer about a graph promises, of a graph and of a device.
use Rattle.std.specs.Prelude.{◌≡◌, ◌⊎◌, ℕ, Bool, List, Result, Ok, Err, IfErr, IfOk, IsErrAnd, IsErrOf, IsTrue}
use Rattle.std.specs.Borrow.{Bor}
use Rattle.std.specs.Fn.{Once}
use Rattle.std.specs.Global.{Vec}
use Rattle.disk_trait.specs.Disk.{DiskView, IsSameDevice, OnlyRead}
use Rattle.graph_edits.specs.Edges.{Network}
use Rattle.layout_2.specs.State.{State}
use Rattle.schemes.specs.declared.parts.Parts.{Parts}
use Rattle.scheme_builds.specs.declared.queries.Checked.{Checked}
use Rattle.scheme_builds.specs.declared.queries.Route.{Route}
use Rattle.value_syntax.specs.Words.{IsWithin}
use Rattle.value_syntax.specs.declared.words.LandmarkWords.{LandmarkWords}
use Rattle.command_output.specs.declared.fault.Fault.{Fault}
use Rattle.command_output.specs.declared.fault.Fault.TheVariants as told
use Rattle.device_commands.specs.Openings.{IsReading, OfContent, TellsNotOpened}
use Rattle.file_commands.specs.SchemeAnswers.{AreChosenBy, AreNodes, AreRoutesOf, AreRoutesUnder, IsCheckOf, IsSchemeBy}

-- ---- of a graph

-- An answer about a graph under the words that were asked for.
pub record AnswersIn {T : Type 0} (graph : Network) (asked : LandmarkWords)
    (IsAnswer : T → Type 0) (MayFail : Fault → Type 0) (result : Result T Fault) : Type 0 where
  -- what is answered is so
  pub answer : IfOk result IsAnswer
  -- the words aren't understood only where they name a node that the graph hasn't
  pub not_within : IsErrOf result told.Words → ¬ IsWithin asked graph.nodes
  -- whatever is told is one of these faults
  pub fault : IfErr result MayFail

-- the words name nodes of a graph alone, and a pair names a node that it hasn't
abbrev pub LacksNode : LandmarkWords → List (ℕ × ℕ) → ℕ → Type 0
LacksNode asked pairs nodes = IsWithin asked nodes × ¬ AreNodes nodes pairs

-- the routes between these pairs under landmarks that the words choose
abbrev pub AreRoutesBy : Network → List ℕ → List (ℕ × ℕ) → Vec Route → Type 0
AreRoutesBy graph words pairs routes = (flags : List Bool) × AreChosenBy graph.nodes words flags × AreRoutesUnder graph flags pairs routes.items

-- ---- of a state

-- the routes between these pairs in a state's graph
abbrev pub AreRoutesIn : List (ℕ × ℕ) → LandmarkWords → State → Vec Route → Type 0
AreRoutesIn pairs asked state routes = AreRoutesOf state.graph asked pairs routes.items

-- what the checks say of it
abbrev pub IsCheckIn : LandmarkWords → State → Checked → Type 0
IsCheckIn asked state checked = IsCheckOf state.graph state.count asked checked

-- its scheme
abbrev pub IsSchemeIn : LandmarkWords → State → Parts → Type 0
IsSchemeIn asked state p = IsSchemeBy state.graph state.count asked p

-- ---- of a device

-- asked for a graph of this generation, f may answer so
abbrev pub GivesAt : {F T : Type 0} → Once F (Bor Network × (ℕ × Unit {0})) (Result T Fault) → F → Network → ℕ → Result T Fault → Type 0
GivesAt g f graph generation found = (shown : Bor Network) × g.post f (shown, (generation, tt)) found × (shown.now ≡ graph)

-- an answer with its generation
abbrev pub of_generation : {T : Type 0} → ℕ → Result T Fault → Result (ℕ × T) Fault
of_generation generation (Ok found) = Ok (generation, found)
of_generation generation (Err fault) = Err fault

-- This was answered of a state's graph: of that for which the content of the device stands, where it keeps the model. It was only read.
pub record IsAsked {T : Type 0} (Gives : Network → ℕ → Result T Fault → Type 0) (disk left : DiskView) (result : Result (ℕ × T) Fault) : Type 0 where
  pub state : State
  pub found : Result T Fault
  pub gives : Gives state.graph state.count found
  pub answered : result ≡ of_generation state.count found
  pub one : OfContent disk (λ other. state ≡ other)
  pub reads : IsTrue disk.keeps_model → OnlyRead disk left
  pub ran : IsSameDevice disk left

-- or the device isn't opened, and that is told
abbrev pub AsksDevice : {T : Type 0} → (Network → ℕ → Result T Fault → Type 0) → DiskView → DiskView → Result (ℕ × T) Fault → Type 0
AsksDevice Gives disk left result = IsErrAnd result (λ fault. TellsNotOpened disk left fault) ⊎ IsAsked Gives disk left result

-- An answer about a device's graph: where the device keeps the model, the answer is that of the state for which its content stands.
pub record AnswersOf {T : Type 0} (asked : LandmarkWords) (IsAnswer : LandmarkWords → State → T → Type 0)
    (MayFail : LandmarkWords → Fault → Type 0) (disk left : DiskView) (result : Result (ℕ × T) Fault) : Type 0 where
  -- it names the state's generation
  pub generation : OfContent disk (λ state. IfOk result (λ answer. answer.0 ≡ state.count))
  -- and answers about its graph
  pub answer : OfContent disk (λ state. IfOk result (λ answer. IsAnswer asked state answer.1))
  -- the words aren't understood only where they name a node that the state hasn't
  pub not_within : OfContent disk (λ state. IsErrOf result told.Words → ¬ IsWithin asked state.graph.nodes)
  -- also of a disk that doesn't keep the model the answer is that of a state
  pub of_one : IfOk result (λ answer. (state : State) × (answer.0 ≡ state.count) × IsAnswer asked state answer.1)
  -- whatever is told is one of these faults
  pub fault : IfErr result (λ fault. MayFail asked fault)
  -- and the device was only read
  pub reading : IsReading disk left result

-- where the device keeps the model, and a node is told to lack, the state lacks a node of the pairs
abbrev pub LacksNodeOf : {T : Type 0} → LandmarkWords → List (ℕ × ℕ) → DiskView → Result T Fault → Type 0
LacksNodeOf asked pairs disk result = OfContent disk (λ state. IsErrOf result told.NoNode → LacksNode asked pairs state.graph.nodes)
