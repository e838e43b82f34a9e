-- What `route`, `check` and `tables` answer of a graph, and of the device that was asked.
use Rattle.std.proofs.Common.{ap, inl, inr, refl, sym, subst, ◌≡◌, ◌∙◌, ℕ, List, Result, Ok, Err, IsErrAnd, IsErrOf, IsTrue}
use Rattle.disk_trait.specs.Disk.{DiskView, IsSameDevice, OnlyRead}
use Rattle.checkpoint.specs.StoreWords.{disk_of, view_of}
use Rattle.checkpoint.specs.declared.store.Store.{Store}
use Rattle.layout_2.specs.State.{State}
use Rattle.value_syntax.specs.declared.words.LandmarkWords.{LandmarkWords}
use Rattle.value_syntax.specs.Words.{IsWithin}
use Rattle.graph_edits.specs.Edges.{Network}
use Rattle.command_output.specs.declared.fault.Fault.{Fault}
use Rattle.command_output.specs.declared.fault.Fault.TheVariants.{Device, NoNode, Words}
use Rattle.device_commands.specs.Openings.{IsOpenFault, OfContent, TellsOf}
use Rattle.file_commands.specs.Queries.{AnswersIn, AnswersOf, AsksDevice, LacksNode, LacksNodeOf, of_generation}

-- the fault that is handed up is the one that came
pub passed_up : {T : Type 0} (r : Result T Fault) (fault other : Fault) → IsErrAnd r (λ e. e ≡ fault) → r ≡ Err other → fault ≡ other
passed_up r fault other by is = sym (subst (λ x. IsErrAnd x (λ e. e ≡ fault)) is by)

-- a disk that came out of a store as it stands was only read
pub only_read : {D : Type 0} {V : _} → (disk back : D) (store : Store D V) → back ≡ disk_of store → OnlyRead (V.view disk) (view_of store) → OnlyRead (V.view disk) (V.view back)
only_read {V = V} disk back store is reads = subst (λ d. OnlyRead (V.view disk) (V.view d)) (sym is) reads

-- ---- of a device

-- an answer is no fault
never_told : {T : Type 0} (x : T) (why : Fault) → ◌≡◌ {A = Result T Fault} (Ok x) (Err why) → ⊥
never_told x why told = absurd (cc)

-- an answer about a state's graph is one about the device that stands for the state
answered_of : {T : Type 0} (asked : LandmarkWords) (IsAnswer : LandmarkWords → State → T → Type 0) (Faults MayFail : LandmarkWords → Fault → Type 0) (disk left : DiskView) (state : State) (found : Result T Fault)
    → AnswersIn state.graph asked (IsAnswer asked state) (Faults asked) found → OfContent disk (λ other. state ≡ other) → (IsTrue disk.keeps_model → OnlyRead disk left) → IsSameDevice disk left
    → ((fault : Fault) (content : List ℕ) → Faults asked fault → TellsOf fault content) → ¬ Faults asked Device → ((fault : Fault) → Faults asked fault → MayFail asked fault)
    → AnswersOf asked IsAnswer MayFail disk left (of_generation state.count found)
answered_of asked IsAnswer Faults MayFail disk left state (Ok x) is one reads ran tells never asks = record {
  generation = λ keeps other stands. ap (λ (s : State). s.count) (one keeps other stands);
  answer = λ keeps other stands. subst (λ (s : State). IsAnswer asked s x) (one keeps other stands) is.answer;
  not_within = λ keeps other stands told. absurd (never_told (state.count, x) Words told);
  of_one = (state, refl, is.answer);
  fault = tt;
  reading = record { tells = λ keeps. tt; device = λ told. absurd (never_told (state.count, x) Device told); reads = reads; ran = ran };
}
answered_of asked IsAnswer Faults MayFail disk left state (Err fault) is one reads ran tells never asks = record {
  generation = λ keeps other stands. tt;
  answer = λ keeps other stands. tt;
  not_within = λ keeps other stands told.
      subst (λ (s : State). ¬ IsWithin asked s.graph.nodes) (one keeps other stands) (is.not_within (ap (λ (f : Fault). Err f) (passed_up (Err fault) fault Words refl told)));
  of_one = tt;
  fault = asks fault is.fault;
  reading = record {
    tells = λ keeps. tells fault disk.content is.fault;
    device = λ told. absurd (never (subst (λ (f : Fault). Faults asked f) (passed_up (Err fault) fault Device refl told) is.fault));
    reads = reads;
    ran = ran;
  };
}

-- .. which was asked, or wasn't opened
pub answers_asked : {T : Type 0} (asked : LandmarkWords) (IsAnswer : LandmarkWords → State → T → Type 0) (Faults MayFail : LandmarkWords → Fault → Type 0) (Gives : Network → ℕ → Result T Fault → Type 0) (disk left : DiskView) (r : Result (ℕ × T) Fault)
    → AsksDevice Gives disk left r → ((state : State) (found : Result T Fault) → Gives state.graph state.count found → AnswersIn state.graph asked (IsAnswer asked state) (Faults asked) found)
    → ((fault : Fault) (content : List ℕ) → Faults asked fault → TellsOf fault content) → ¬ Faults asked Device → ((fault : Fault) → Faults asked fault → MayFail asked fault)
    → ((fault : Fault) → IsOpenFault fault → MayFail asked fault) → AnswersOf asked IsAnswer MayFail disk left r
answers_asked asked IsAnswer Faults MayFail Gives disk left (Ok x) (inl none) so tells never asks opens = absurd none
answers_asked asked IsAnswer Faults MayFail Gives disk left (Err fault) (inl none) so tells never asks opens = record {
  generation = λ keeps state stands. tt;
  answer = λ keeps state stands. tt;
  not_within = λ keeps state stands told. absurd (subst IsOpenFault (passed_up (Err fault) fault Words refl told) none.fault);
  of_one = tt;
  fault = opens fault none.fault;
  reading = record { tells = none.tells; device = λ told. none.device (passed_up (Err fault) fault Device refl told); reads = none.reads; ran = none.ran };
}
answers_asked asked IsAnswer Faults MayFail Gives disk left r (inr is) so tells never asks opens =
    subst (λ a. AnswersOf asked IsAnswer MayFail disk left a) (sym is.answered)
    (answered_of asked IsAnswer Faults MayFail disk left is.state is.found (so is.state is.found is.gives) is.one is.reads is.ran tells never asks)

-- a fault that is told with no generation was the answer
not_found : {T : Type 0} (generation : ℕ) (found : Result T Fault) (why : Fault) → of_generation generation found ≡ Err why → found ≡ Err why
not_found generation (Ok x) why told = absurd (never_told (generation, x) why told)
not_found generation (Err fault) why told = ap (λ (f : Fault). Err f) (passed_up (Err fault) fault why refl told)

-- where the state lacks a node, so does what the device stands for
pub lacks_asked : {T : Type 0} (asked : LandmarkWords) (pairs : List (ℕ × ℕ)) (Gives : Network → ℕ → Result T Fault → Type 0) (disk left : DiskView) (r : Result (ℕ × T) Fault) → AsksDevice Gives disk left r
    → ((state : State) (found : Result T Fault) → Gives state.graph state.count found → IsErrOf found NoNode → LacksNode asked pairs state.graph.nodes) → LacksNodeOf asked pairs disk r
lacks_asked asked pairs Gives disk left (Ok x) (inl none) so = absurd none
lacks_asked asked pairs Gives disk left (Err fault) (inl none) so = λ keeps state stands told. absurd (subst IsOpenFault (passed_up (Err fault) fault NoNode refl told) none.fault)
lacks_asked asked pairs Gives disk left r (inr is) so = λ keeps state stands told.
    subst (λ (s : State). LacksNode asked pairs s.graph.nodes) (is.one keeps state stands) (so is.state is.found is.gives (not_found is.state.count is.found NoNode (sym is.answered ∙ told)))
