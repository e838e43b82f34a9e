-- Lives that are armed, and trials of them, one after another.
use Rattle.std.proofs.Common.{◌≡◌, ◌∙◌, refl, sym, ap, subst, ℕ, zero, suc, ◌+◌, ◌-◌, ◌<◌, ◌≤◌, List, [], ◌∷◌, ◌++◌, get_or, length, map, set, take, arith}
use Rattle.std.proofs.Props.{props}
use Rattle.std.proofs.lemmas.List.{map-append, take_more}
use Rattle.disk_trait.specs.declared.disk.Disk.{Ghosts}
use Rattle.disk_trait.specs.declared.memory.MemDisk.{MemDisk}
use Rattle.disk_trait.specs.declared.plan.Plan.{Plan}
use Rattle.disk_trait.specs.declared.plan.Plan.TheVariants.{Stop as StopPlan}
use Rattle.life_chain.specs.declared.life.Life.{Life}
use Rattle.crash_trials.specs.declared.stops.Stop.{Stop}
use Rattle.rehearsals.specs.declared.asked.Rehearsal.{Rehearsal}
use Rattle.crash_trials.specs.declared.trial.StopFound.{StopFound}
use Rattle.crash_trials.specs.Trials.{IsArmed, IsLivedTo, IsStopFound, armed_at, armed_with, planned}

pub set_is : (lives : List Life) (place : ℕ) (plan : Plan) (d : Life) → place < length lives → set lives place (planned plan (get_or lives place d)) ≡ armed_at place plan lives
set_is [] place plan d lt = refl
set_is (life ∷ lives) zero plan d lt = refl
set_is (life ∷ lives) (suc place) plan d lt = ap (λ (l : List Life). life ∷ l) (set_is lives place plan d (omega arith))

-- the plan before doesn't matter
again : (place : ℕ) (plan before : Plan) (lives : List Life) → armed_at place plan (armed_at place before lives) ≡ armed_at place plan lives
again place plan before [] = refl
again zero plan before (life ∷ lives) = refl
again (suc place) plan before (life ∷ lives) = ap (λ (l : List Life). life ∷ l) (again place plan before lives)

some_by : (n : ℕ) → (x y : (1 ≤ n) × (n ≤ 64)) → x ≡ y
some_by n = Prim.hlevel props

-- a life whose plan was written anew
pub written : (life : Life) (plan : Plan) (s : (1 ≤ life.sessions) × (life.sessions ≤ 64)) (r : (1 ≤ life.capacity) × (life.capacity ≤ 64))
    → record { sessions = life.sessions; capacity = life.capacity; words = life.words; events = life.events; plan = plan; word = life.word; some_sessions = s; some_room = r } ≡ planned plan life
written life plan s r = λ i. record (planned plan life) { some_sessions = some_by life.sessions s life.some_sessions i; some_room = some_by life.capacity r life.some_room i }

-- two rehearsals are the same, but for the plan of the last written life
pub record AreAlike (old new : Rehearsal) : Type 0 where
  pub nodes : new.nodes ≡ old.nodes
  pub lives : (plan : Plan) → armed_with plan new.lives.items ≡ armed_with plan old.lives.items

-- so is one that was armed
pub armed_alike : (plan : Plan) (old new : Rehearsal) → IsArmed plan old new → AreAlike old new
armed_alike plan old new armed = record {
  nodes = armed.nodes;
  lives = λ other. ap (λ (n : ℕ). armed_at (n - 2) other new.lives.items) armed.many ∙ ap (λ (lives : List Life). armed_at (length old.lives.items - 2) other lives) armed.lives ∙ again (length old.lives.items - 2) other plan old.lives.items;
}

-- .. and one that was armed after that
pub alike_on : (first old new : Rehearsal) → AreAlike first old → AreAlike old new → AreAlike first new
alike_on first old new was is = record { nodes = is.nodes ∙ was.nodes; lives = λ plan. is.lives plan ∙ was.lives plan }

-- what lives that another plan has armed come to is what these come to
pub moved : (model : Ghosts MemDisk) (first now : Rehearsal) (found : StopFound) → AreAlike first now → IsStopFound model now found → IsStopFound model first found
moved model first now found alike is =
    let plan : Plan = StopPlan found.stop.call found.stop.put in
    subst (λ (lives : List Life). IsLivedTo model first.nodes lives found.kind) (alike.lives plan)
    (subst (λ (n : ℕ). IsLivedTo model n (armed_with plan now.lives.items) found.kind) alike.nodes is)

-- one trial more
pub one_more : (stops : List Stop) (i : ℕ) (stop : Stop) (tried new : List StopFound) (found : StopFound) → i < length stops → stop ≡ get_or stops i stop → found.stop ≡ stop → map (λ trial. trial.stop) tried ≡ take i stops → new ≡ tried ++ found ∷ []
    → map (λ trial. trial.stop) new ≡ take (i + 1) stops
one_more stops i stop tried new found within at here was is =
    let stop_of : StopFound → Stop = λ trial. trial.stop in
    ap (λ (l : List StopFound). map stop_of l) is ∙ map-append stop_of tried (found ∷ [])
    ∙ ap (λ (l : List Stop). l ++ found.stop ∷ []) was ∙ ap (λ (s : Stop). take i stops ++ s ∷ []) (here ∙ at) ∙ sym (take_more stops i stop within)
