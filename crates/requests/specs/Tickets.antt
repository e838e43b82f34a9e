-- The last tickets of the sessions, and pairs of a session and a ticket that rise from them.
use Rattle.std.specs.Prelude.{◌≡◌, ◌<◌, ◌≤◌, ◌+◌, ◌==◌, ◌&&◌, cond, ℕ, List, [], ◌∷◌, get_or, set}

-- how many sessions there are
abbrev pub sessions : ℕ
sessions = 64

-- the greatest ticket
abbrev pub worn_limit : ℕ
worn_limit = 9223372036854775807

-- the last ticket of a session, 0 where it has none
abbrev pub last_of : List ℕ → ℕ → ℕ
last_of tickets s = get_or tickets s 0

-- the last tickets with another one of a session
abbrev pub raise : List ℕ → ℕ × ℕ → List ℕ
raise tickets p = set tickets p.0 p.1

-- the last tickets after these pairs
abbrev pub tickets_after : List ℕ → List (ℕ × ℕ) → List ℕ
tickets_after tickets [] = tickets
tickets_after tickets (p ∷ ps) = tickets_after (raise tickets p) ps

-- each ticket is above the last one of its session, from these on
abbrev pub Rises : List ℕ → List (ℕ × ℕ) → Type 0
Rises tickets [] = Unit {0}
Rises tickets (p ∷ ps) = (p.0 < sessions) × (last_of tickets p.0 < p.1) × Rises (raise tickets p) ps

-- how often a session's ticket stands among pairs
abbrev pub times : ℕ → ℕ → List (ℕ × ℕ) → ℕ
times s t [] = 0
times s t (p ∷ ps) = cond (p.0 == s && p.1 == t) (1 + times s t ps) (times s t ps)

-- the greatest ticket of a session: those among the pairs are no greater, and it is among them or was the last one before
pub record IsLast (before : List ℕ) (pairs : List (ℕ × ℕ)) (s last : ℕ) : Type 0 where
  pub no_less : last_of before s ≤ last
  pub greatest : (t : ℕ) → 0 < times s t pairs → t ≤ last
  pub there : last_of before s < last → 0 < times s last pairs

-- no pair is of this session
abbrev pub NoneOf : ℕ → List (ℕ × ℕ) → Type 0
NoneOf s [] = Unit {0}
NoneOf s (p ∷ ps) = (p.0 ≡ s → ⊥) × NoneOf s ps
