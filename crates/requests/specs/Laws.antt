-- What rising tickets are good for.
use Rattle.std.specs.Prelude.{◌≡◌, ◌<◌, ◌≤◌, ◌↔◌, ℕ, List, [], ◌∷◌, ◌++◌, length, take}
use Rattle.requests.specs.Tickets.{sessions, last_of, tickets_after, Rises, times, IsLast, NoneOf}

-- pairs leave as many last tickets as there were
abbrev pub StaysWide : Type 0
StaysWide = (tickets : List ℕ) (pairs : List (ℕ × ℕ)) → length (tickets_after tickets pairs) ≡ length tickets

-- the last tickets after two lists of pairs are those after the second, from those after the first
abbrev pub TicketsInParts : Type 0
TicketsInParts = (tickets : List ℕ) (first second : List (ℕ × ℕ)) → tickets_after tickets (first ++ second) ≡ tickets_after (tickets_after tickets first) second

-- two lists of pairs rise together exactly where the first rises, and the second does from there
abbrev pub RisesInParts : Type 0
RisesInParts = (tickets : List ℕ) (first second : List (ℕ × ℕ)) → Rises tickets (first ++ second) ↔ (Rises tickets first × Rises (tickets_after tickets first) second)

-- a beginning of pairs that rise rises
abbrev pub BeginningRises : Type 0
BeginningRises = (tickets : List ℕ) (n : ℕ) (pairs : List (ℕ × ℕ)) → Rises tickets pairs → Rises tickets (take n pairs)

-- one pair more rises where its ticket is above its session's last one
abbrev pub NextRises : Type 0
NextRises = (tickets : List ℕ) (pairs : List (ℕ × ℕ)) (s t : ℕ) → Rises tickets pairs → s < sessions → last_of (tickets_after tickets pairs) s < t → Rises tickets (pairs ++ (s, t) ∷ [])

-- a session's ticket stands among rising pairs at most once, and only above the session's last one before
abbrev pub EachOnce : Type 0
EachOnce = (tickets : List ℕ) (pairs : List (ℕ × ℕ)) → length tickets ≡ sessions → Rises tickets pairs → (s t : ℕ) → (times s t pairs ≤ 1) × (0 < times s t pairs → last_of tickets s < t)

-- a session's last ticket after rising pairs is its greatest
abbrev pub LastIsGreatest : Type 0
LastIsGreatest = (tickets : List ℕ) (pairs : List (ℕ × ℕ)) → length tickets ≡ sessions → Rises tickets pairs → (s : ℕ) → IsLast tickets pairs s (last_of (tickets_after tickets pairs) s)

-- a session whose last ticket hasn't risen has none among the pairs
abbrev pub NoneLater : Type 0
NoneLater = (tickets : List ℕ) (pairs : List (ℕ × ℕ)) → length tickets ≡ sessions → Rises tickets pairs → (s : ℕ) → last_of (tickets_after tickets pairs) s ≤ last_of tickets s → NoneOf s pairs
