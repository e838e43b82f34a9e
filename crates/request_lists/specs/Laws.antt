-- How the lists of a life go on.
use Rattle.std.specs.Prelude.{◌≡◌, ◌≢◌, ◌≤◌, ℕ, List, [], ◌∷◌, ◌++◌, length, take, drop, Bool, true, false, Some}
use Rattle.std.specs.Option.{option_map}
use Rattle.schemes.specs.declared.parts.Parts.{Parts}
use Rattle.schemes.specs.Tables.{tables}
use Rattle.schemes.specs.Service.{Serves}
use Rattle.requests.specs.declared.request.Request.{Request}
use Rattle.layout_2.specs.State.{State, AreInTurn}
use Rattle.generations.specs.declared.posting.Notice.{Notice}
use Rattle.generations.specs.declared.posting.Notice.TheVariants.{Marked, Failed, Built}
use Rattle.generations.specs.Notices.{newest_in}
use Rattle.group_commit.specs.Settling.{settle}
use Rattle.request_lists.specs.declared.builds.Builds.{Builds}
use Rattle.request_lists.specs.declared.builds.Builds.TheVariants.{Beside}
use Rattle.request_lists.specs.Lists.{AreListed, IsAhead}
use Rattle.request_lists.specs.Posted.{ArePosted}

-- a life begins with nothing asked and nothing told
abbrev pub BeginsListed : Type 0
BeginsListed = (builds : Builds) (first : State) (down : Bool) → AreListed builds first [] [] 0 0 first down

-- requests more were let in and left the queue, where all had left it
abbrev pub RequestsTaken : Type 0
RequestsTaken = (builds : Builds) (first : State) (told : List Notice) (asked more : List Request) (done : ℕ) (state : State) (down : Bool) → AreListed builds first told asked done (length asked) state down → AreInTurn first.tickets (asked ++ more)
    → AreListed builds first told (asked ++ more) done (length (asked ++ more)) state down

-- what is held was settled, and its marks are told
abbrev pub MarksTold : Type 0
MarksTold = (builds : Builds) (first : State) (told : List Notice) (asked : List Request) (done taken : ℕ) (state : State) (down : Bool) → AreListed builds first told asked done taken state down → down ≡ false
    → AreListed builds first (told ++ Marked (settle state (drop done (take taken asked))).marks ∷ []) asked taken taken (settle state (drop done (take taken asked))).state down

-- that the device failed is told
abbrev pub FailureTold : Type 0
FailureTold = (builds : Builds) (first : State) (told : List Notice) (asked : List Request) (done taken : ℕ) (state : State) (down : Bool) → AreListed builds first told asked done taken state down → down ≡ false
    → AreListed builds first (told ++ Failed ∷ []) asked done taken state true

-- a generation of the store's state is told, where the newest is another
abbrev pub GenerationTold : Type 0
GenerationTold = (builds : Builds) (first : State) (told : List Notice) (asked : List Request) (done taken : ℕ) (state : State) (down : Bool) (scheme : Parts) → AreListed builds first told asked done taken state down → down ≡ false
    → option_map (λ g. g.0) (newest_in told) ≢ Some state.count → scheme.generation ≡ state.count → Serves state.graph (tables scheme)
    → AreListed builds first (told ++ Built state.count scheme ∷ []) asked done taken state down

-- a generation of an earlier state is told, whose number is above that of the newest: the first so many of the settled requests led to it
abbrev pub EarlierTold : Type 0
EarlierTold = (first : State) (told : List Notice) (asked : List Request) (done taken : ℕ) (state : State) (down : Bool) (at number : ℕ) (scheme : Parts) → AreListed Beside first told asked done taken state down → down ≡ false
    → at ≤ done → number ≡ (settle first (take at asked)).state.count → IsAhead number told → scheme.generation ≡ number → Serves (settle first (take at asked)).state.graph (tables scheme)
    → AreListed Beside first (told ++ Built number scheme ∷ []) asked done taken state down

-- a list whose generations were built in turn is one of any generations
abbrev pub ListedBeside : Type 0
ListedBeside = (builds : Builds) (first : State) (told : List Notice) (asked : List Request) (done taken : ℕ) (state : State) (down : Bool) → AreListed builds first told asked done taken state down → AreListed Beside first told asked done taken state down

-- what was posted goes with the list too, whatever is due behind it
abbrev pub PostedGoesAlong : Type 0
PostedGoesAlong = (builds : Builds) (first : State) (posted due : List Notice) (asked : List Request) (done taken : ℕ) (state : State) (down : Bool) → AreListed builds first (posted ++ due) asked done taken state down → ArePosted builds first asked posted
