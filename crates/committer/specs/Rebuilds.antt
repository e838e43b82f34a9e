-- What a rebuild posts.
use Rattle.std.specs.Prelude.{ℕ, ◌≡◌, List, Some}
use Rattle.std.specs.Option.{option_map}
use Rattle.layout_2.specs.State.{State}
use Rattle.schemes.specs.declared.parts.Parts.{Parts}
use Rattle.schemes.specs.Tables.{tables}
use Rattle.schemes.specs.Service.{Serves}
use Rattle.generations.specs.declared.posting.Notice.{Notice}
use Rattle.generations.specs.declared.posting.Notice.TheVariants.{Built}
use Rattle.generations.specs.Notices.{newest_in}
use Rattle.scheme_builds.specs.Schemes.{IsSchemeOf}
use Rattle.committer.specs.Outboxes.{Outgoing, paid, with_posted, with_due}

-- what was due is posted, and then a generation of the state, built by these words
abbrev pub IsBuilt : List ℕ → State → Outgoing → Outgoing → Type 0
IsBuilt words state old new = (scheme : Parts) × (IsSchemeOf state.graph words state.count scheme × (new ≡ with_posted (paid old) (Built state.count scheme)))

-- what was due is posted, and such a generation is due
abbrev pub IsOwed : List ℕ → State → Outgoing → Outgoing → Type 0
IsOwed words state old new = (scheme : Parts) × (IsSchemeOf state.graph words state.count scheme × (new ≡ with_due (paid old) (Built state.count scheme)))

-- the newest generation has this number
abbrev pub IsNumbered : ℕ → List Notice → Type 0
IsNumbered number log = option_map (λ g. g.0) (newest_in log) ≡ Some number

-- the newest generation is that of the state, and its scheme serves the graph
abbrev pub IsServed : State → List Notice → Type 0
IsServed state log = (scheme : Parts) × ((newest_in log ≡ Some (state.count, scheme)) × ∥ Serves state.graph (tables scheme) ∥₁)
