-- Lines of a rehearsal that stand behind others.
use Rattle.std.proofs.Common.{◌≡◌, ◌∙◌, refl, sym, ap, subst, ℕ, List, [], ◌∷◌, ◌++◌, append_assoc, reverse}
use Rattle.std.proofs.lemmas.List.{reverse-append}
use Rattle.event_model.specs.declared.event.Event.{Event}
use Rattle.life_chain.specs.declared.life.Life.{Life}
use Rattle.rehearsal_syntax.specs.declared.line.LifeLine.{LifeLine}
use Rattle.rehearsal_syntax.specs.declared.line.RehearsalLine.{RehearsalLine}
use Rattle.rehearsal_syntax.specs.declared.line.RehearsalLine.TheVariants as written
use Rattle.rehearsal_syntax.specs.declared.stage.Stage.TheVariants.{Made, Living}
use Rattle.rehearsal_syntax.specs.Grammar.{IsEvent, MayStand, StandFrom}
use Rattle.rehearsals.specs.Asked.{AskFor, IsSetAs}

-- behind a life each line is a life or an event
lives_at : (nodes : ℕ) (before : List RehearsalLine) (line : RehearsalLine) (behind : List RehearsalLine) → StandFrom (Living nodes) (before ++ line ∷ behind) → MayStand (Living nodes) line
lives_at nodes [] line behind stand = stand.0
lives_at nodes (l ∷ ls) line behind stand = lives_at nodes ls line behind stand.1

-- so it is behind a device
stands_at : (nodes : ℕ) (before : List RehearsalLine) (line : RehearsalLine) (behind : List RehearsalLine) → StandFrom (Made nodes) (before ++ line ∷ behind) → MayStand (Living nodes) line
stands_at nodes [] (written.Life life) behind stand = stand.0
stands_at nodes [] line behind stand = absurd (stand.0)
stands_at nodes (l ∷ ls) line behind stand = lives_at nodes ls line behind stand.1

-- the line that is taken from the end of those that are left
pub whole_more : (all left before behind : List RehearsalLine) (line : RehearsalLine) → left ++ behind ≡ all → left ≡ before ++ line ∷ [] → before ++ line ∷ behind ≡ all
whole_more all left before behind line whole taken = sym (append_assoc before (line ∷ []) behind) ∙ ap (λ ls. ls ++ behind) (sym taken) ∙ whole

pub stands_taken : (nodes : ℕ) (all left before behind : List RehearsalLine) (line : RehearsalLine) → left ++ behind ≡ all → left ≡ before ++ line ∷ [] → StandFrom (Made nodes) all → MayStand (Living nodes) line
stands_taken nodes all left before behind line whole taken stand =
    stands_at nodes before line behind (subst (StandFrom (Made nodes)) (sym (whole_more all left before behind line whole taken)) stand)

-- a life takes the events behind its line
pub life_more : (nodes : ℕ) (line : RehearsalLine) (life : LifeLine) (made : Life) (behind : List RehearsalLine) (events : List Event) (lives more : List Life) → line ≡ written.Life life → IsSetAs nodes life made → made.events.items ≡ reverse events → more ≡ lives ++ made ∷ []
    → AskFor nodes behind (reverse events) (reverse lives) → AskFor nodes (line ∷ behind) [] (reverse more)
life_more nodes line life made behind events lives more is set has grown asked =
    let first : AskFor nodes (written.Life life ∷ behind) [] (made ∷ reverse lives) = (set, subst (λ es. AskFor nodes behind es (reverse lives)) (sym has) asked) in
    let all : reverse more ≡ made ∷ reverse lives = ap reverse grown ∙ reverse-append lives (made ∷ []) in
    subst (λ (l : RehearsalLine). AskFor nodes (l ∷ behind) [] (reverse more)) (sym is) (subst (AskFor nodes (written.Life life ∷ behind) []) (sym all) first)

-- no event stands before the first life
pub none_before : (nodes : ℕ) (lines : List RehearsalLine) (events : List Event) (lives : List Life) → StandFrom (Made nodes) lines → AskFor nodes lines events lives → AskFor nodes lines [] lives
none_before nodes lines [] lives stand asked = asked
none_before nodes [] (e ∷ es) lives stand asked = absurd (asked)
none_before nodes (written.Life life ∷ lines) (e ∷ es) lives stand asked = absurd (asked.0)
none_before nodes (line ∷ lines) (e ∷ es) lives stand asked = absurd (stand.0)

pub is_event : (nodes : ℕ) (line : RehearsalLine) → MayStand (Living nodes) line → ((life : LifeLine) → line ≡ written.Life life → ⊥) → IsEvent nodes line
is_event nodes (written.Life life) may other = absurd (other life refl)
is_event nodes line may other = may
