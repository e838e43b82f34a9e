use Rattle.std.proofs.Common.{rules, ◌≡◌, ◌∙◌, ◌++◌, ◌∷◌, [], ap, sym, subst, List, reverse}
use Rattle.event_model.specs.declared.event.Event.{Event}
use Rattle.rehearsal_syntax.specs.declared.stage.Stage.TheVariants.{Living}
use Rattle.rehearsal_syntax.specs.Grammar.{MayStand}
use Rattle.rehearsals.specs.Asked.{AskFor}
use Rattle.rehearsals.proofs.AskedOrders.{is_event, life_more, none_before, stands_taken, whole_more}
use Rattle.rehearsals.proofs.asked.lives_behind.Goals as goal

pub life_of-requires : goal.life_of-requires
life_of-requires c =
    subst (MayStand (Living c.args.nodes)) c.in-Life.is (stands_taken c.args.nodes c.args.lines.items c.loop-line.lines.items c.pop.new.self.items c.loop-line.invariant.behind c.in-Some.line c.loop-line.invariant.whole c.in-Some.ensures.items c.requires)

pub loop-line-preserved-in-Life : goal.loop-line-preserved-in-Life
loop-line-preserved-in-Life c =
    let i = c.loop-line.invariant in
    let line = c.in-Some.line in
    let has = c.in_ok-life_of-in-Life.ensures.events ∙ c.reverse.ensures.items in
    let asked = life_more c.args.nodes line c.in-Life.life c.in_ok-life_of-in-Life.field-0 i.behind c.loop-line.events.items c.loop-line.lives.items c.push-in-Life.new.self.items c.in-Life.is c.in_ok-life_of-in-Life.ensures.set has c.in_ok-push-in-Life.ensures.items i.asked in
    record {
      behind = line ∷ i.behind;
      whole = whole_more c.args.lines.items c.loop-line.lines.items c.pop.new.self.items i.behind line i.whole c.in-Some.ensures.items;
      asked = subst (λ (es : List Event). AskFor c.args.nodes (line ∷ i.behind) es (reverse c.push-in-Life.new.self.items)) (sym (ap reverse c.new-events-in-Life.ensures.items)) asked;
    }

pub event_of-requires : goal.event_of-requires
event_of-requires c =
    let one = stands_taken c.args.nodes c.args.lines.items c.loop-line.lines.items c.pop.new.self.items c.loop-line.invariant.behind c.in-Some.line c.loop-line.invariant.whole c.in-Some.ensures.items c.requires in
    is_event c.args.nodes c.in-Some.line one c.in_default-line.not-Life

pub returns : goal.returns
returns c =
    let i = c.loop-line.invariant in
    let none : c.loop-line.lines.items ≡ [] = search rules in
    let all : i.behind ≡ c.args.lines.items = sym (ap (λ ls. ls ++ i.behind) none) ∙ i.whole in
    let asked = subst (λ ls. AskFor c.args.nodes ls (reverse c.loop-line.events.items) (reverse c.loop-line.lives.items)) all i.asked in
    subst (AskFor c.args.nodes c.args.lines.items []) (sym c.reverse-2.ensures.items) (none_before c.args.nodes c.args.lines.items (reverse c.loop-line.events.items) (reverse c.loop-line.lives.items) c.requires asked)
