use Rattle.std.proofs.Common.{◌≡◌, ◌<◌, ℕ, sym, ap, ◌∙◌, subst}
use Rattle.std.specs.Arc.{arc_value}
use Rattle.std.specs.Prelude.{IfSome}
use Rattle.schemes.specs.declared.parts.Parts.{Parts}
use Rattle.request_lists.specs.declared.builds.Builds.TheVariants.{Beside}
use Rattle.committer_thread.specs.Beside.{graph_of}
use Rattle.committer_thread.proofs.OnWay.{earlier_of, is_ahead}
use Rattle.committer_thread.proofs.Pace.{shown_posted}
use Rattle.committer_thread.proofs.beside.post.Goals as goal

pub announce_earlier-requires-clause-ahead : goal.announce_earlier-requires-clause-ahead
announce_earlier-requires-clause-ahead g c =
    let number : c.parts.result.now.generation ≡ (graph_of c.args.build).generation = ap (λ (p : Parts). p.generation) (c.parts.ensures ∙ c.deref.ensures) ∙ c.in_ok-scheme.ensures.named in
    is_ahead c.args.committer.now c.args.newest c.parts.result.now.generation c.requires.shown (subst (λ (n : ℕ). IfSome c.args.newest (λ k. k < n)) (sym number) c.requires.way.ahead)

pub announce_earlier-requires-clause-earlier : goal.announce_earlier-requires-clause-earlier
announce_earlier-requires-clause-earlier g c =
    earlier_of _ c.args.committer.now c.args.newest c.parts.result.now.generation (graph_of c.args.build) (arc_value c.in_ok-scheme.scheme) c.requires.held c.requires.way c.in_ok-scheme.ensures (ap (λ (p : Parts). p.generation) (c.parts.ensures ∙ c.deref.ensures))

pub returns-in-Err-refresh-clause-listed : goal.returns-in-Err-refresh-clause-listed
returns-in-Err-refresh-clause-listed g c is = c.refresh.ensures.listed Beside _ (c.announce_earlier.ensures.listed is)

pub returns-clause-listed : goal.returns-clause-listed
returns-clause-listed g c is = c.refresh.ensures.listed Beside _ (c.announce_earlier.ensures.listed is)

pub returns-clause-number : goal.returns-clause-number
returns-clause-number g c = ap (λ (p : Parts). p.generation) (c.parts.ensures ∙ c.deref.ensures) ∙ c.in_ok-scheme.ensures.named

pub returns-clause-shown : goal.returns-clause-shown
returns-clause-shown g c =
    shown_posted c.args.committer.now c.refresh.new.self c.parts.result.now.generation (arc_value c.in_ok-scheme.scheme) (c.refresh.ensures.posts ∙ c.in-Ok.ensures.posted)

pub stand_of-requires-clause-shown : goal.stand_of-requires-clause-shown
stand_of-requires-clause-shown g c =
    shown_posted c.args.committer.now c.refresh.new.self c.parts.result.now.generation (arc_value c.in_ok-scheme.scheme) (c.refresh.ensures.posts ∙ c.in-Ok.ensures.posted)
