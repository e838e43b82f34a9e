use Rattle.std.proofs.Common.{rules, ◌≡◌, ◌≢◌, ℕ, inr, ap, sym, ◌∙◌, subst, IsTrue, Some, false, true}
use Rattle.std.specs.Arc.{arc_value}
use Rattle.checkpoint.specs.StoreWords.{state_of, is_down}
use Rattle.graph_edits.specs.Edges.{Network}
use Rattle.schemes.specs.declared.parts.Parts.{Parts}
use Rattle.scheme_builds.specs.Schemes.{IsSchemeOf}
use Rattle.generations.specs.declared.posting.Notice.TheVariants.{Built}
use Rattle.event_model.specs.Machines.{Machine, with_posted}
use Rattle.event_model.specs.Answers.{post, newest_number, IsBuilt}
use Rattle.interleave.specs.WorldWords.{machine_of}
use Rattle.interleave.proofs.world.World.build.Goals as goal

pub returns-then-append-clause-answers : goal.returns-then-append-clause-answers
returns-then-append-clause-answers g c =
    let m : Machine = machine_of c.args.self.now in
    let mid : Machine = machine_of c.post_due.new.self in
    let n : Machine = machine_of c.append.new.self in
    let scheme : Parts = arc_value c.in-Ok.scheme in
    let posted : c.post_due.result ≡ true = search rules in
    let is : mid ≡ (post m).after = c.post_due.ensures.done posted in
    let count : c.count-generation.result ≡ mid.state.count = c.count-generation.ensures.same ∙ ap (λ s. (state_of s).count) c.store-2.ensures in
    let graph : c.graph.result.now ≡ mid.state.graph = c.graph.ensures ∙ ap (λ s. (state_of s).graph) c.store-3.ensures in
    let other : newest_number mid.postings ≢ Some mid.state.count = λ e.
    let h : IsTrue c.is_newest.result = c.is_newest.ensures.1 (e ∙ ap Some (sym count)) in absurd (let z : false ≡ true = sym c.if-is_newest.false ∙ h in cc) in
    let good : IsSchemeOf mid.state.graph c.args.words.now mid.state.count scheme = subst (λ (x : Network × ℕ). IsSchemeOf x.0 c.args.words.now x.1 scheme) (λ i. (graph i, count i)) c.in-Ok.ensures in
    let after : n ≡ with_posted mid (Built mid.state.count scheme) = c.append.ensures.done c.if-append.true ∙ ap (λ (k : ℕ). with_posted mid (Built k scheme)) count in
    let built : IsBuilt c.args.words.now mid n = inr (other, (scheme, (good, after))) in (
      sym (ap (λ s. is_down s) c.store.ensures) ∙ sym c.is_down.ensures ∙ c.if-is_down.false,
      count ∙ ap (λ s. (state_of s).count) c.post_due.ensures.store,
      subst (λ (k : Machine). IsBuilt c.args.words.now k n) is built,
    )
