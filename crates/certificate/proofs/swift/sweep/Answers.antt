use Rattle.certificate.proofs.Words.{◌≡◌, ◌∙◌, ap, arith, get_or, subst, sym, Some, slice_index, Entry, entries_at, first_entry, some_is}
use Rattle.certificate.proofs.LookUps.{found_at}
use Rattle.certificate.proofs.TreeLemmas.{gone_on}
use Rattle.certificate.proofs.swift.sweep.Goals as goal

pub returns-clause-on : goal.returns-clause-on
returns-clause-on c = gone_on c.args.graph.now c.args.scheme.now c.args.x c.saturating_add.result c.args.root c.args.places.now c.in-Some.entry.now (omega (arith, c.requires.inside, c.requires.room)) c.in-Some.ensures.within c.in-Some.ensures.entry c.in-Some.ensures.root
    (omega (arith, c.saturating_add.ensures)) (c.is_swept.ensures.0 c.if-not-is_swept.false) (c.is_strict.ensures.0 c.if-not-is_strict.false) c.requires.listed

pub returns-clause-there : goal.returns-clause-there
returns-clause-there c _ =
    let es = entries_at c.args.scheme.now c.args.x in
    let e = c.in-Some.entry.now in
    let at = slice_index c.args.places.now c.args.x in
    some_is (subst (λ z. first_entry z es ≡ Some (get_or es at e)) (ap (λ (z : Entry). z.root) (sym c.in-Some.ensures.entry) ∙ c.in-Some.ensures.root) (found_at es (c.requires.ascend c.args.x) at e c.in-Some.ensures.within))
