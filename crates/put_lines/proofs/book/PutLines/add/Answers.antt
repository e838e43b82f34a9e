use Rattle.std.proofs.Common.{rules, ◌≡◌, ◌==◌, ◌∙◌, ◌++◌, ◌∷◌, [], ap, subst, sym, length, List}
use Rattle.std.proofs.lemmas.Bool.{eq-eqb}
use mathlib.Core.List.{IsPrefix}
use Rattle.put_lines.specs.declared.put_line.PutLine.{PutLine}
use Rattle.put_lines.specs.Lines.{lines_of_session}
use Rattle.put_lines.proofs.Appending.{added_so, adds_moves, word_in}
use Rattle.put_lines.proofs.book.PutLines.add.Goals as goal

pub compare_exchange-found-requires : goal.compare_exchange-found-requires
compare_exchange-found-requires c =
    let line = c.args.line.now in
    let word = word_in c.book.inside.first.book c.book.inside.words.items line.session c.index-word.result.now c.book.invariant.1 (search rules) (search rules) in
    let offer = c.plain-offer.ensures in
    let pen = c.no_pen-pen.ensures in
    let s = c.again-seen.ensures in
    let b = ap (λ z. z.book) s ∙ (ap (λ w. w.book) c.self.view_is ∙ (sym c.requires.book ∙ (sym (ap (λ w. w.book) c.book.view_is) ∙ sym (ap (λ w. w.book) word.1)))) in (
      ap (λ w. w.tracked) word.1,
      b,
      pen.0 ∙ b,
      offer.0,
      rw (ap (λ w. w.key) word.1, pen.1, offer.1, offer.3)
          (adds_moves c.again-seen.result.log line c.args.number (ap (λ z. length (lines_of_session line.session z.log)) s ∙ (ap (λ w. length (lines_of_session line.session w.lines)) c.self.view_is ∙ sym c.requires.number)) word.0),
    )

pub returns : goal.returns
returns c =
    let found = c.compare_exchange-found.ensures in
    let new = c.compare_exchange-found.new.seen.log in
    let s = c.again-seen.ensures in
    let log = ap (λ z. z.log) s ∙ ap (λ w. w.lines) c.self.view_is in
    let added = added_so (c.compare_exchange-found.result == c.args.number) new c.again-seen.result.log c.plain-offer.result.ask c.args.line.now found.7 (eq-eqb c.compare_exchange-found.result c.args.number c.if-found-number.false) c.plain-offer.ensures.1 in
    record {
      book = found.0 ∙ (ap (λ z. z.book) s ∙ ap (λ w. w.book) c.self.view_is);
      on = subst (λ (l : List PutLine). IsPrefix l new) log found.6;
      added = subst (λ (l : List PutLine). lines_of_session c.args.line.now.session new ≡ lines_of_session c.args.line.now.session l ++ c.args.line.now ∷ []) log added;
    }
