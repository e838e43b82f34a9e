use Rattle.std.proofs.Common.{rules, arith, ◌≡◌, ◌<◌, ◌∙◌, ◌∷◌, sym, ap, map, decimal}
use Rattle.value_syntax.specs.OpText.{op_text}
use Rattle.value_syntax.specs.declared.line.ScriptLine.TheVariants.{Edit, Route}
use Rattle.value_syntax.specs.Reading.{texts_of}
use Rattle.value_syntax.specs.Scripts.{IsChange, words_of}
use Rattle.value_syntax.proofs.Written.{edit_alone, nothing_read, one_route}
use Rattle.value_syntax.proofs.reading.line_in.Goals as goal

pub returns-in-Some-clause-only : goal.returns-in-Some-clause-only
returns-in-Some-clause-only c =
    let words : texts_of c.deref.result.now ≡ words_of c.args.text.now =
    ap texts_of c.deref.ensures.value ∙ c.in_ok-words.ensures in
    let found : (texts_of c.deref.result.now ≡ decimal c.in-Some.session ∷ map op_text c.in-Some.change) × (c.in-Some.session < c.args.editors) × IsChange c.in-Some.change = search rules in
    edit_alone c.args.editors c.in-Some.session c.in-Some.change (words_of c.args.text.now) c.in_ok-session.field-0 (omega (arith, found.1, c.ranges.editors.fits)) c.in-Some.is (sym words ∙ found.0)
    (λ session ops lt change same. c.in_ok-session.ensures.only (session, ops) (words ∙ same, lt, change))

pub returns-in-Some-2-clause-only : goal.returns-in-Some-2-clause-only
returns-in-Some-2-clause-only c (Edit session ops) stand is =
    let words : texts_of c.deref.result.now ≡ words_of c.args.text.now = ap texts_of c.deref.ensures.value ∙ c.in_ok-words.ensures in
    absurd (c.in_default.not-Some (session, ops) (c.in_ok-session.ensures.only (session, ops) (words ∙ is, stand.0, stand.1)))
returns-in-Some-2-clause-only c (Route from to) stand is =
    let words : texts_of c.deref-2.result.now ≡ words_of c.args.text.now = ap texts_of c.deref-2.ensures.value ∙ c.in_ok-words.ensures in
    one_route c.in-Some-2.from c.in-Some-2.to from to c.in_ok-from.field-0 c.in-Some-2.is (c.in_ok-from.ensures.only from to stand.0 stand.1 (words ∙ is))

pub returns-clause-only : goal.returns-clause-only
returns-clause-only c (Edit session ops) stand is =
    let words : texts_of c.deref.result.now ≡ words_of c.args.text.now = ap texts_of c.deref.ensures.value ∙ c.in_ok-words.ensures in
    absurd (c.in_default.not-Some (session, ops) (c.in_ok-session.ensures.only (session, ops) (words ∙ is, stand.0, stand.1)))
returns-clause-only c (Route from to) stand is =
    let words : texts_of c.deref-2.result.now ≡ words_of c.args.text.now = ap texts_of c.deref-2.ensures.value ∙ c.in_ok-words.ensures in
    nothing_read (from, to) (Route from to) c.in_ok-from.field-0 c.in-None.is (c.in_ok-from.ensures.only from to stand.0 stand.1 (words ∙ is))
