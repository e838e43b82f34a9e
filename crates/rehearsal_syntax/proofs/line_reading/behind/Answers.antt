use Rattle.std.proofs.Common.{◌∙◌, sym, ap, List, ◌++◌, ℕ, drop}
use Rattle.std.proofs.lemmas.List.Prefix.{front_rest}
use Rattle.std.proofs.lemmas.Option.{MatchOption-at_none, MatchOption-at_some}
use Rattle.rehearsal_syntax.proofs.line_reading.behind.Goals as goal

pub returns-in-Some : goal.returns-in-Some
returns-in-Some c =
    let strips = MatchOption-at_some _ _ _ c.in-Some.is c.strip_prefix.ensures.cases in
    record {
      found = strips.1.1 ∙ ap (λ (v : List ℕ). c.args.name.now ++ v) (sym strips.2);
      only = λ value is. strips.2 ∙ ap (λ (n : ℕ). drop n c.args.field.now) strips.1.0 ∙ front_rest c.args.field.now c.args.name.now value is;
    }

pub returns-in-None : goal.returns-in-None
returns-in-None c = record { found = tt; only = λ value is. absurd (MatchOption-at_none _ _ c.in-None.is c.strip_prefix.ensures.cases value is) }
