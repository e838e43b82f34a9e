use Rattle.std.proofs.Common.{◌≡◌, ◌*◌, ◌+◌, ◌%◌, ◌∷◌, ◌∙◌, ◌<◌, arith, inl, length, refl, ℕ, List, ap, subst, sym}
use Rattle.std.proofs.lemmas.List.{get_or_read, take_all}
use Rattle.command_line.specs.Asked.{AreEnds, nodes_of}
use Rattle.command_line.specs.Readings.{rows_in}
use Rattle.command_line.proofs.Nodes.{ends_of, never_odd, next_pair, one_pairs, part_refused}
use Rattle.command_line.proofs.arguments.Arguments.pairs.Goals as goal

pub returns-in_err-from : goal.returns-in_err-from
returns-in_err-from c =
    part_refused _ _ c.from_residual.result c.in_err-from.field-0.0 c.from_residual.ensures.1 c.in_err-from.ensures.refusals
    (λ pairs are. let parts = ends_of (rows_in c.args.self.now) (nodes_of pairs) are in c.in_err-from.ensures.only parts.0 parts.3)

pub returns-in_err-to : goal.returns-in_err-to
returns-in_err-to c =
    part_refused _ _ c.from_residual-in_err-to.result c.in_err-to.field-0.0 c.from_residual-in_err-to.ensures.1 c.in_err-to.ensures.refusals
    (λ pairs are. let parts = ends_of (rows_in c.args.self.now) (nodes_of pairs) are in c.in_err-to.ensures.only parts.1 parts.4)

pub returns-in_err-more : goal.returns-in_err-more
returns-in_err-more c =
    part_refused _ _ c.from_residual-in_err-more.result c.in_err-more.field-0.0 c.from_residual-in_err-more.ensures.1 c.in_err-more.ensures.refusals
    (λ pairs are. let parts = ends_of (rows_in c.args.self.now) (nodes_of pairs) are in c.in_err-more.ensures.only parts.2 parts.5)

pub returns-then-len-eq1 : goal.returns-then-len-eq1
returns-then-len-eq1 c = record {
  found = tt;
  same = λ pairs are. tt;
  only = λ pairs are.
      let parts = ends_of (rows_in c.args.self.now) (nodes_of pairs) are in
      let odd : length c.in_ok-more.more.items % 2 ≡ 1 = omega arith in
      absurd (never_odd pairs parts.0 parts.1 c.in_ok-more.more.items parts.2 (c.in_ok-more.ensures.same parts.2 parts.5) parts.6 odd);
  refusals = inl refl;
}

pub loop-i-preserved : goal.loop-i-preserved
loop-i-preserved c =
    let more = c.in_ok-more.more.items in
    let i = c.loop-i.i in
    let within : 2 * i + 1 < length more = omega arith in
    let first = get_or_read more (2 * i) c.index.result.now (omega (arith, within)) c.index.ensures 0 in
    let second = get_or_read more (2 * i + 1) c.index-in-loop-i.result.now within c.index-in-loop-i.ensures 0 in
    record { made = ap nodes_of c.in_ok-push-2.ensures.items ∙ next_pair c.loop-i.pairs.items _ _ more i _ _ first second c.loop-i.invariant.made within }

pub returns : goal.returns
returns c =
    let rows = rows_in c.args.self.now in
    let from = c.in_ok-from.field-0 in
    let to = c.in_ok-to.field-0 in
    let more = c.in_ok-more.more.items in
    let whole : nodes_of c.loop-i.pairs.items ≡ from ∷ to ∷ more =
    c.loop-i.invariant.made ∙ ap (λ (nodes : List ℕ). from ∷ to ∷ nodes) (take_all (2 * c.loop-i.i) more (omega arith)) in
    record {
      found = subst (λ (nodes : List ℕ). AreEnds rows nodes) (sym whole) (c.in_ok-from.ensures.found, c.in_ok-to.ensures.found, c.in_ok-more.ensures.found);
      same = λ pairs are.
          let parts = ends_of rows (nodes_of pairs) are in
          let first : from ≡ parts.0 = c.in_ok-from.ensures.same parts.0 parts.3 in
          let second : to ≡ parts.1 = c.in_ok-to.ensures.same parts.1 parts.4 in
          let rest : more ≡ parts.2 = c.in_ok-more.ensures.same parts.2 parts.5 in
          let all : from ∷ to ∷ more ≡ parts.0 ∷ parts.1 ∷ parts.2 = cc in
          one_pairs c.loop-i.pairs.items pairs (whole ∙ all ∙ sym parts.6);
      only = λ pairs are. tt;
      refusals = tt;
    }
