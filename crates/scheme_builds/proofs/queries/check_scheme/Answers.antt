use Rattle.std.proofs.Common.{rules, ◌≡◌, ◌∙◌, sym, ap, subst, count_by}
use Rattle.std.specs.Prelude.{None}
use Rattle.scheme_builds.specs.Queries.{IsFaultIn}
use Rattle.scheme_builds.proofs.queries.check_scheme.Goals as goal

pub returns : goal.returns
returns g c =
    let passes : c.err-fault.result ≡ None = search rules in
    let is = c.in_ok-judged.ensures in
    record {
      passes = passes;
      count = (is.landmarks.0, (is.landmarks.1.0, c.landmark_count-landmarks.ensures ∙ ap (count_by (λ flag. flag)) is.landmarks.1.1));
      scheme = (c.in_ok-judged.judged, (is, subst (IsFaultIn c.args.graph.now c.in_ok-judged.judged) (sym passes) is.checked));
    }
