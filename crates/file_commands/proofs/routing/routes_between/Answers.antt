use Rattle.std.proofs.Common.{◌∙◌, ◌+◌, ◌∷◌, ◌++◌, [], ℕ, List, arith, get_or, subst, sym, take}
use Rattle.std.proofs.lemmas.List.{take_more}
use Rattle.scheme_builds.specs.declared.queries.Route.{Route}
use Rattle.single_route.specs.Answers.{Routes}
use Rattle.file_commands.specs.SchemeAnswers.{AreRoutesUnder, IsRouteUnder}
use Rattle.file_commands.proofs.ManyRoutes.{one_route_more}
use Rattle.file_commands.proofs.routing.routes_between.Goals as goal

pub loop-pair-preserved : goal.loop-pair-preserved
loop-pair-preserved c =
    let m = c.args.routes.now.graph in
    let flags = c.args.routes.now.flags in
    let pairs = c.args.pairs.now in
    let i = c.loop-pair.pair-index in
    let pair = get_or pairs i (0, 0) in
    let route : IsRouteUnder m flags pair.0 pair.1 c.in_ok-route.route =
    subst (λ (r : Routes). IsRouteUnder r.graph r.flags pair.0 pair.1 c.in_ok-route.route) c.loop-pair.invariant.kept c.in_ok-route.ensures.route in
    let more : AreRoutesUnder m flags (take i pairs ++ pair ∷ []) (c.loop-pair.found.items ++ c.in_ok-route.route ∷ []) =
    one_route_more m flags (take i pairs) c.loop-pair.found.items pair c.in_ok-route.route c.loop-pair.invariant.found route in
    let taken : AreRoutesUnder m flags (take (i + 1) pairs) (c.loop-pair.found.items ++ c.in_ok-route.route ∷ []) =
    subst (λ (ps : List (ℕ × ℕ)). AreRoutesUnder m flags ps (c.loop-pair.found.items ++ c.in_ok-route.route ∷ [])) (sym (take_more pairs i (0, 0) (omega arith))) more in
    record {
      kept = c.route_between.ensures.kept ∙ c.loop-pair.invariant.kept;
      found = subst (λ (rs : List Route). AreRoutesUnder m flags (take (i + 1) pairs) rs) (sym c.in_ok-push.ensures.items) taken;
    }
