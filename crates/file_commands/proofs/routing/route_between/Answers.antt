use Rattle.std.proofs.Common.{rules, subst, Result}
use Rattle.schemes.specs.declared.trail.Trail.{Trail}
use Rattle.single_route.specs.Answers.{IsAnswer}
use Rattle.single_route.specs.declared.no_trail.NoTrail.{NoTrail}
use Rattle.file_commands.proofs.ManyRoutes.{none_routes, trail_routes}
use Rattle.file_commands.proofs.routing.route_between.Goals as goal

pub returns-in-Ok-clause-route : goal.returns-in-Ok-clause-route
returns-in-Ok-clause-route c =
    let m = c.args.routes.now.graph in
    let flags = c.args.routes.now.flags in
    trail_routes m flags c.args.from c.args.to c.in-Ok.trail c.requires.sound c.requires.from c.requires.to c.trail_laws.ensures.one c.trail_laws.ensures.carried
    (subst (λ (r : Result Trail NoTrail). IsAnswer m flags c.args.from c.args.to r) c.in-Ok.is c.route.ensures.answer)

pub returns-in-Err-Unreachable-clause-route : goal.returns-in-Err-Unreachable-clause-route
returns-in-Err-Unreachable-clause-route c =
    let m = c.args.routes.now.graph in
    let flags = c.args.routes.now.flags in
    none_routes m flags c.args.from c.args.to c.requires.sound c.requires.from c.requires.to c.trail_laws.ensures.good c.trail_laws.ensures.carried
    (subst (λ (r : Result Trail NoTrail). IsAnswer m flags c.args.from c.args.to r) (search rules) c.route.ensures.answer)
