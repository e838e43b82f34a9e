use Rattle.std.proofs.Common.{◌≡◌, [], drop, sym, subst}
use Rattle.std.proofs.lemmas.List.{drop_all}
use Rattle.single_route.specs.Ways.{IsMeasured}
use Rattle.single_route.proofs.WayPorts.{measuring_end}
use Rattle.single_route.proofs.ways.measured.Goals as goal

pub returns : goal.returns
returns c =
    let g = c.args.graph.now in
    let first = c.in-Some.first.now in
    let rest = c.in-Some.rest.now in
    let is = c.in-Some.ensures.cases.0 in
    let none : drop c.loop-next.next-index rest ≡ [] = drop_all c.loop-next.next-index rest c.loop-next-test.false in
    let end = measuring_end g first rest (drop c.loop-next.next-index rest) c.loop-next.ports.items c.loop-next.length c.loop-next.at none c.loop-next.invariant in
    subst (λ z. IsMeasured g z c.loop-next.ports.items c.loop-next.length) (sym is) end
