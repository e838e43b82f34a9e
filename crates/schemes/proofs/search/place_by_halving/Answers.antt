use Rattle.std.proofs.Common.{map, ◌∙◌}
use Rattle.schemes.proofs.Basics.Searches.{located}
use Rattle.schemes.proofs.search.place_by_halving.Goals as goal

pub returns-clause-place : goal.returns-clause-place
returns-clause-place g c =
    c.ok.ensures.value ∙ located (map g.T.Keyed.key c.args.items.now) c.args.number c.halve_between-place.result.0 c.requires c.halve_between-place.ensures.place
