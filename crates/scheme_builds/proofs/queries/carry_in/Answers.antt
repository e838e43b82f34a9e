use Rattle.std.proofs.Common.{◌≡◌, subst}
use Rattle.std.specs.Prelude.{IfOk}
use Rattle.schemes.specs.Service.{address}
use Rattle.schemes.specs.Tables.{tables}
use Rattle.schemes.specs.Trails.{IsTrailOf}
use Rattle.scheme_builds.proofs.Addresses.{never_refused, own_address}
use Rattle.scheme_builds.proofs.queries.carry_in.Goals as goal

pub unreachable-requires : goal.unreachable-requires
unreachable-requires c = never_refused c.args.graph.now c.args.scheme.now c.args.to c.address.result c.in_default.field-0 c.requires.checked c.requires.to c.address.ensures c.in_default.is

pub returns : goal.returns
returns c =
    let own : c.in-Ok.address ≡ address (tables c.args.scheme.now) c.args.to = own_address c.args.graph.now c.args.scheme.now c.args.to c.address.result c.in-Ok.address c.requires.checked c.requires.to c.address.ensures c.in-Ok.is in
    record {
      trail = subst (λ a. IfOk c.carry.result (λ trail. IsTrailOf (tables c.args.scheme.now) c.args.from a trail)) own c.carry.ensures.trail;
      connected = λ xs walk. c.carry.ensures.connected c.args.graph.now c.args.to xs c.graph_is_sound.ensures c.requires.checked c.requires.from c.requires.to own walk;
      apart = λ none. c.carry.ensures.apart c.args.graph.now c.args.to c.graph_is_sound.ensures c.requires.checked c.requires.from c.requires.to own none;
    }
