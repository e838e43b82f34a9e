use Rattle.std.proofs.Common.{subst}
use Rattle.std.specs.Prelude.{IsTrue, ◌↔◌}
use Rattle.std.specs.List.Sorted.{IsStrictlyIncreasing}
use Rattle.schemes.specs.Tables.{roots_of}
use Rattle.schemes.proofs.scheme.Scheme.has_ascending_roots.Goals as goal

pub returns : goal.returns
returns c = subst (λ entries. IsTrue c.do_ascend.result ↔ IsStrictlyIncreasing (roots_of entries)) c.entries_of.ensures c.do_ascend.ensures
