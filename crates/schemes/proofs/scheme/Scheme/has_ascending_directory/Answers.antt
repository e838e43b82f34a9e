use Rattle.std.proofs.Common.{subst}
use Rattle.std.specs.Prelude.{IsTrue, ◌↔◌}
use Rattle.std.specs.List.Sorted.{IsStrictlyIncreasing}
use Rattle.schemes.specs.Tables.{nodes_of}
use Rattle.schemes.proofs.scheme.Scheme.has_ascending_directory.Goals as goal

pub returns : goal.returns
returns c = subst (λ directory. IsTrue c.do_ascend.result ↔ IsStrictlyIncreasing (nodes_of directory)) c.directory_of.ensures c.do_ascend.ensures
