use Rattle.std.proofs.Common.{◌≡◌, Some, ap, sym, subst}
use Rattle.schemes.specs.declared.parts.Parts.{Parts}
use Rattle.generations.specs.Boards.{scheme_of}
use Rattle.forwarders.specs.Answers.{Shelf}
use Rattle.line_workers.proofs.tabling.newest_on.Goals as goal

pub returns : goal.returns
returns c = record {
  scheme = c.in_ok-scheme.scheme.now;
  latest = sym c.in_ok-generation.ensures;
  shown = subst (λ (shelf : Shelf). scheme_of c.in_ok-generation.generation shelf ≡ Some c.in_ok-scheme.scheme.now) c.shelf.ensures c.in_ok-scheme.ensures;
  size = ap (λ (p : Parts). p.nodes) (sym c.parts.ensures);
}
