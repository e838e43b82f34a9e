use Rattle.std.proofs.Common.{◌≡◌, ◌∙◌, map, [], subst, sym, arith, rules}
use Rattle.heavy_labels.specs.Numbered.{seen, tree_briefs, IsNumberedFrom, LeadsEverywhere, HasFewLights}
use Rattle.heavy_labels.proofs.Briefs.{tree_lines_are, listed_count, tree_briefs_numbered}
use Rattle.heavy_labels.proofs.NumbersOf.{heads_numbers}
use Rattle.heavy_labels.proofs.Trips.{heads_lead, heads_few}
use Rattle.heavy_labels.proofs.preorder.number.Goals as goal

pub returns : goal.returns
returns g c =
    let t = c.args.tree.now in
    let shape = c.root-root.ensures.shape in
    let listed : map seen c.visit.new.out.items ≡ tree_briefs t 0 [] = search rules in
    let heads = listed ∙ sym (tree_lines_are t shape.up shape.down) in
    record {
      listed = listed;
      each = listed_count t 0 [] _ listed;
      in_order = subst (IsNumberedFrom 0) (sym listed) (tree_briefs_numbered t 0 []);
      heads = heads;
      leads = subst (LeadsEverywhere t) (sym heads) (heads_lead t shape.ports);
      few = subst HasFewLights (sym heads) (heads_few t shape.heavy shape.heavy_below (omega (arith, shape.few)));
      numbers = heads_numbers t _ heads;
    }
