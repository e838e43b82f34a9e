use Rattle.std.proofs.Common.{◌++◌, ◌∙◌, ap, length-set}
use Rattle.schemes.specs.Tables.{items_at}
use Rattle.std.proofs.lemmas.Result.{on_ok_weaker}
use Rattle.schemes.proofs.Basics.Places.{items_read, items_set, items_other}
use Rattle.node_table.proofs.partial.append_at.Goals as goal

pub returns : goal.returns
returns c = on_ok_weaker c.append.result (λ joined. record {
  length_is = length-set c.args.lists.now.items c.args.at c.append.new.list;
  length_left = length-set c.args.next.now.items c.args.at c.append.new.more;
  joined =
      items_set c.args.lists.now.items c.args.at c.append.new.list c.requires.here ∙ joined
      ∙ ap (λ xs. xs ++ c.index_mut-2.result.now.items) (items_read c.args.lists.now.items c.args.at c.index_mut.result.now c.requires.here c.index_mut.ensures.value)
      ∙ ap (λ ys. items_at c.args.lists.now.items c.args.at ++ ys) (items_read c.args.next.now.items c.args.at c.index_mut-2.result.now c.requires.there c.index_mut-2.ensures.value);
  others = λ x other. items_other c.args.lists.now.items c.args.at x c.append.new.list other;
  rest = λ x other. items_other c.args.next.now.items c.args.at x c.append.new.more other;
}) c.append.ensures
