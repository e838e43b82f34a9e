use Rattle.std.proofs.Common.{◌≡◌, ◌++◌, ◌∷◌, length, take}
use Rattle.std.specs.List.{flat_map, AllByRecursion}
use Rattle.journal.specs.ChangeForm.{op_form}
use Rattle.journal.proofs.ops.put_change.Given as goal

abbrev pub invariant-loop-op : goal.invariant-loop-op
invariant-loop-op l = record {
  text : l.out.items ≡ l.fn.out.items ++ length l.ops ∷ flat_map op_form.text (take l.op-index l.ops);
  each : AllByRecursion op_form.Fits (take l.op-index l.ops);
}
