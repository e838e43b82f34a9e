use Rattle.std.proofs.Common.{◌≡◌, ◌++◌, take, string_bytes}
use Rattle.device_info.specs.Changes.{ops_text}
use Rattle.device_info.proofs.changes.push_ops.Given as goal

abbrev pub invariant-loop-op : goal.invariant-loop-op
invariant-loop-op l = string_bytes l.text ≡ string_bytes l.initial.text ++ ops_text (take l.op-index l.ops)
