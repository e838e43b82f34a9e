use Rattle.std.proofs.Common.{◌≡◌, ◌+◌, ◌++◌, drop, string_bytes}
use Rattle.device_info.specs.Changes.{change_lines, last_lines}
use Rattle.device_info.proofs.changes.RecentChanges.text.Given as goal

abbrev pub invariant-loop-index : goal.invariant-loop-index
invariant-loop-index l = string_bytes l.text ++ change_lines (l.self.before + l.index) (drop l.index l.self.requests.items) ≡ last_lines l.fn.last l.self
