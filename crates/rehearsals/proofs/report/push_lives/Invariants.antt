use Rattle.std.proofs.Common.{◌≡◌, ◌++◌, take}
use Rattle.std.specs.List.{flat_map}
use Rattle.std.specs.String.{string_bytes}
use Rattle.rehearsals.specs.Reports.{life_lines}
use Rattle.rehearsals.proofs.report.push_lives.Given as goal

abbrev pub invariant-loop-life : goal.invariant-loop-life
invariant-loop-life l = string_bytes l.text ≡ string_bytes l.initial.text ++ flat_map (life_lines l.is_whole) (take l.life-index l.lives)
