-- What a fault of a run says of its output.
use Rattle.std.specs.Prelude.{◌≡◌}
use Rattle.router_runs.specs.declared.talking.RunFault.{RunFault}
use Rattle.router_runs.specs.declared.talking.RunFault.TheVariants.{Input, Output, Memory}

-- a fault of printing: the output failed, or it is as it was, and memory ran out
abbrev pub LeavesOutput : {W : Type 0} → RunFault → W → W → Type 0
LeavesOutput (Input error) old new = ⊥
LeavesOutput (Output error) old new = Unit {0}
LeavesOutput Memory old new = new ≡ old

-- the output failed, or this holds
abbrev pub IsOutputFault : RunFault → Type 0 → Type 0
IsOutputFault (Input error) P = P
IsOutputFault (Output error) P = Unit {0}
IsOutputFault Memory P = P
