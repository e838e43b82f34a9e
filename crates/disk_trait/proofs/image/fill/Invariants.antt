use Rattle.std.proofs.Common.{◌≡◌, ◌++◌, take, drop}
use Rattle.disk_trait.specs.Image.{filled}
use Rattle.disk_trait.proofs.image.fill.Given as goal

-- what is done, and what the rest will be
abbrev pub invariant-loop-place : goal.invariant-loop-place
invariant-loop-place l = take l.place l.bytes ++ filled (drop l.place l.unsettled) (drop l.place l.bytes) (λ _. l.value) 0 ≡ filled l.unsettled l.initial.bytes (λ _. l.value) 0
