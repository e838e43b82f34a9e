use Rattle.std.proofs.Common.{◌≡◌, take}
use Rattle.lab_landmarks.specs.Sizes.{directory_bytes, kept}
use Rattle.lab_landmarks.proofs.sizes.directory_length.Given as goal

abbrev pub invariant-loop-listed : goal.invariant-loop-listed
invariant-loop-listed l = l.length ≡ kept (directory_bytes (take l.listed-index l.directory))
