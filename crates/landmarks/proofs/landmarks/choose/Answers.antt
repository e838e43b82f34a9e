use Rattle.landmarks.proofs.landmarks.choose.Goals as goal

pub returns : goal.returns
returns c = (c.bound.result, (c.bound.ensures, c.in_ok-flags.ensures))
