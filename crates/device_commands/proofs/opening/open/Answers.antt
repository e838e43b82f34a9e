use Rattle.device_commands.proofs.OpenFaults.{not_opened}
use Rattle.device_commands.proofs.opening.open.Goals as goal

pub returns-in-Err-clause-refused : goal.returns-in-Err-clause-refused
returns-in-Err-clause-refused g c = not_opened _ _ c.in-Err.refused _ c.fault_of.ensures c.in-Err.ensures.refused
