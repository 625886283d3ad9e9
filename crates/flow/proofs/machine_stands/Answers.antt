use Rattle.flow.proofs.Lawful.{machine_laws}
use Rattle.flow.proofs.machine_stands.Goals as goal

pub returns : goal.returns
returns c = machine_laws
